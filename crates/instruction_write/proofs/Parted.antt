-- The parts of an instruction: dwords, operands, and dwords behind them.
use Prim.Native.Nat.{ℕ, zero, suc, ◌+◌, ◌-◌, ◌*◌, ◌%◌, ◌^◌, ◌<◌, ◌≤◌}
use mathlib.Core.Path.{◌≡◌, refl, sym, ◌∙◌, ap, subst}
use mathlib.Core.Bool.{Bool, true, false, cond}
use mathlib.Core.List.{List, [], ◌∷◌, ◌++◌, append_assoc, append-nil}
use native.Mathlib.Nat.{zero-add}
use native.Mathlib.Omega.{arith}
use lib.ListN.{length, take, drop, replicate, length-append, length-drop}
use lib.Seq.{take-append_seam, take_all}
use lib.Dec.{eqb, ltb}
use borrow.Rule.Slice.PartMut.{put_mid}
use Rattle.format.specs.Dwords.{Got, malformed, got, then, follows}
use Rattle.format.specs.Declarations.{Item, o, d, small, s, tail, list}
use Rattle.format.specs.Operands as op
use Rattle.format.specs.Operands.{Tree, none, plain, node}
use Rattle.format.specs.Instructions.{read_item, read_items}
use Rattle.format.specs.Rows.{tree_rows, tree_words, tree_table, parts_rows, parts_words, parts_table, top_level}
use Rattle.format.proofs.Dwords.{All, unmet, met, all_then, all_if, makes_dword, some_length, chain_linked}
use Rattle.format.proofs.Instructions.{makes_items}
use Rattle.format.proofs.Rows.{rows_append, words_append, table_append}
use Rattle.layouts.specs.declared.Shape.{Shape}
use Rattle.layouts.specs.Shapes.{items_of, listed, tailed}
use Rattle.instruction_fields.specs.Fields.{rest}
use Rattle.operand_rows.specs.Writes.{Over}
use Rattle.operand_rows.specs.declared.Sums.{Sums}
use Rattle.operand_rows.proofs.Lists.{lent_length, back, over_more, over_front, over_length}
use Rattle.tokens.proofs.Places.{left_at, read_within}
use Rattle.instruction_write.specs.Writes.{operands_of, Room, Put, WroteRun, BodyRoom, WroteBody}
use Rattle.instruction_write.proofs.Looping.{all_got, first_of}

-- parts that are dwords as they are
data Plain : List Tree → Type 0 where
  nothing : Plain []
  also : (x : List ℕ) {l : List Tree} → Plain l → Plain (plain x none ∷ l)

data IsPlain : Tree → Type 0 where
  is_plain : (x : List ℕ) → IsPlain (plain x none)

also_plain : {t : Tree} {l : List Tree} → IsPlain t → Plain l → Plain (t ∷ l)
also_plain (is_plain x) p = also x p

plain_rows : {ps : List Tree} → Plain ps → parts_rows ps ≡ 0
unfolding parts_rows tree_rows
plain_rows nothing = refl
plain_rows (also x p) = omega (arith, plain_rows p)

plain_words : {ps : List Tree} → Plain ps → parts_words ps ≡ op.parts_dwords ps
unfolding parts_words op.parts_dwords tree_words op.dwords
plain_words nothing = refl
plain_words (also x p) = ap (λ (l : List ℕ). (x ++ []) ++ l) (plain_words p)

plain_table : {ps : List Tree} (r w : ℕ) → Plain ps → parts_table r w ps ≡ []
unfolding parts_table tree_table tree_rows
plain_table r w nothing = refl
plain_table r w (also x p) = plain_table _ _ p

plain_top : {ps : List Tree} → Plain ps → top_level ps ≡ 0
unfolding top_level
plain_top nothing = refl
plain_top (also x p) = plain_top p

-- items that are dwords as they are
data Flat : Item → Type 0 where
  flat_d : Flat d
  flat_small : Flat small
  flat_s : Flat s
  flat_tail : Flat tail
  flat_list : {b : ℕ} → Flat (list b)

data Flats : List Item → Type 0 where
  no_items : Flats []
  one_flat : {i : Item} {l : List Item} → Flat i → Flats l → Flats (i ∷ l)

flat_item : (m : Bool) {i : Item} → Flat i → (ds : List ℕ) → All (λ x r. IsPlain x) (read_item m i ds)
unfolding read_item
flat_item m flat_d ds = all_then (some_length 1 ds) (λ x r e. met (is_plain x))
flat_item m flat_small ds = all_then (makes_dword ds) (λ x r e. all_if (ltb x 65_536) _ _ r (λ h. met (is_plain (x ∷ []))) (λ h. unmet))
flat_item m flat_s ds = all_then (some_length (cond m 1 0) ds) (λ x r e. met (is_plain x))
flat_item m flat_tail ds = met (is_plain ds)
flat_item m (flat_list {b}) ds = all_then (makes_dword ds) (λ n r e. all_then (some_length (n % 2 ^ b) r) (λ x q e₁. met (is_plain (n ∷ x))))

flat_items : (m : Bool) {l : List Item} → Flats l → (ds : List ℕ) → All (λ ps r. Plain ps) (read_items m l ds)
unfolding read_items
flat_items m no_items ds = met nothing
flat_items m (one_flat i l) ds = all_then (flat_item m i ds) (λ p r e. all_then (flat_items m l r) (λ ps q e₁. met (also_plain e e₁)))

flats_append : {a b : List Item} → Flats a → Flats b → Flats (a ++ b)
flats_append no_items q = q
flats_append (one_flat i p) q = one_flat i (flats_append p q)

flats_many : {i : Item} → Flat i → (k : ℕ) → Flats (replicate k i)
flats_many f zero = no_items
flats_many f (suc k) = one_flat f (flats_many f k)

flats_listed : (b : ℕ) → Flats (listed b)
flats_listed b = go (eqb b 0)
  where
    go : (x : Bool) → Flats (cond x [] (list b ∷ []))
    go true = no_items
    go false = one_flat flat_list no_items

flats_tailed : (b : Bool) → Flats (tailed b)
flats_tailed true = one_flat flat_tail no_items
flats_tailed false = no_items

flats_rest : (x : Shape) → Flats (rest x)
unfolding rest
flats_rest x = flats_append (flats_many flat_small x.small) (flats_append (flats_many flat_d x.after) (flats_append (flats_many flat_s x.extra) (flats_append (flats_listed x.list) (flats_tailed x.tail))))

-- k dwords
one_dword_lem : (m : Bool) (ds : List ℕ) → All (λ t r. length (op.dwords t) ≡ 1) (read_item m d ds)
unfolding read_item op.dwords
one_dword_lem m ds = all_then (some_length 1 ds) (λ x r e. met (ap length (append-nil x) ∙ e.1))

dwords_many : (m : Bool) (k : ℕ) (ds : List ℕ) → All (λ ps r. length (op.parts_dwords ps) ≡ k) (read_items m (replicate k d) ds)
unfolding read_items op.parts_dwords
dwords_many m zero ds = met refl
dwords_many m (suc k) ds =
    all_then (one_dword_lem m ds) (λ p r e.
    all_then (dwords_many m k r) (λ ps q e₁. met (length-append (op.dwords p) (op.parts_dwords ps) ∙ omega (arith, e, e₁))))

-- several lists of items
record Both (m : Bool) (a b : List Item) (ds : List ℕ) (ps : List Tree) (r : List ℕ) : Type 0 where
  front : List Tree
  behind : List Tree
  middle : List ℕ
  one : read_items m a ds ≡ got front middle
  two : read_items m b middle ≡ got behind r
  all : ps ≡ front ++ behind

both_of : (m : Bool) (a b : List Item) (ds : List ℕ) {ps : List Tree} {r : List ℕ} → read_items m (a ++ b) ds ≡ got ps r → Both m a b ds ps r
unfolding read_items
both_of m [] b ds {ps} e = record { front = []; behind = ps; middle = ds; one = refl; two = e; all = refl }
both_of m (i ∷ a) b ds {ps} {r} e =
    let f = first_of m i (a ++ b) ds e in
    let q = both_of m a b f.left f.others in
    record {
      front = f.tree ∷ q.front;
      behind = q.behind;
      middle = q.middle;
      one = rw (f.one, q.one);
      two = q.two;
      all = f.all ∙ ap (λ (l : List Tree). f.tree ∷ l) q.all;
    }

pub then_same : (f h : List ℕ → Got (List Tree)) → ((r : List ℕ) → f r ≡ h r) → (g : Got Tree) →
    then g (λ x r. then (f r) (λ ps q. got (x ∷ ps) q)) ≡ then g (λ x r. then (h r) (λ ps q. got (x ∷ ps) q))
then_same f h e malformed = refl
then_same f h e (got t r) = ap (λ (k : Got (List Tree)). then k (λ ps q. got (t ∷ ps) q)) (e r)

either_model : (m : Bool) (k : ℕ) (ds : List ℕ) → read_items m (replicate k o) ds ≡ operands_of k ds
unfolding read_items read_item
either_model m zero ds = refl
either_model m (suc k) ds = then_same (read_items m (replicate k o)) (operands_of k) (λ r. either_model m k r) (op.operand 64 ds)

-- operands are nodes
data Node : Tree → Type 0 where
  is_node : {t : ℕ} {e i : List ℕ} {a b c : Tree} → Node (node t e i a b c)

all_any : {A : Type 0} (g : Got A) → All (λ a r. ◌≡◌ {A = ℕ} 0 0) g
all_any malformed = unmet
all_any (got a r) = met refl

node_operand : (k : ℕ) (ds : List ℕ) → All (λ x r. Node x) (op.operand k ds)
unfolding op.operand op.read_immediates op.read_indices
node_operand zero ds = unmet
node_operand (suc k) ds =
    all_then (makes_dword ds) (λ t ds₁ e₁.
    all_then (chain_linked (follows t) ds₁) (λ e ds₂ e₂.
    all_if (op.immediate t) _ _ ds₂
    (λ z. all_if (eqb (op.dimension t) 0) _ _ ds₂ (λ y. all_then (some_length (op.immediates t) ds₂) (λ i r e₃. met is_node)) (λ y. unmet))
    (λ z.
    all_then (all_any (op.read_index (op.operand k) (op.repr 0 t) ds₂)) (λ a r₁ e₃.
    all_then (all_any (op.read_index (op.operand k) (op.repr 1 t) r₁)) (λ b r₂ e₄.
    all_then (all_any (op.read_index (op.operand k) (op.repr 2 t) r₂)) (λ c r₃ e₅. met is_node))))))

node_top : {t : Tree} (l : List Tree) → Node t → top_level (t ∷ l) ≡ 1 + top_level l
unfolding top_level
node_top l is_node = refl

nodes_many : (k : ℕ) (ds : List ℕ) → All (λ ps r. top_level ps ≡ k) (operands_of k ds)
unfolding read_items read_item top_level
nodes_many zero ds = met refl
nodes_many (suc k) ds = all_then (node_operand 64 ds) (λ t r e. all_then (nodes_many k r) (λ ps q e₁. met (node_top ps e ∙ omega (arith, e₁))))

plain_top_front : {ps : List Tree} (qs : List Tree) → Plain ps → top_level (ps ++ qs) ≡ top_level qs
unfolding top_level
plain_top_front qs nothing = refl
plain_top_front qs (also x p) = plain_top_front qs p

top_append : (p q : List Tree) → top_level (p ++ q) ≡ top_level p + top_level q
unfolding top_level
top_append [] q = omega arith
top_append (none ∷ p) q = top_append p q
top_append (plain x c ∷ p) q = top_append p q
top_append (node t e i a b c ∷ p) q = omega (arith, top_append p q)

front_over : (l xs ys : List ℕ) (n : ℕ) → n ≡ length l → ys ≡ l ++ drop n xs → Over 0 l xs ys
front_over l xs ys n en e = e ∙ rw (en, zero-add (length l))

-- all the items of a shape
pub record Three (m : Bool) (x : Shape) (ds : List ℕ) (at : ℕ) (ps : List Tree) : Type 0 where
  pub trees : List Tree
  pub left : List ℕ
  pub is : operands_of x.operands (drop (at + x.before) ds) ≡ got trees left
  pub end : ℕ
  pub end_is : end ≡ at + x.before + length (op.parts_dwords trees)
  pub starts : at + x.before ≤ length ds
  pub ends : end ≤ length ds
  pub rows_are : parts_rows ps ≡ parts_rows trees
  pub words_are : parts_words ps ≡ take x.before (drop at ds) ++ parts_words trees ++ drop end ds
  pub table_is : (r w : ℕ) → parts_table r w ps ≡ parts_table r (w + x.before) trees
  pub top_is : top_level ps ≡ x.operands
  pub before_long : length (take x.before (drop at ds)) ≡ x.before
  pub behind_long : length (drop end ds) ≡ length ds - end
  pub words_long : length (parts_words ps) ≡ x.before + length (parts_words trees) + (length ds - end)

pub three : (m : Bool) (x : Shape) (ds : List ℕ) (at : ℕ) (ps : List Tree) → at ≤ length ds → read_items m (items_of x) (drop at ds) ≡ got ps [] → Three m x ds at ps
unfolding items_of rest
three m x ds at ps h e =
    let b₁ = both_of m (replicate x.before d) (replicate x.operands o ++ rest x) (drop at ds) e in
    let b₂ = both_of m (replicate x.operands o) (rest x) b₁.middle b₁.two in
    let p₁ : List Tree = b₁.front in
    let p₂ : List Tree = b₂.front in
    let p₃ : List Tree = b₂.behind in
    let f₁ : Plain p₁ = all_got (flat_items m (flats_many flat_d x.before) (drop at ds)) b₁.one in
    let f₃ : Plain p₃ = all_got (flat_items m (flats_rest x) b₂.middle) b₂.two in
    let n₁ : length (op.parts_dwords p₁) ≡ x.before = all_got (dwords_many m x.before (drop at ds)) b₁.one in
    let m₁ : op.parts_dwords p₁ ++ b₁.middle ≡ drop at ds = all_got (makes_items m (replicate x.before d) (drop at ds)) b₁.one in
    let z₁ : at + length (op.parts_dwords p₁) ≡ at + x.before = omega (arith, n₁) in
    let l₁ : b₁.middle ≡ drop (at + x.before) ds = left_at ds (op.parts_dwords p₁) b₁.middle at m₁ ∙ ap (λ (n : ℕ). drop n ds) z₁ in
    let h₁ : at + x.before ≤ length ds = omega (arith, n₁, read_within ds (op.parts_dwords p₁) b₁.middle at m₁ h) in
    let m₂ : op.parts_dwords p₂ ++ b₂.middle ≡ drop (at + x.before) ds = all_got (makes_items m (replicate x.operands o) b₁.middle) b₂.one ∙ l₁ in
    let l₂ : b₂.middle ≡ drop (at + x.before + length (op.parts_dwords p₂)) ds = left_at ds (op.parts_dwords p₂) b₂.middle (at + x.before) m₂ in
    let h₂ : at + x.before + length (op.parts_dwords p₂) ≤ length ds = read_within ds (op.parts_dwords p₂) b₂.middle (at + x.before) m₂ h₁ in
    let m₃ : op.parts_dwords p₃ ++ [] ≡ b₂.middle = all_got (makes_items m (rest x) b₂.middle) b₂.two in
    let w₁ : parts_words p₁ ≡ take x.before (drop at ds) = plain_words f₁ ∙ sym (ap (λ (l : List ℕ). take x.before l) (sym m₁) ∙ ap (λ (n : ℕ). take n (op.parts_dwords p₁ ++ b₁.middle)) (sym n₁) ∙ take-append_seam (op.parts_dwords p₁) b₁.middle) in
    let w₃ : parts_words p₃ ≡ drop (at + x.before + length (op.parts_dwords p₂)) ds = plain_words f₃ ∙ sym (append-nil (op.parts_dwords p₃)) ∙ m₃ ∙ l₂ in
    let all : ps ≡ p₁ ++ (p₂ ++ p₃) = b₁.all ∙ ap (λ (l : List Tree). p₁ ++ l) b₂.all in
    let r₁ = plain_rows f₁ in
    let r₃ = plain_rows f₃ in
    let k₁ : length (take x.before (drop at ds)) ≡ x.before = ap length (sym w₁ ∙ plain_words f₁) ∙ n₁ in
    let k₃ : length (drop (at + x.before + length (op.parts_dwords p₂)) ds) ≡ length ds - (at + x.before + length (op.parts_dwords p₂)) = length-drop (at + x.before + length (op.parts_dwords p₂)) ds in
    let W : parts_words ps ≡ take x.before (drop at ds) ++ parts_words p₂ ++ drop (at + x.before + length (op.parts_dwords p₂)) ds =
    ap parts_words all ∙ words_append p₁ (p₂ ++ p₃) ∙ ap (λ (l : List ℕ). parts_words p₁ ++ l) (words_append p₂ p₃) ∙ sym (append_assoc (parts_words p₁) (parts_words p₂) (parts_words p₃)) ∙ (λ i. w₁ i ++ parts_words p₂ ++ w₃ i) in
    record {
      trees = p₂;
      left = b₂.middle;
      is = sym (either_model m x.operands (drop (at + x.before) ds)) ∙ ap (read_items m (replicate x.operands o)) (sym l₁) ∙ b₂.one;
      end = at + x.before + length (op.parts_dwords p₂);
      end_is = refl;
      starts = h₁;
      ends = h₂;
      rows_are = ap parts_rows all ∙ omega (arith, rows_append p₁ (p₂ ++ p₃), rows_append p₂ p₃);
      words_are = W;
      table_is = λ r w.
          let q₁ : r + parts_rows p₁ ≡ r = omega arith in
          let q₂ : w + length (parts_words p₁) ≡ w + x.before = ap (λ (n : ℕ). w + n) (ap length w₁ ∙ k₁) in
          ap (parts_table r w) all ∙ table_append r w p₁ (p₂ ++ p₃) ∙ (λ i. plain_table r w f₁ i ++ parts_table (q₁ i) (q₂ i) (p₂ ++ p₃)) ∙ table_append r (w + x.before) p₂ p₃ ∙
          ap (λ (l : List ℕ). parts_table r (w + x.before) p₂ ++ l) (plain_table _ _ f₃) ∙ append-nil (parts_table r (w + x.before) p₂);
      top_is = ap top_level all ∙ top_append p₁ (p₂ ++ p₃) ∙ omega (arith, plain_top f₁, top_append p₂ p₃, plain_top f₃, all_got (nodes_many x.operands b₁.middle) (sym (either_model m x.operands b₁.middle) ∙ b₂.one));
      before_long = k₁;
      behind_long = k₃;
      words_long = ap length W ∙ length-append (take x.before (drop at ds) ++ parts_words p₂) _ ∙ omega (arith, length-append (take x.before (drop at ds)) (parts_words p₂), k₁, k₃);
    }

module _ (m : Bool) (x : Shape) (ds : List ℕ) (at : ℕ) {ops row word : ℕ} (W : List ℕ) (q : BodyRoom (read_items m (items_of x) (drop at ds)) (length ds) at ops (length W) row word) where
  pub split : Three m x ds at q.room.trees
  split = three m x ds at q.room.trees q.room.within (q.room.is ∙ ap (got q.room.trees) q.whole)

  pub record Counted : Type 0 where
    pub starts : at + x.before ≤ length ds
    pub ends : split.end ≤ length ds
    pub end_is : split.end ≡ at + x.before + length (op.parts_dwords split.trees)
    pub rows_are : parts_rows q.room.trees ≡ parts_rows split.trees
    pub words_long : length (parts_words q.room.trees) ≡ x.before + length (parts_words split.trees) + (length ds - split.end)
    pub for_rows : 16 * parts_rows q.room.trees ≤ ops
    pub for_words : length (parts_words q.room.trees) ≤ length W
    pub row_fits : row + parts_rows q.room.trees < 2 ^ 32
    pub word_fits : word + length (parts_words q.room.trees) < 2 ^ 32
    pub few : length ds < 2 ^ 32

  pub counted : Counted
  counted = record {
    starts = split.starts;
    ends = split.ends;
    end_is = split.end_is;
    rows_are = split.rows_are;
    words_long = split.words_long;
    for_rows = q.room.for_rows;
    for_words = q.room.for_words;
    row_fits = q.room.row_fits;
    word_fits = q.room.word_fits;
    few = q.room.few;
  }

  -- the dwords in front of the operands are copied
  module _ {W₁ : List ℕ} (c₁ : W₁ ≡ take x.before (drop at ds) ++ drop x.before W) where
    pub over₁ : Over 0 (take x.before (drop at ds)) W W₁
    over₁ = front_over (take x.before (drop at ds)) W W₁ x.before (sym split.before_long) c₁

    pub same₁ : length W₁ ≡ length W
    same₁ = over_length 0 (take x.before (drop at ds)) W W₁ (omega (arith, split.before_long, counted)) over₁

    pub run_room : Room (operands_of x.operands (drop (at + x.before) ds)) (length ds) (at + x.before) ops (length (take (length W₁ - x.before) (drop x.before W₁))) row (word + x.before)
    run_room =
        let ll = lent_length x.before W₁ in
        let ls = same₁ in
        record {
          trees = split.trees;
          rest = split.left;
          is = split.is;
          within = omega (arith, counted);
          for_rows = omega (arith, counted);
          for_words = omega (arith, counted);
          row_fits = omega (arith, counted);
          word_fits = omega (arith, counted);
          few = q.room.few;
        }

    -- and the operands are written
    module _ {L L' zs : List ℕ} {a : Sums} (wr : WroteRun (operands_of x.operands (drop (at + x.before) ds)) row (word + x.before) L (take (length W₁ - x.before) (drop x.before W₁)) a L' zs) where
      pub ran : Put split.trees row (word + x.before) L (take (length W₁ - x.before) (drop x.before W₁)) a.rows a.words L' zs × (a.dwords ≡ length (op.parts_dwords split.trees))
      ran = wr split.trees split.left split.is

      abbrev pub W₂ : List ℕ
      W₂ = put_mid x.before (length W₁ - x.before) W₁ zs

      pub over₂ : Over 0 (take x.before (drop at ds) ++ parts_words split.trees) W W₂
      over₂ =
          over_more 0 x.before (take x.before (drop at ds)) (parts_words split.trees) W W₁ W₂ (omega (arith, split.before_long, counted)) (omega (arith, split.before_long)) over₁
          (back x.before W₁ zs (parts_words split.trees) (length (parts_words split.trees)) refl ran.0.words_put)

      front_long : length (take x.before (drop at ds) ++ parts_words split.trees) ≡ x.before + length (parts_words split.trees)
      front_long = length-append (take x.before (drop at ds)) (parts_words split.trees) ∙ omega (arith, split.before_long)

      same₂ : length W₂ ≡ length W
      same₂ = over_length 0 (take x.before (drop at ds) ++ parts_words split.trees) W W₂ (omega (arith, front_long, counted)) over₂

      pub record Known : Type 0 where
        pub counted_are : Counted
        pub long₁ : length W₁ ≡ length W
        pub long₂ : length W₂ ≡ length W
        pub rows : a.rows ≡ parts_rows split.trees
        pub words : a.words ≡ length (parts_words split.trees)
        pub dwords : a.dwords ≡ length (op.parts_dwords split.trees)

      pub known : Known
      known = record { counted_are = counted; long₁ = same₁; long₂ = same₂; rows = ran.0.rows_are; words = ran.0.words_are; dwords = ran.1 }

      -- and the dwords behind them, up to the end n, are copied
      module _ {n : ℕ} (en : n ≡ length ds) where
        abbrev pub e : ℕ
        e = at + x.before + a.dwords

        abbrev pub f : ℕ
        f = x.before + a.words

        abbrev pub k : ℕ
        k = n - e

        end_is : e ≡ split.end
        end_is = omega (arith, known)

        pub copy_room : (e + k ≤ length ds) × (k ≤ length (take (length W₂ - f) (drop f W₂)))
        copy_room = let ll = lent_length f W₂ in let z = end_is in (omega (arith, known), omega (arith, known))

        pub written : {vs : List ℕ} → vs ≡ take k (drop e ds) ++ drop k (take (length W₂ - f) (drop f W₂)) → WroteBody (read_items m (items_of x) (drop at ds)) row word L W (record { rows = a.rows; words = f + k }) L' (put_mid f (length W₂ - f) W₂ vs)
        written {vs} ev ps g =
            let y = end_is in
            let A : List ℕ = take x.before (drop at ds) ++ parts_words split.trees in
            let tk : take k (drop e ds) ≡ drop split.end ds = take_all k (drop e ds) (omega (arith, length-drop e ds, en)) ∙ ap (λ (j : ℕ). drop j ds) y in
            let kl : k ≡ length (drop split.end ds) = omega (arith, split.behind_long) in
            let o₃ : Over f (drop split.end ds) W₂ (put_mid f (length W₂ - f) W₂ vs) = back f W₂ vs (drop split.end ds) k kl (ev ∙ ap (λ (l : List ℕ). l ++ drop k (take (length W₂ - f) (drop f W₂))) tk) in
            let o₄ : Over 0 (A ++ drop split.end ds) W (put_mid f (length W₂ - f) W₂ vs) = over_more 0 f A (drop split.end ds) W W₂ (put_mid f (length W₂ - f) W₂ vs) (omega (arith, front_long, counted)) (omega (arith, front_long, known)) over₂ o₃ in
            let ww : A ++ drop split.end ds ≡ parts_words q.room.trees = sym split.words_are in
            let p : got q.room.trees q.room.rest ≡ got ps [] = sym q.room.is ∙ g in
            let v : q.room.trees ≡ ps = cc in
            subst (λ (l : List Tree). Put l row word L W a.rows (f + k) L' (put_mid f (length W₂ - f) W₂ vs)) v
            (record {
              rows_are = ran.0.rows_are ∙ sym split.rows_are;
              words_are = omega (arith, known, split.words_long);
              rows_put = ran.0.rows_put ∙ (λ i. sym (split.table_is row word) i ++ drop (16 * sym split.rows_are i) L);
              words_put = over_front (parts_words q.room.trees) W (put_mid f (length W₂ - f) W₂ vs) (subst (λ (l : List ℕ). Over 0 l W (put_mid f (length W₂ - f) W₂ vs)) ww o₄);
            })
