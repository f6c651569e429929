-- Operands that are written one after the other: what holds at the loop's head, and how a turn takes it on.
use Prim.Native.Nat.{ℕ, suc, ◌+◌, ◌-◌, ◌*◌, ◌^◌, ◌<◌, ◌≤◌}
use mathlib.Core.Path.{◌≡◌, refl, sym, ◌∙◌, ap, subst}
use mathlib.Core.Bool.{Bool, false}
use mathlib.Core.List.{List, [], ◌∷◌, ◌++◌, append_assoc, append-nil}
use native.Mathlib.Omega.{arith}
use lib.ListN.{length, take, drop, replicate, length-append, length-drop}
use lib.Seq.{drop-drop, drop-append_seam}
use borrow.Rule.Slice.PartMut.{put_mid}
use Rattle.format.specs.Dwords.{Got, malformed, got, then}
use Rattle.format.specs.Declarations.{Item, o}
use Rattle.format.specs.Operands as op
use Rattle.format.specs.Operands.{Tree}
use Rattle.format.specs.Instructions.{read_item, read_items}
use Rattle.format.specs.Rows.{tree_rows, tree_words, tree_table, parts_rows, parts_words, parts_table}
use Rattle.format.proofs.Dwords.{impossible, All, unmet, met}
use Rattle.format.proofs.Operands.{makes_operand}
use Rattle.format.proofs.Rows.{table_length, parts_length, rows_append, words_append, table_append, tree_fits}
use Rattle.operand_rows.specs.Writes.{Over}
use Rattle.operand_rows.specs.declared.Sums.{Sums}
use Rattle.operand_rows.proofs.Lists.{lent_length, back, over_none, over_more, over_front, over_length}
use Rattle.operand_write.specs.Writes as ow
use Rattle.instruction_write.specs.Writes.{operands_of, Room, Put, WroteRun}

pub all_got : {A : Type 0} {P : A → List ℕ → Type 0} {g : Got A} {a : A} {r : List ℕ} → All P g → g ≡ got a r → P a r
all_got unmet e = impossible (cc)
all_got {P = P} {a = a} {r = r} (met {a = b} {r = s} p) e =
    let x : b ≡ a = cc in
    let y : s ≡ r = cc in
    subst (λ (z : List ℕ). P a z) y (subst (λ (z : _). P z s) x p)

-- the first of several items
pub record First (m : Bool) (i : Item) (l : List Item) (ds : List ℕ) (ps : List Tree) (r : List ℕ) : Type 0 where
  pub tree : Tree
  pub left : List ℕ
  pub more : List Tree
  pub one : read_item m i ds ≡ got tree left
  pub others : read_items m l left ≡ got more r
  pub all : ps ≡ tree ∷ more

pub first_of : (m : Bool) (i : Item) (l : List Item) (ds : List ℕ) {ps : List Tree} {r : List ℕ} → read_items m (i ∷ l) ds ≡ got ps r → First m i l ds ps r
unfolding read_items
first_of m i l ds {ps} {r} e = go (read_item m i ds) refl e
  where
    rest : (x : Tree) (left : List ℕ) → read_item m i ds ≡ got x left → (h : Got (List Tree)) → read_items m l left ≡ h → then h (λ qs s. got (x ∷ qs) s) ≡ got ps r → First m i l ds ps r
    rest x left p malformed q z = impossible (cc)
    rest x left p (got qs s) q z =
        let y : s ≡ r = cc in
        let w : x ∷ qs ≡ ps = cc in
        record { tree = x; left = left; more = qs; one = p; others = q ∙ ap (got qs) y; all = sym w }

    go : (g : Got Tree) → read_item m i ds ≡ g → then g (λ x s. then (read_items m l s) (λ qs u. got (x ∷ qs) u)) ≡ got ps r → First m i l ds ps r
    go malformed p z = impossible (cc)
    go (got x left) p z = rest x left p (read_items m l left) refl z

pub record Doing (ds : List ℕ) (from count row word : ℕ) (ops₀ ws₀ ops ws : List ℕ) (i : ℕ) (z : Sums) : Type 0 where
  pub room : Room (operands_of count (drop from ds)) (length ds) from (length ops₀) (length ws₀) row word
  pub done : List Tree
  pub todo : List Tree
  pub both : room.trees ≡ done ++ todo
  pub left : operands_of (count - i) (drop (from + z.dwords) ds) ≡ got todo room.rest
  pub turn : i ≤ count
  pub rows_are : parts_rows done ≡ z.rows
  pub words_are : length (parts_words done) ≡ z.words
  pub dwords_are : length (op.parts_dwords done) ≡ z.dwords
  pub within : from + z.dwords ≤ length ds
  pub rows_put : Over 0 (parts_table row word done) ops₀ ops
  pub words_put : Over 0 (parts_words done) ws₀ ws
  pub long : length ops ≡ length ops₀
  pub long_words : length ws ≡ length ws₀

pub begin : {ds : List ℕ} {from count row word : ℕ} {ops ws : List ℕ} → Room (operands_of count (drop from ds)) (length ds) from (length ops) (length ws) row word → Doing ds from count row word ops ws ops ws 0 (record { rows = 0; words = 0; dwords = 0 })
unfolding parts_rows parts_words parts_table op.parts_dwords
begin {ds} {from} {count} {row} {word} {ops} {ws} q =
    let a : count - 0 ≡ count = omega arith in
    let b : from + 0 ≡ from = omega arith in
    record {
      room = q;
      done = [];
      todo = q.trees;
      both = refl;
      left = (λ i. operands_of (a i) (drop (b i) ds)) ∙ q.is;
      turn = omega arith;
      rows_are = refl;
      words_are = refl;
      dwords_are = refl;
      within = omega (arith, q.within);
      rows_put = over_none 0 ops;
      words_put = over_none 0 ws;
      long = refl;
      long_words = refl;
    }

dwords_append : (p q : List Tree) → op.parts_dwords (p ++ q) ≡ op.parts_dwords p ++ op.parts_dwords q
unfolding op.parts_dwords
dwords_append [] q = refl
dwords_append (x ∷ p) q = rw (dwords_append p q, append_assoc)

-- one more tree
rows_one : (p : List Tree) (t : Tree) (l : List Tree) → parts_rows (p ++ (t ∷ l)) ≡ parts_rows p + (tree_rows t + parts_rows l)
unfolding parts_rows
rows_one p t l = rows_append p (t ∷ l)

words_one : (p : List Tree) (t : Tree) (l : List Tree) → length (parts_words (p ++ (t ∷ l))) ≡ length (parts_words p) + (length (tree_words t) + length (parts_words l))
unfolding parts_words
words_one p t l = ap length (words_append p (t ∷ l)) ∙ length-append (parts_words p) (tree_words t ++ parts_words l) ∙ ap (λ (n : ℕ). length (parts_words p) + n) (length-append (tree_words t) (parts_words l))

snoc_rows : (p : List Tree) (t : Tree) → parts_rows (p ++ (t ∷ [])) ≡ parts_rows p + tree_rows t
unfolding parts_rows
snoc_rows p t = omega (arith, rows_one p t [])

snoc_words : (p : List Tree) (t : Tree) → parts_words (p ++ (t ∷ [])) ≡ parts_words p ++ tree_words t
unfolding parts_words
snoc_words p t = words_append p (t ∷ []) ∙ ap (λ (l : List ℕ). parts_words p ++ l) (append-nil (tree_words t))

snoc_dwords : (p : List Tree) (t : Tree) → length (op.parts_dwords (p ++ (t ∷ []))) ≡ length (op.parts_dwords p) + length (op.dwords t)
unfolding op.parts_dwords
snoc_dwords p t = ap length (dwords_append p (t ∷ [])) ∙ length-append (op.parts_dwords p) (op.dwords t ++ []) ∙ ap (λ (l : List ℕ). length (op.parts_dwords p) + length l) (append-nil (op.dwords t))

snoc_table : (r w : ℕ) (p : List Tree) (t : Tree) → parts_table r w (p ++ (t ∷ [])) ≡ parts_table r w p ++ tree_table (r + parts_rows p) (w + length (parts_words p)) t
unfolding parts_table
snoc_table r w p t = table_append r w p (t ∷ []) ∙ ap (λ (l : List ℕ). parts_table r w p ++ l) (append-nil (tree_table (r + parts_rows p) (w + length (parts_words p)) t))

module _ {ds : List ℕ} {from count row word : ℕ} {ops₀ ws₀ ops ws : List ℕ} {i : ℕ} {z : Sums} (g : Doing ds from count row word ops₀ ws₀ ops ws i z) (h : i < count) where
  pub head : First false o (replicate (count - (i + 1)) o) (drop (from + z.dwords) ds) g.todo g.room.rest
  head =
      let e : count - i ≡ suc (count - (i + 1)) = omega arith in
      first_of false o (replicate (count - (i + 1)) o) (drop (from + z.dwords) ds) (sym (ap (λ (n : ℕ). operands_of n (drop (from + z.dwords) ds)) e) ∙ g.left)

  abbrev pub t : Tree
  t = head.tree

  read : op.operand 64 (drop (from + z.dwords) ds) ≡ got t head.left
  read = unfold read_item in head.one

  pub record Turn : Type 0 where
    pub within : from + z.dwords + length (op.dwords t) ≤ length ds
    pub left : head.left ≡ drop (from + z.dwords + length (op.dwords t)) ds
    pub fits : tree_rows t + length (tree_words t) ≤ length (op.dwords t)
    pub for_rows : 16 * (z.rows + tree_rows t) ≤ length ops₀
    pub for_words : z.words + length (tree_words t) ≤ length ws₀
    pub row_fits : row + z.rows + tree_rows t < 2 ^ 32
    pub word_fits : word + z.words + length (tree_words t) < 2 ^ 32
    pub few : length ds < 2 ^ 32
    pub long : length ops ≡ length ops₀
    pub long_words : length ws ≡ length ws₀

  pub turn_of : Turn
  turn_of =
      let p : op.dwords t ++ head.left ≡ drop (from + z.dwords) ds = all_got (makes_operand 64 (drop (from + z.dwords) ds)) read in
      let n : length (op.dwords t) + length head.left ≡ length ds - (from + z.dwords) = sym (length-append (op.dwords t) head.left) ∙ ap length p ∙ length-drop (from + z.dwords) ds in
      let q : head.left ≡ drop (from + z.dwords + length (op.dwords t)) ds = sym (drop-append_seam (op.dwords t) head.left) ∙ ap (drop (length (op.dwords t))) p ∙ drop-drop (length (op.dwords t)) (from + z.dwords) ds in
      let a : g.room.trees ≡ g.done ++ (t ∷ head.more) = g.both ∙ ap (λ (l : List Tree). g.done ++ l) head.all in
      let r : parts_rows g.room.trees ≡ parts_rows g.done + (tree_rows t + parts_rows head.more) = ap parts_rows a ∙ rows_one g.done t head.more in
      let w : length (parts_words g.room.trees) ≡ length (parts_words g.done) + (length (tree_words t) + length (parts_words head.more)) = ap (λ (l : List Tree). length (parts_words l)) a ∙ words_one g.done t head.more in
      let er = g.rows_are in
      let ew = g.words_are in
      let hw = g.within in
      record {
        within = omega arith;
        left = q;
        fits = tree_fits t;
        for_rows = omega (arith, g.room.for_rows);
        for_words = omega (arith, g.room.for_words);
        row_fits = omega (arith, g.room.row_fits);
        word_fits = omega (arith, g.room.word_fits);
        few = g.room.few;
        long = g.long;
        long_words = g.long_words;
      }

  abbrev pub f : ℕ
  f = z.rows * 16

  pub turn_room : ow.Room (op.operand 64 (drop (from + z.dwords) ds)) (length (take (length ops - f) (drop f ops))) (length (take (length ws - z.words) (drop z.words ws))) (row + z.rows) (word + z.words)
  turn_room =
      let ll = lent_length f ops in
      let lm = lent_length z.words ws in
      record {
        tree = t;
        rest = head.left;
        is = read;
        for_rows = omega (arith, turn_of);
        for_words = omega (arith, turn_of);
        row_fits = omega (arith, turn_of);
        word_fits = omega (arith, turn_of);
        dwords_fit = omega (arith, turn_of);
      }

  module _ {a : Sums} {ys zs : List ℕ}
      (wr : ow.Wrote (op.operand 64 (drop (from + z.dwords) ds)) (row + z.rows) (word + z.words) (take (length ops - f) (drop f ops)) (take (length ws - z.words) (drop z.words ws)) a ys zs) where
    pub put : ow.Put t (row + z.rows) (word + z.words) (take (length ops - f) (drop f ops)) (take (length ws - z.words) (drop z.words ws)) a ys zs
    put = wr t head.left read

    pub record Sizes : Type 0 where
      pub rows_are : a.rows ≡ tree_rows t
      pub words_are : a.words ≡ length (tree_words t)
      pub dwords_are : a.dwords ≡ length (op.dwords t)
      pub turn : Turn

    pub sizes : Sizes
    sizes = record { rows_are = put.rows_are; words_are = put.words_are; dwords_are = put.dwords_are; turn = turn_of }

    pub turns : Doing ds from count row word ops₀ ws₀ (put_mid f (length ops - f) ops ys) (put_mid z.words (length ws - z.words) ws zs) (i + 1) (record { rows = z.rows + a.rows; words = z.words + a.words; dwords = z.dwords + a.dwords })
    turns =
        let T : List ℕ = tree_table (row + z.rows) (word + z.words) t in
        let lt : length T ≡ 16 * tree_rows t = table_length (row + z.rows) (word + z.words) t in
        let lp = parts_length row word g.done in
        let o₁ : Over f T ops (put_mid f (length ops - f) ops ys) = back f ops ys T (16 * tree_rows t) (sym lt) put.rows_put in
        let o₂ : Over z.words (tree_words t) ws (put_mid z.words (length ws - z.words) ws zs) = back z.words ws zs (tree_words t) (length (tree_words t)) refl put.words_put in
        let o₃ : Over 0 (parts_table row word g.done ++ T) ops₀ (put_mid f (length ops - f) ops ys) =
        over_more 0 f (parts_table row word g.done) T ops₀ ops (put_mid f (length ops - f) ops ys) (omega (arith, g.rows_are, turn_of.for_rows)) (omega (arith, g.rows_are)) g.rows_put o₁ in
        let o₄ : Over 0 (parts_words g.done ++ tree_words t) ws₀ (put_mid z.words (length ws - z.words) ws zs) =
        over_more 0 z.words (parts_words g.done) (tree_words t) ws₀ ws (put_mid z.words (length ws - z.words) ws zs) (omega (arith, g.words_are, turn_of.for_words)) (omega (arith, g.words_are)) g.words_put o₂ in
        let eT : parts_table row word g.done ++ T ≡ parts_table row word (g.done ++ (t ∷ [])) =
        (λ v. parts_table row word g.done ++ tree_table (row + sym g.rows_are v) (word + sym g.words_are v) t) ∙ sym (snoc_table row word g.done t) in
        let e : from + z.dwords + length (op.dwords t) ≡ from + (z.dwords + a.dwords) = omega (arith, put.dwords_are) in
        let la : length (parts_table row word g.done ++ T) ≡ 16 * (z.rows + tree_rows t) = length-append (parts_table row word g.done) T ∙ omega (arith, g.rows_are) in
        let lb : length (parts_words g.done ++ tree_words t) ≡ z.words + length (tree_words t) = length-append (parts_words g.done) (tree_words t) ∙ omega (arith, g.words_are) in
        record {
          room = g.room;
          done = g.done ++ (t ∷ []);
          todo = head.more;
          both = g.both ∙ ap (λ (l : List Tree). g.done ++ l) head.all ∙ sym (append_assoc g.done (t ∷ []) head.more);
          left = ap (λ (l : List ℕ). operands_of (count - (i + 1)) l) (sym (turn_of.left ∙ ap (λ (n : ℕ). drop n ds) e)) ∙ head.others;
          turn = omega arith;
          rows_are = omega (arith, snoc_rows g.done t, g.rows_are, put.rows_are);
          words_are = ap length (snoc_words g.done t) ∙ omega (arith, length-append (parts_words g.done) (tree_words t), g.words_are, put.words_are);
          dwords_are = omega (arith, snoc_dwords g.done t, g.dwords_are, put.dwords_are);
          within = omega (arith, turn_of.within, put.dwords_are);
          rows_put = subst (λ (l : List ℕ). Over 0 l ops₀ (put_mid f (length ops - f) ops ys)) eT o₃;
          words_put = subst (λ (l : List ℕ). Over 0 l ws₀ (put_mid z.words (length ws - z.words) ws zs)) (sym (snoc_words g.done t)) o₄;
          long = over_length 0 (parts_table row word g.done ++ T) ops₀ (put_mid f (length ops - f) ops ys) (omega (arith, turn_of.for_rows)) o₃;
          long_words = over_length 0 (parts_words g.done ++ tree_words t) ws₀ (put_mid z.words (length ws - z.words) ws zs) (omega (arith, turn_of.for_words)) o₄;
        }

pub ended : {ds : List ℕ} {from count row word : ℕ} {ops₀ ws₀ ops ws : List ℕ} {i : ℕ} {a : Sums} → Doing ds from count row word ops₀ ws₀ ops ws i a → count ≤ i → WroteRun (operands_of count (drop from ds)) row word ops₀ ws₀ a ops ws
unfolding read_items
ended {ds} {from} {count} {row} {word} {ops₀} {ws₀} {ops} {ws} {i} {a} g h ps r e =
    let z : count - i ≡ 0 = omega (arith, g.turn) in
    let n : operands_of 0 (drop (from + a.dwords) ds) ≡ got g.todo g.room.rest = sym (ap (λ (m : ℕ). operands_of m (drop (from + a.dwords) ds)) z) ∙ g.left in
    let y : [] ≡ g.todo = cc in
    let x : g.room.trees ≡ g.done = g.both ∙ ap (λ (l : List Tree). g.done ++ l) (sym y) ∙ append-nil g.done in
    let q : got ps r ≡ got g.room.trees g.room.rest = sym e ∙ g.room.is in
    let p : ps ≡ g.room.trees = cc in
    let v : g.done ≡ ps = sym (p ∙ x) in
    subst (λ (l : List Tree). Put l row word ops₀ ws₀ a.rows a.words ops ws × (a.dwords ≡ length (op.parts_dwords l))) v (
      record {
        rows_are = sym g.rows_are;
        words_are = sym g.words_are;
        rows_put = over_front (parts_table row word g.done) ops₀ ops g.rows_put ∙ ap (λ (m : ℕ). parts_table row word g.done ++ drop m ops₀) (parts_length row word g.done);
        words_put = over_front (parts_words g.done) ws₀ ws g.words_put;
      },
      sym g.dwords_are,
    )
