-- Laws of what is written of an operand.
use Prim.Native.Nat.{ℕ, ◌+◌, ◌-◌, ◌*◌, ◌/◌, ◌^◌, ◌<◌, ◌≤◌}
use mathlib.Core.Path.{◌≡◌, refl, sym, ◌∙◌, ap, subst}
use mathlib.Core.Bool.{Bool, true, false, not, ◌&&◌}
use mathlib.Core.List.{List, [], ◌∷◌, ◌++◌, append_assoc, append-nil}
use native.Mathlib.Omega.{arith}
use lib.ListN.{length, take, drop, length-append, get_or}
use lib.Seq.{slice, length-slice}
use lib.Dec.{eqb, ltb}
use borrow.Rule.Slice.PartMut.{put_mid}
use borrow.Author.Tests.{eqb-true, ltb-true, ltb-false, not-true, not-false}
use Rattle.format.specs.Dwords.{Got, got}
use Rattle.format.specs.Operands.{Tree, none, plain, node, type_of, form, selection, immediate, immediates, dimension, reprs, repr, own, nests, read_index, read_immediates, read_indices, operand, dwords, modifiers, exact_dword}
use Rattle.format.specs.Rows.{placed, word_place, child_row, tree_rows, tree_words, tree_table, operand_row}
use Rattle.format.proofs.Dwords.{impossible, both}
use Rattle.format.proofs.Rows.{table_length}
use Rattle.tokens.proofs.Places.{some_length}
use Rattle.operand.specs.Measures.{Flat}
use Rattle.operand.proofs.Fronts.{low_flat}
use Rattle.operand.proofs.FlatTrees.{flat_tree, flat_words, flat_dwords, past_dim, in_dim, flat_reprs}
use Rattle.operand.proofs.Seen.{Seen}
use Rattle.operand_rows.specs.Writes.{row_for, leaf_row, flat_row, Fits, Lone, Stored, Over, OwnRoom, Owned}
use Rattle.operand_rows.specs.declared.Sums.{Sums}
use Rattle.operand_rows.proofs.Lists.{lent_length, back, over_none, over_more, over_front, row_before}
use Rattle.operand_write.specs.Writes.{Front, Room, Put, Wrote, Ready, Next, WroteNext}
use Rattle.operand_write.proofs.Readings.{Entered, low_entered, not_immediate, leaf_of, flat_of_lem, Index, index_of, Node, node_of}

-- one reading in place of another that is the same
pub room_at : {g h : Got Tree} {ops ws row word : ℕ} → g ≡ h → Room g ops ws row word → Room h ops ws row word
room_at {ops = ops} {ws = ws} {row = row} {word = word} e r = subst (λ (k : Got Tree). Room k ops ws row word) e r

-- what was measured tells the room that it needs
pub room_of : {g : Got Tree} {ds : List ℕ} {at r w d : ℕ} {x : Bool} → Seen g ds at r w d x → {ops ws row word : ℕ} → 16 * r ≤ ops → w ≤ ws → row + r < 2 ^ 32 → word + w < 2 ^ 32 → d < 2 ^ 32 → Room g ops ws row word
room_of {ds = ds} {at = at} {d = d} s h₀ h₁ h₂ h₃ h₄ =
    record {
      tree = s.tree;
      rest = drop (at + d) ds;
      is = s.is;
      for_rows = omega (arith, s.rows_are);
      for_words = omega (arith, s.words_are);
      row_fits = omega (arith, s.rows_are);
      word_fits = omega (arith, s.words_are);
      dwords_fit = omega (arith, s.dwords_are);
    }

pub wrote_at : {g h : Got Tree} {row word : ℕ} {ops ws ops' ws' : List ℕ} {a : Sums} → g ≡ h → Wrote h row word ops ws a ops' ws' → Wrote g row word ops ws a ops' ws'
wrote_at e w t r q = w t r (sym e ∙ q)

pub wrote_of : {g : Got Tree} {row word : ℕ} {ops ws ops' ws' : List ℕ} {a : Sums} (t : Tree) (r : List ℕ) → g ≡ got t r → Put t row word ops ws a ops' ws' → Wrote g row word ops ws a ops' ws'
wrote_of {row = row} {word = word} {ops = ops} {ws = ws} {ops' = ops'} {ws' = ws'} {a = a} t r e p u s q =
    let f : t ≡ u = cc in subst (λ (x : Tree). Put x row word ops ws a ops' ws') f p

pub next_of : {g : Got Tree} {row word : ℕ} {b : Sums} {ops ws ops' ws' : List ℕ} {a : Sums} (t : Tree) (r : List ℕ) → g ≡ got t r → Next t row word b ops ws a ops' ws' → WroteNext g row word b ops ws a ops' ws'
next_of {row = row} {word = word} {b = b} {ops = ops} {ws = ws} {ops' = ops'} {ws' = ws'} {a = a} t r e p u s q =
    let f : t ≡ u = cc in subst (λ (x : Tree). Next x row word b ops ws a ops' ws') f p

-- an operand with no operand in it, which has n words: its row is R
record Alone (ds : List ℕ) (at b n row word : ℕ) (R : List ℕ) (t : Tree) : Type 0 where
  enough : b + n ≤ length ds
  rows_are : tree_rows t ≡ 1
  words_are : tree_words t ≡ take n (drop b ds)
  dwords_are : length (dwords t) ≡ b - at + n
  table_is : tree_table row word t ≡ R

module _ {ds : List ℕ} {at b x n ops ws row word : ℕ} {R : List ℕ} {g : Got Tree} (f : Front ds at b x) (q : Room g ops ws row word) (y : Alone ds at b n row word R q.tree) where
  long : length (tree_words q.tree) ≡ n
  long = ap length y.words_are ∙ some_length n ds b y.enough

  alone_room : Lone (length ds) at b n ops ws word
  alone_room =
      record {
        from = f.from;
        within = y.enough;
        for_rows = omega (arith, y.rows_are, q.for_rows);
        for_words = omega (arith, long, q.for_words);
        word_fits = omega (arith, long, q.word_fits);
        dwords_fit = omega (arith, y.dwords_are, q.dwords_fit);
      }

  alone_wrote : {a : Sums} {L W L' W' : List ℕ} → Stored ds at b n R L W a L' W' → Wrote g row word L W a L' W'
  alone_wrote {L = L} {W = W} s =
      let z : 16 ≡ 16 * tree_rows q.tree = omega (arith, y.rows_are) in
      wrote_of q.tree q.rest q.is
      record {
        rows_are = s.rows_are ∙ sym y.rows_are;
        words_are = s.words_are ∙ sym long;
        dwords_are = s.dwords_are ∙ sym y.dwords_are;
        rows_put = s.rows_put ∙ (λ i. sym y.table_is i ++ drop (z i) L);
        words_put = s.words_put ∙ (λ i. sym y.words_are i ++ drop (sym long i) W);
      }

-- the row of an operand of immediates
no_reprs : (t : ℕ) → dimension t ≡ 0 → reprs t ≡ 0
unfolding reprs
no_reprs t h = rw h (omega arith)

leaf_row_lem : (r w t x ds : ℕ) (e i : List ℕ) → dimension t ≡ 0 → x ≡ modifiers e → immediates t ≡ length i → ds ≡ length (dwords (node t e i none none none)) → operand_row r w t e i none none none ≡ leaf_row t x w ds
unfolding leaf_row operand_row own nests tree_rows
leaf_row_lem r w t x ds e i h ex em ed =
    rw (h, no_reprs t h, past_dim 0 t (omega arith), past_dim 1 t (omega arith), past_dim 2 t (omega arith), ← em, ← ex, ← ed)

-- and of one whose indices are one dword each
module _ (t : ℕ) (f : Flat t) where
  flat_word : (i : ℕ) → i < 3 → (w v : ℕ) → (i < dimension t → v ≡ w) → word_place (repr i t) v ≡ placed (ltb i (dimension t)) w
  unfolding own
  flat_word i h w v p = go (ltb i (dimension t)) refl
    where
      go : (c : Bool) → ltb i (dimension t) ≡ c → word_place (repr i t) v ≡ placed c w
      go true q = rw (in_dim t f i h (ltb-true i (dimension t) q)) (p (ltb-true i (dimension t) q))
      go false q = rw (past_dim i t (ltb-false i (dimension t) q))

  flat_child : (i : ℕ) → i < 3 → (r : ℕ) → child_row (repr i t) r ≡ 0
  unfolding nests
  flat_child i h r = go (ltb i (dimension t)) refl
    where
      go : (c : Bool) → ltb i (dimension t) ≡ c → child_row (repr i t) r ≡ 0
      go true q = rw (in_dim t f i h (ltb-true i (dimension t) q))
      go false q = rw (past_dim i t (ltb-false i (dimension t) q))

  flat_row_lem : (r w x ds : ℕ) (e ws : List ℕ) → length ws ≡ dimension t → x ≡ modifiers e → ds ≡ length (dwords (flat_tree t e ws))
      → operand_row r w t e [] (plain (take 1 ws) none) (plain (take 1 (drop 1 ws)) none) (plain (take 1 (drop 2 ws)) none) ≡ flat_row t x w ds
  unfolding flat_row operand_row tree_rows tree_words
  flat_row_lem r w x ds e ws l ex ed =
      let a : ℕ = length (tree_words (plain (take 1 ws) none)) in
      let b : ℕ = length (tree_words (plain (take 1 (drop 1 ws)) none)) in
      λ i.
      type_of t ∷ form t ∷ selection t ∷ sym ex i ∷ 0 ∷ 0 ∷ dimension t ∷ flat_reprs t f i ∷
      flat_word 0 (omega arith) w (w + 0) (λ h. omega arith) i ∷
      flat_word 1 (omega arith) (w + 1) (w + 0 + a) (λ h. first ws (omega arith)) i ∷
      flat_word 2 (omega arith) (w + 2) (w + 0 + a + b) (λ h. second ws (omega arith)) i ∷
      flat_child 0 (omega arith) (r + 1) i ∷ flat_child 1 (omega arith) (r + 1 + 0) i ∷ flat_child 2 (omega arith) (r + 1 + 0 + 0) i ∷ 1 ∷ sym ed i ∷ []
    where
      first : (ws : List ℕ) → 1 < length ws → w + 0 + length (tree_words (plain (take 1 ws) none)) ≡ w + 1
      first [] h = impossible (omega arith)
      first (x ∷ ws) h = omega arith

      second : (ws : List ℕ) → 2 < length ws → w + 0 + length (tree_words (plain (take 1 ws) none)) + length (tree_words (plain (take 1 (drop 1 ws)) none)) ≡ w + 2
      second [] h = impossible (omega arith)
      second (x ∷ []) h = impossible (omega arith)
      second (x ∷ y ∷ ws) h = omega arith

-- an operand that was read, by what stands behind its front
module _ {left : ℕ} {ds : List ℕ} {at t b x : ℕ} (o : Entered left ds at t b x) {ops ws row word : ℕ} (q : Room (operand left (drop at ds)) ops ws row word) (m : Bool) (em : m ≡ immediate t) where
  abbrev e : List ℕ
  e = slice (at + 1) b ds

  long_e : length e ≡ b - (at + 1)
  long_e = length-slice (at + 1) b ds o.front.within

  module _ (h : m ≡ true) where
    leaf_alone : Alone ds at b (immediates t) row word (leaf_row t x word (b - at + immediates t)) q.tree
    unfolding tree_rows tree_words dwords tree_table
    leaf_alone =
        let z : operand left (drop at ds) ≡ read_immediates t e (drop b ds) = o.is ∙ rw (sym em ∙ h) in
        let y = leaf_of ds t e b q.tree q.rest o.front.within (sym z ∙ q.is) in
        let i : List ℕ = take (immediates t) (drop b ds) in
        let li : length i ≡ immediates t = some_length (immediates t) ds b y.enough in
        let n : length (t ∷ e ++ i ++ [] ++ [] ++ []) ≡ b - at + immediates t = simp length-append (omega (arith, li, long_e, o.front.from)) in
        subst (Alone ds at b (immediates t) row word (leaf_row t x word (b - at + immediates t))) (sym y.is)
        record {
          enough = y.enough;
          rows_are = refl;
          words_are = simp append-nil;
          dwords_are = n;
          table_is = simp append-nil (leaf_row_lem row word t x (b - at + immediates t) e i y.flat o.front.modified (sym li) (sym n));
        }

    pub leaf_room : Lone (length ds) at b (immediates t) ops ws word
    leaf_room = alone_room o.front q leaf_alone

    pub leaf_wrote : {a : Sums} {L W L' W' : List ℕ} → Stored ds at b (immediates t) (leaf_row t x word (b - at + immediates t)) L W a L' W' → Wrote (operand left (drop at ds)) row word L W a L' W'
    leaf_wrote s = alone_wrote o.front q leaf_alone s

  module _ (h : m ≡ false) where
    indices : operand left (drop at ds) ≡ read_indices (operand (left - 1)) t e (drop b ds)
    indices = o.is ∙ rw (sym em ∙ h)

    pub tree_room : Room (read_indices (operand (left - 1)) t e (drop b ds)) ops ws row word
    tree_room = room_at indices q

    pub tree_wrote : {a : Sums} {L W L' W' : List ℕ} → Wrote (read_indices (operand (left - 1)) t e (drop b ds)) row word L W a L' W' → Wrote (operand left (drop at ds)) row word L W a L' W'
    tree_wrote w = wrote_at indices w

    module _ (f : Flat t) where
      flat_alone : Alone ds at b (dimension t) row word (flat_row t x word (b - at + dimension t)) q.tree
      unfolding tree_table tree_rows
      flat_alone =
          let y = flat_of_lem (operand (left - 1)) ds t e b q.tree q.rest f o.front.within (sym indices ∙ q.is) in
          let u : List ℕ = take (dimension t) (drop b ds) in
          let lu : length u ≡ dimension t = some_length (dimension t) ds b y.enough in
          let n : length (dwords (flat_tree t e u)) ≡ b - at + dimension t = omega (arith, flat_dwords t e u (omega arith), long_e, o.front.from) in
          subst (Alone ds at b (dimension t) row word (flat_row t x word (b - at + dimension t))) (sym y.is)
          record {
            enough = y.enough;
            rows_are = refl;
            words_are = flat_words t e u (omega arith);
            dwords_are = n;
            table_is = simp append-nil (flat_row_lem t f row word x (b - at + dimension t) e u lu o.front.modified (sym n));
          }

      pub flat_room : Lone (length ds) at b (dimension t) ops ws word
      flat_room = alone_room o.front q flat_alone

      pub flat_wrote : {a : Sums} {L W L' W' : List ℕ} → Stored ds at b (dimension t) (flat_row t x word (b - at + dimension t)) L W a L' W' → Wrote (operand left (drop at ds)) row word L W a L' W'
      flat_wrote s = alone_wrote o.front q flat_alone s

-- an operand whose dword t is short: exact, with one index of one dword and no extensions
module _ (left : ℕ) (ds : List ℕ) (at : ℕ) {ops ws row word : ℕ} (q : Room (operand left (drop at ds)) ops ws row word) (t : ℕ) (et : t ≡ get_or ds at 0) {b : Bool} (eb : b ≡ (eqb (t / 0x100000) 1 && exact_dword t)) (h : b ≡ true) where
  said : (eqb (t / 0x100000) 1 ≡ true) × (exact_dword t ≡ true)
  said = both (eqb (t / 0x100000) 1) (exact_dword t) (sym eb ∙ h)

  top : t / 0x100000 ≡ 1
  top = eqb-true (t / 0x100000) 1 said.0

  low : t < 2 ^ 22
  low = omega (arith, top)

  one_index : dimension t ≡ 1
  one_index = omega (arith, top)

  front : Entered left ds at t (at + 1) 0
  front = low_entered left ds at q.is t et low

  unimmediate : false ≡ immediate t
  unimmediate = sym (not_immediate front q.is one_index)

  pub short_room : (dimension t ≡ 1) × (exact_dword t ≡ true) × Lone (length ds) at (at + 1) (dimension t) ops ws word
  short_room = (one_index, said.1, flat_room front q false unimmediate refl (low_flat t low))

  pub short_wrote : {a : Sums} {L W L' W' : List ℕ} → Stored ds at (at + 1) (dimension t) (flat_row t 0 word (at + 1 - at + dimension t)) L W a L' W' → Wrote (operand left (drop at ds)) row word L W a L' W'
  short_wrote s = flat_wrote front q false unimmediate refl (low_flat t low) s

-- an index
module _ (k : ℕ) (ds : List ℕ) (r at : ℕ) {row word : ℕ} {b : Sums} (L W : List ℕ) (q : Ready (read_index (operand k) r (drop (at + b.dwords) ds)) (length ds) at (length L) (length W) row word b) where
  pub indexed : Index (operand k) ds r (at + b.dwords) q.tree q.rest
  indexed = index_of (operand k) ds r (at + b.dwords) q.tree q.rest q.within q.is

  abbrev owned : List ℕ
  owned = take (own r) (drop (at + b.dwords) ds)

  owned_long : length owned ≡ own r
  owned_long = some_length (own r) ds (at + b.dwords) indexed.within

  pub record Counted : Type 0 where
    pub within : at + b.dwords + own r ≤ length ds
    pub rows_are : tree_rows q.tree ≡ tree_rows indexed.child
    pub words_are : length (tree_words q.tree) ≡ own r + length (tree_words indexed.child)
    pub dwords_are : length (dwords q.tree) ≡ own r + length (dwords indexed.child)
    pub for_rows : 16 * (b.rows + tree_rows q.tree) ≤ length L
    pub for_words : b.words + length (tree_words q.tree) ≤ length W
    pub row_fits : row + b.rows + tree_rows q.tree < 2 ^ 32
    pub word_fits : word + b.words + length (tree_words q.tree) < 2 ^ 32
    pub dwords_fit : b.dwords + length (dwords q.tree) < 2 ^ 32

  pub counted : Counted
  unfolding tree_rows tree_words dwords
  counted =
      record {
        within = indexed.within;
        rows_are = ap tree_rows indexed.is;
        words_are = ap (λ (u : Tree). length (tree_words u)) indexed.is ∙ omega (arith, length-append owned (tree_words indexed.child), owned_long);
        dwords_are = ap (λ (u : Tree). length (dwords u)) indexed.is ∙ omega (arith, length-append owned (dwords indexed.child), owned_long);
        for_rows = q.for_rows;
        for_words = q.for_words;
        row_fits = q.row_fits;
        word_fits = q.word_fits;
        dwords_fit = q.dwords_fit;
      }

  pub own_room : OwnRoom (length ds) at (own r) (length W) b
  own_room = record { within = counted.within; for_words = omega (arith, counted) }

  module _ {m : Bool} (em : m ≡ nests r) {W₁ : List ℕ} {s₁ : Sums} (y : Owned ds at (own r) b W s₁ W₁) where
    child_is : not m ≡ false → operand k (drop (at + s₁.dwords) ds) ≡ got indexed.child q.rest
    child_is h = let z : at + s₁.dwords ≡ at + b.dwords + own r = omega (arith, y.dwords_are) in ap (λ (n : ℕ). operand k (drop n ds)) z ∙ indexed.nested (sym em ∙ not-false m h)

    abbrev pub f : ℕ
    f = s₁.rows * 16

    pub child_room : not m ≡ false → length W₁ ≡ length W → Room (operand k (drop (at + s₁.dwords) ds)) (length (take (length L - f) (drop f L))) (length (take (length W₁ - s₁.words) (drop s₁.words W₁))) (row + s₁.rows) (word + s₁.words)
    child_room h lw =
        let ll = lent_length f L in
        let lm = lent_length s₁.words W₁ in
        record {
          tree = indexed.child;
          rest = q.rest;
          is = child_is h;
          for_rows = omega (arith, counted, y);
          for_words = omega (arith, counted, y);
          row_fits = omega (arith, counted, y);
          word_fits = omega (arith, counted, y);
          dwords_fit = omega (arith, counted, y);
        }

    pub child_put : not m ≡ false → {row₁ word₁ : ℕ} {l u : List ℕ} {x : Sums} {l' u' : List ℕ} → Wrote (operand k (drop (at + s₁.dwords) ds)) row₁ word₁ l u x l' u' → Put indexed.child row₁ word₁ l u x l' u'
    child_put h w = w indexed.child q.rest (child_is h)

    pub flat_put : not m ≡ true → WroteNext (read_index (operand k) r (drop (at + b.dwords) ds)) row word b L W s₁ L W₁
    unfolding tree_rows tree_words dwords tree_table
    flat_put h =
        let et : q.tree ≡ plain owned none = indexed.is ∙ ap (plain owned) (indexed.flat (sym em ∙ not-true m h)) in
        let ew : length (owned ++ []) ≡ own r = simp append-nil owned_long in
        next_of q.tree q.rest q.is
        (subst (λ (u : Tree). Next u row word b L W s₁ L W₁) (sym et)
        record {
          rows_are = omega (arith, y.rows_are);
          words_are = omega (arith, y.words_are);
          dwords_are = omega (arith, y.dwords_are);
          rows_put = over_none (16 * b.rows) L;
          words_put = rw (append-nil owned) y.words_put;
        })

    pub nested_put : not m ≡ false → {x : Sums} {us vs : List ℕ} → Wrote (operand k (drop (at + s₁.dwords) ds)) (row + s₁.rows) (word + s₁.words) (take (length L - f) (drop f L)) (take (length W₁ - s₁.words) (drop s₁.words W₁)) x us vs
        → WroteNext (read_index (operand k) r (drop (at + b.dwords) ds)) row word b L W (record { rows = s₁.rows + x.rows; words = s₁.words + x.words; dwords = s₁.dwords + x.dwords }) (put_mid f (length L - f) L us) (put_mid s₁.words (length W₁ - s₁.words) W₁ vs)
    unfolding tree_rows tree_words dwords tree_table
    nested_put h {x} {us} {vs} wr =
        let s : Sums = record { rows = s₁.rows + x.rows; words = s₁.words + x.words; dwords = s₁.dwords + x.dwords } in
        let c : Tree = indexed.child in
        let p = child_put h wr in
        let lo = length-append owned (tree_words c) in
        let ld = length-append owned (dwords c) in
        let T : List ℕ = tree_table (row + s₁.rows) (word + s₁.words) c in
        let n : row + s₁.rows ≡ row + b.rows = omega (arith, y.rows_are) in
        let w : word + s₁.words ≡ word + b.words + length owned = omega (arith, y.words_are, owned_long) in
        let z : f ≡ 16 * b.rows = omega (arith, y.rows_are) in
        let second : Over s₁.words (tree_words c) W₁ (put_mid s₁.words (length W₁ - s₁.words) W₁ vs) = back s₁.words W₁ vs (tree_words c) (length (tree_words c)) refl p.words_put in
        let rows : Over f T L (put_mid f (length L - f) L us) = back f L us T (16 * tree_rows c) (sym (table_length (row + s₁.rows) (word + s₁.words) c)) p.rows_put in
        let rows₁ : Over f (tree_table (row + b.rows) (word + b.words + length owned) c) L (put_mid f (length L - f) L us) = subst (λ (i : ℕ). Over f (tree_table (row + b.rows) i c) L (put_mid f (length L - f) L us)) w (subst (λ (i : ℕ). Over f (tree_table i (word + s₁.words) c) L (put_mid f (length L - f) L us)) n rows) in
        next_of q.tree q.rest q.is
        (subst (λ (u : Tree). Next u row word b L W s (put_mid f (length L - f) L us) (put_mid s₁.words (length W₁ - s₁.words) W₁ vs)) (sym indexed.is)
        record {
          rows_are = omega (arith, p.rows_are, y.rows_are);
          words_are = omega (arith, p.words_are, y.words_are, owned_long);
          dwords_are = omega (arith, p.dwords_are, y.dwords_are, owned_long);
          rows_put = subst (λ (i : ℕ). Over i (tree_table (row + b.rows) (word + b.words + length owned) c) L (put_mid f (length L - f) L us)) z rows₁;
          words_put = over_more b.words s₁.words owned (tree_words c) W W₁ (put_mid s₁.words (length W₁ - s₁.words) W₁ vs) (omega (arith, counted, owned_long)) (omega (arith, y.words_are, owned_long)) y.words_put second;
        })

-- the row of an operand with indices
row_of : (r w t x : ℕ) (e : List ℕ) (a b c : Tree) (w₀ w₁ w₂ r₀ r₁ r₂ rows ds : ℕ) → x ≡ modifiers e → w₀ ≡ w + 0 → w₁ ≡ w + 0 + length (tree_words a) → w₂ ≡ w + 0 + length (tree_words a) + length (tree_words b)
    → r₀ ≡ r + 1 → r₁ ≡ r + 1 + tree_rows a → r₂ ≡ r + 1 + tree_rows a + tree_rows b → rows ≡ tree_rows (node t e [] a b c) → ds ≡ length (dwords (node t e [] a b c))
    → row_for t x w₀ w₁ w₂ r₀ r₁ r₂ rows ds ≡ operand_row r w t e [] a b c
unfolding row_for operand_row
row_of r w t x e a b c w₀ w₁ w₂ r₀ r₁ r₂ rows ds ex f₀ f₁ f₂ g₀ g₁ g₂ er ed =
    λ i. row_for t (ex i) (f₀ i) (f₁ i) (f₂ i) (g₀ i) (g₁ i) (g₂ i) (er i) (ed i)

-- an operand with indices: the sums before the first, and after each
module _ (k : ℕ) (ds : List ℕ) (t : ℕ) (e : List ℕ) (b : ℕ) {row word : ℕ} (L₀ W₀ : List ℕ) (q : Room (read_indices (operand k) t e (drop b ds)) (length L₀) (length W₀) row word) (h : b ≤ length ds) where
  pub nodes : Node k ds t e b q.tree
  nodes = node_of k ds t e b q.tree q.rest h q.is

  abbrev x₀ : Tree
  x₀ = nodes.x₀

  abbrev x₁ : Tree
  x₁ = nodes.x₁

  abbrev x₂ : Tree
  x₂ = nodes.x₂

  pub record Numbers : Type 0 where
    pub for_rows : 16 * (1 + tree_rows x₀ + tree_rows x₁ + tree_rows x₂) ≤ length L₀
    pub for_words : length (tree_words x₀) + length (tree_words x₁) + length (tree_words x₂) ≤ length W₀
    pub row_fits : row + (1 + tree_rows x₀ + tree_rows x₁ + tree_rows x₂) < 2 ^ 32
    pub word_fits : word + (length (tree_words x₀) + length (tree_words x₁) + length (tree_words x₂)) < 2 ^ 32
    pub dwords_fit : 1 + length e + (length (dwords x₀) + length (dwords x₁) + length (dwords x₂)) < 2 ^ 32
    pub within : b + length (dwords x₀) + length (dwords x₁) + length (dwords x₂) ≤ length ds

  pub numbers : Numbers
  unfolding tree_rows tree_words dwords
  numbers =
      let er : tree_rows q.tree ≡ 1 + tree_rows x₀ + tree_rows x₁ + tree_rows x₂ = ap tree_rows nodes.is in
      let lw : length ([] ++ tree_words x₀ ++ tree_words x₁ ++ tree_words x₂) ≡ length (tree_words x₀) + length (tree_words x₁) + length (tree_words x₂) = simp length-append (omega arith) in
      let ld : length (t ∷ e ++ [] ++ dwords x₀ ++ dwords x₁ ++ dwords x₂) ≡ 1 + length e + (length (dwords x₀) + length (dwords x₁) + length (dwords x₂)) = simp length-append (omega arith) in
      let ew : length (tree_words q.tree) ≡ length (tree_words x₀) + length (tree_words x₁) + length (tree_words x₂) = ap (λ (u : Tree). length (tree_words u)) nodes.is ∙ lw in
      let ed : length (dwords q.tree) ≡ 1 + length e + (length (dwords x₀) + length (dwords x₁) + length (dwords x₂)) = ap (λ (u : Tree). length (dwords u)) nodes.is ∙ ld in
      record {
        for_rows = omega (arith, q.for_rows);
        for_words = omega (arith, q.for_words);
        row_fits = omega (arith, q.row_fits);
        word_fits = omega (arith, q.word_fits);
        dwords_fit = omega (arith, q.dwords_fit);
        within = nodes.within;
      }

  -- the operand's own row is counted
  abbrev pub s₀ : Sums
  s₀ = record { rows = 1; words = 0; dwords = 0 }

  pub ready₀ : {r : ℕ} → r ≡ repr 0 t → Ready (read_index (operand k) r (drop (b + s₀.dwords) ds)) (length ds) b (length L₀) (length W₀) row word s₀
  ready₀ er =
      let z : b ≡ b + s₀.dwords = omega arith in
      record {
        tree = x₀;
        rest = nodes.r₀;
        is = (λ i. read_index (operand k) (er i) (drop (sym z i) ds)) ∙ nodes.first;
        within = omega (arith, h);
        for_rows = omega (arith, numbers);
        for_words = omega (arith, numbers);
        row_fits = omega (arith, numbers);
        word_fits = omega (arith, numbers);
        dwords_fit = omega (arith, numbers);
      }

  module _ {r₀ : ℕ} (e₀ : r₀ ≡ repr 0 t) {L₁ W₁ : List ℕ} {s₁ : Sums} (w₀ : WroteNext (read_index (operand k) r₀ (drop (b + s₀.dwords) ds)) row word s₀ L₀ W₀ s₁ L₁ W₁) where
    next₀ : Next x₀ row word s₀ L₀ W₀ s₁ L₁ W₁
    unfolding ready₀
    next₀ = let p = ready₀ e₀ in w₀ p.tree p.rest p.is

    pub ready₁ : {r : ℕ} → r ≡ repr 1 t → {ops' ws' : ℕ} → ops' ≡ length L₀ → ws' ≡ length W₀ → Ready (read_index (operand k) r (drop (b + s₁.dwords) ds)) (length ds) b ops' ws' row word s₁
    ready₁ er lo lw =
        let z : b + length (dwords x₀) ≡ b + s₁.dwords = omega (arith, next₀.dwords_are) in
        record {
          tree = x₁;
          rest = nodes.r₁;
          is = (λ i. read_index (operand k) (er i) (drop (sym z i) ds)) ∙ nodes.second;
          within = omega (arith, next₀, numbers);
          for_rows = omega (arith, next₀, numbers);
          for_words = omega (arith, next₀, numbers);
          row_fits = omega (arith, next₀, numbers);
          word_fits = omega (arith, next₀, numbers);
          dwords_fit = omega (arith, next₀, numbers);
        }

    module _ {r₁ : ℕ} (e₁ : r₁ ≡ repr 1 t) {L₂ W₂ : List ℕ} {s₂ : Sums} (w₁ : WroteNext (read_index (operand k) r₁ (drop (b + s₁.dwords) ds)) row word s₁ L₁ W₁ s₂ L₂ W₂) where
      next₁ : Next x₁ row word s₁ L₁ W₁ s₂ L₂ W₂
      unfolding ready₁
      next₁ = let p = ready₁ e₁ refl refl in w₁ p.tree p.rest p.is

      pub ready₂ : {r : ℕ} → r ≡ repr 2 t → {ops' ws' : ℕ} → ops' ≡ length L₀ → ws' ≡ length W₀ → Ready (read_index (operand k) r (drop (b + s₂.dwords) ds)) (length ds) b ops' ws' row word s₂
      ready₂ er lo lw =
          let z : b + length (dwords x₀) + length (dwords x₁) ≡ b + s₂.dwords = omega (arith, next₀.dwords_are, next₁.dwords_are) in
          record {
            tree = x₂;
            rest = nodes.r₂;
            is = (λ i. read_index (operand k) (er i) (drop (sym z i) ds)) ∙ nodes.third;
            within = omega (arith, next₀, next₁, numbers);
            for_rows = omega (arith, next₀, next₁, numbers);
            for_words = omega (arith, next₀, next₁, numbers);
            row_fits = omega (arith, next₀, next₁, numbers);
            word_fits = omega (arith, next₀, next₁, numbers);
            dwords_fit = omega (arith, next₀, next₁, numbers);
          }

      module _ {r₂ : ℕ} (e₂ : r₂ ≡ repr 2 t) {L₃ W₃ : List ℕ} {s₃ : Sums} (w₂ : WroteNext (read_index (operand k) r₂ (drop (b + s₂.dwords) ds)) row word s₂ L₂ W₂ s₃ L₃ W₃) where
        next₂ : Next x₂ row word s₂ L₂ W₂ s₃ L₃ W₃
        unfolding ready₂
        next₂ = let p = ready₂ e₂ refl refl in w₂ p.tree p.rest p.is

        module _ (at : ℕ) (ha : at < b) (le : length e ≡ b - (at + 1)) where
          pub node_sum : b - at + s₃.dwords < 2 ^ 32
          node_sum = omega (arith, next₀.dwords_are, next₁.dwords_are, next₂.dwords_are, numbers.dwords_fit)

          abbrev pub s : Sums
          s = record { rows = s₃.rows; words = s₃.words; dwords = b - at + s₃.dwords }

          pub node_fits : Fits row word s₁ s₂ s
          node_fits =
              record {
                words₁ = omega (arith, next₁.words_are);
                words₂ = omega (arith, next₂.words_are);
                rows₀ = omega (arith, next₀.rows_are);
                rows₁ = omega (arith, next₁.rows_are);
                rows₂ = omega (arith, next₂.rows_are);
                word_fits = omega (arith, next₀.words_are, next₁.words_are, next₂.words_are, numbers.word_fits);
                row_fits = omega (arith, next₀.rows_are, next₁.rows_are, next₂.rows_are, numbers.row_fits);
                dwords_fit = omega (arith, node_sum);
              }

          abbrev T₀ : List ℕ
          T₀ = tree_table (row + s₀.rows) (word + s₀.words) x₀

          abbrev T₁ : List ℕ
          T₁ = tree_table (row + s₁.rows) (word + s₁.words) x₁

          abbrev T₂ : List ℕ
          T₂ = tree_table (row + s₂.rows) (word + s₂.words) x₂

          tables : Over 16 (T₀ ++ T₁ ++ T₂) L₀ L₃
          tables =
              let l₀ = table_length (row + s₀.rows) (word + s₀.words) x₀ in
              let l₁ = table_length (row + s₁.rows) (word + s₁.words) x₁ in
              let l₂ = table_length (row + s₂.rows) (word + s₂.words) x₂ in
              let a₀ = length-append T₀ T₁ in
              let z : 16 * s₀.rows ≡ 16 = refl in
              let p₀ : Over 16 T₀ L₀ L₁ = subst (λ (n : ℕ). Over n T₀ L₀ L₁) z next₀.rows_put in
              let p₁ : Over 16 (T₀ ++ T₁) L₀ L₂ = over_more 16 (16 * s₁.rows) T₀ T₁ L₀ L₁ L₂ (omega (arith, numbers.for_rows)) (omega (arith, next₀.rows_are)) p₀ next₁.rows_put in
              over_more 16 (16 * s₂.rows) (T₀ ++ T₁) T₂ L₀ L₂ L₃ (omega (arith, numbers.for_rows)) (omega (arith, next₀.rows_are, next₁.rows_are)) p₁ next₂.rows_put

          words : Over 0 (tree_words x₀ ++ tree_words x₁ ++ tree_words x₂) W₀ W₃
          words =
              let a₀ = length-append (tree_words x₀) (tree_words x₁) in
              let p₀ : Over 0 (tree_words x₀) W₀ W₁ = next₀.words_put in
              let p₁ : Over 0 (tree_words x₀ ++ tree_words x₁) W₀ W₂ = over_more 0 s₁.words (tree_words x₀) (tree_words x₁) W₀ W₁ W₂ (omega (arith, numbers.for_words)) (omega (arith, next₀.words_are)) p₀ next₁.words_put in
              over_more 0 s₂.words (tree_words x₀ ++ tree_words x₁) (tree_words x₂) W₀ W₂ W₃ (omega (arith, numbers.for_words)) (omega (arith, next₀.words_are, next₁.words_are)) p₁ next₂.words_put

          pub node_put : {x : ℕ} → x ≡ modifiers e → {L₄ R : List ℕ} → R ≡ row_for t x word (word + s₁.words) (word + s₂.words) (row + 1) (row + s₁.rows) (row + s₂.rows) s.rows s.dwords
              → L₄ ≡ R ++ drop 16 L₃ → Wrote (read_indices (operand k) t e (drop b ds)) row word L₀ W₀ s L₄ W₃
          unfolding tree_rows tree_words dwords tree_table
          node_put {x} ex {L₄} {R} er el =
              let n₀ = next₀ in
              let n₁ = next₁ in
              let n₂ = next₂ in
              let g : Tree = node t e [] x₀ x₁ x₂ in
              let D : List ℕ = drop (16 * tree_rows g) L₀ in
              let l₀ = table_length (row + s₀.rows) (word + s₀.words) x₀ in
              let l₁ = table_length (row + s₁.rows) (word + s₁.words) x₁ in
              let l₂ = table_length (row + s₂.rows) (word + s₂.words) x₂ in
              let a₀ = length-append T₀ T₁ in
              let a₁ = length-append (T₀ ++ T₁) T₂ in
              let er₃ : s.rows ≡ 1 + tree_rows x₀ + tree_rows x₁ + tree_rows x₂ = omega arith in
              let lg : length ([] ++ tree_words x₀ ++ tree_words x₁ ++ tree_words x₂) ≡ s.words = simp length-append (omega arith) in
              let ld : length (t ∷ e ++ [] ++ dwords x₀ ++ dwords x₁ ++ dwords x₂) ≡ s.dwords = simp length-append (omega arith) in
              let p : R ≡ operand_row row word t e [] x₀ x₁ x₂ =
              er ∙ row_of row word t x e x₀ x₁ x₂ word (word + s₁.words) (word + s₂.words) (row + 1) (row + s₁.rows) (row + s₂.rows) s.rows s.dwords ex (omega arith) (omega arith) (omega arith) refl (omega arith) (omega arith) er₃ (sym ld) in
              let z : 16 + length (T₀ ++ T₁ ++ T₂) ≡ 16 * (1 + tree_rows x₀ + tree_rows x₁ + tree_rows x₂) = omega arith in
              let k₀ : row + s₀.rows ≡ row + 1 = omega arith in
              let k₁ : row + s₁.rows ≡ row + 1 + tree_rows x₀ = omega arith in
              let k₂ : row + s₂.rows ≡ row + 1 + tree_rows x₀ + tree_rows x₁ = omega arith in
              let v₀ : word + s₀.words ≡ word + 0 = omega arith in
              let v₁ : word + s₁.words ≡ word + 0 + length (tree_words x₀) = omega arith in
              let v₂ : word + s₂.words ≡ word + 0 + length (tree_words x₀) + length (tree_words x₁) = omega arith in
              wrote_of q.tree q.rest q.is
              (subst (λ (u : Tree). Put u row word L₀ W₀ s L₄ W₃) (sym nodes.is)
              record {
                rows_are = er₃;
                words_are = sym lg;
                dwords_are = sym ld;
                rows_put =
                    row_before R (T₀ ++ T₁ ++ T₂) L₀ L₃ L₄ (omega (arith, numbers.for_rows)) tables el
                    ∙ ap (λ (l : List ℕ). l ++ drop (16 + length (T₀ ++ T₁ ++ T₂)) L₀) (sym (append_assoc R (T₀ ++ T₁) T₂) ∙ ap (λ (l : List ℕ). l ++ T₂) (sym (append_assoc R T₀ T₁)))
                    ∙ (λ i. p i ++ tree_table (k₀ i) (v₀ i) x₀ ++ tree_table (k₁ i) (v₁ i) x₁ ++ tree_table (k₂ i) (v₂ i) x₂ ++ drop (z i) L₀);
                words_put = over_front (tree_words x₀ ++ tree_words x₁ ++ tree_words x₂) W₀ W₃ words;
              })
