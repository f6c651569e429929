-- What the pools hold of each instruction after an accepted chunk; rows moved to where they stand.
use Prim.Native.Nat.{ℕ, zero, suc, ◌+◌, ◌*◌, ◌-◌, ◌/◌, ◌%◌, ◌^◌, ◌≤◌, ◌<◌}
use mathlib.Core.Path.{◌≡◌, refl, sym, ap, ap₂, ◌∙◌}
use mathlib.Core.List.{List, [], ◌∷◌, ◌++◌, append_assoc, append-nil}
use mathlib.Core.Bool.{Bool, true, false, cond}
use lib.ListN.{length, take, drop, length-append, length-drop, get_or-append}
use lib.Seq.{take_at, drop_at, get_or-append-add, take-append-le, drop-append-le, take_all}
use lib.Dec.{ltb}
use lib.Pow.{field, mod-mod-pow, shr-shr}
use native.Mathlib.Omega.{arith}
use native.Mathlib.Nat.{add-zero, zero-add}
use borrow.Author.Tests.{ltb-true, lt-ltb, le-ltb, le-leb}
use Rattle.format.specs.Dwords.{bits_from}
use Rattle.format.specs.Operands as op
use Rattle.format.specs.Operands.{Tree, none, plain, node}
use Rattle.format.specs.Instructions.{Instruction, unread, pieces, dwords}
use Rattle.format.specs.Rows.{placed, tree_words, tree_rows, operand_row, tree_table, parts_words, parts_rows, parts_table, parts, unread_row, instruction_row, instruction_rows, all_parts}
use Rattle.format.specs.Refusals.{Pools, Rows, accepted, answer, after, pools_after, reading}
use Rattle.format.specs.Calls.{cell, reached, spanned, part_of}
use Rattle.format.specs.Encoder.{at}
use Rattle.format.specs.Editions.{Entry, next_row, entry, repr_in, move_operand, move_operands, move}
use Rattle.format.proofs.Dwords.{impossible}
use Rattle.format.proofs.Rows.{row_length, operand_row_length, parts_length, table_length, rows_append, words_append, table_append}
use Rattle.format.proofs.Made.{nil_of}
use Rattle.format.proofs.Remade.{row_words}

-- ---- what stands in the pools for instruction k
abbrev pub entry_of : ℕ → ℕ → ℕ → Instruction → Entry
entry_of at₀ r w i = record { row = instruction_row at₀ r w i; operands = parts_table r w (parts i); words = parts_words (parts i) }

unfoldable pub nth : ℕ → ℕ → ℕ → List Instruction → ℕ → Entry
nth at₀ r w [] k = record { row = []; operands = []; words = [] }
nth at₀ r w (i ∷ l) zero = entry_of at₀ r w i
nth at₀ r w (i ∷ l) (suc k) = nth (at₀ + 4 * length (dwords i)) (r + parts_rows (parts i)) (w + length (parts_words (parts i))) l k

cell_at : (X row rest : List ℕ) (j n : ℕ) → length X ≡ 16 * j → length row ≡ 16 → n < 16 → cell j n (X ++ (row ++ rest)) ≡ at n row
cell_at X row rest j n x y h = rw (← x) (get_or-append-add X (row ++ rest) n 0) ∙ get_or-append row rest 0 n (omega arith)

pub row_places : (at₀ r w : ℕ) (i : Instruction) → (at 12 (instruction_row at₀ r w i) ≡ r) × (at 14 (instruction_row at₀ r w i) ≡ w)
unfolding instruction_row unread_row
row_places at₀ r w (unread ds) = (refl, refl)
row_places at₀ r w (pieces t e ps) = (refl, refl)

-- X, Y and Z stand before, of j instructions, r operand rows and w words; X', Y' and Z' behind
record Before (j r w : ℕ) (X Y Z : List ℕ) : Type 0 where
  instructions : length X ≡ 16 * j
  operands : length Y ≡ 16 * r
  words : length Z ≡ w

abbrev around : (v j nw at₀ r w : ℕ) (l : List Instruction) (X Y Z X' Y' Z' : List ℕ) → Rows
around v j nw at₀ r w l X Y Z X' Y' Z' = record {
  version = v;
  instructions = j + length l;
  operands = r + parts_rows (all_parts l);
  words = nw;
  pools = record { instructions = X ++ (instruction_rows at₀ r w l ++ X'); operands = Y ++ (parts_table r w (all_parts l) ++ Y'); words = Z ++ (parts_words (all_parts l) ++ Z') };
}

seam : (x a b c d : List ℕ) → x ++ ((a ++ (b ++ c)) ++ d) ≡ (x ++ a) ++ (b ++ (c ++ d))
seam x a b c d = simp append_assoc

front : (x a b c : List ℕ) → x ++ ((a ++ b) ++ c) ≡ x ++ (a ++ (b ++ c))
front x a b c = simp append_assoc

behind : (x a b c : List ℕ) → x ++ ((a ++ b) ++ c) ≡ (x ++ a) ++ (b ++ c)
behind x a b c = simp append_assoc

reaches : (x a b c : List ℕ) → length x + length a ≤ length (x ++ ((a ++ b) ++ c))
reaches x a b c = simp length-append (omega arith)

next_row_lem : (v j nw at₀ r w : ℕ) (i : Instruction) (l : List Instruction) (X Y Z X' Y' Z' : List ℕ) → Before j r w X Y Z → next_row (around v j nw at₀ r w (i ∷ l) X Y Z X' Y' Z') j ≡ r + parts_rows (parts i)
unfolding next_row instruction_rows all_parts
next_row_lem v j nw at₀ r w i [] X Y Z X' Y' Z' b = rw (le-ltb (j + 1) (j + 1) (omega arith), append-nil (parts i))
next_row_lem v j nw at₀ r w i (i₂ ∷ l) X Y Z X' Y' Z' b =
    let r₂ : ℕ = r + parts_rows (parts i) in
    let w₂ : ℕ = w + length (parts_words (parts i)) in
    let at₂ : ℕ = at₀ + 4 * length (dwords i) in
    let q : List ℕ = instruction_row at₀ r w i in
    let q₂ : List ℕ = instruction_row at₂ r₂ w₂ i₂ in
    let n : length (X ++ q) ≡ 16 * (j + 1) = omega (arith, length-append X q, row_length at₀ r w i, b.instructions) in
    rw (lt-ltb (j + 1) (j + suc (suc (length l))) (omega arith), seam X q q₂ _ X') (cell_at (X ++ q) q₂ _ (j + 1) 12 n (row_length at₂ r₂ w₂ i₂) (omega arith) ∙ (row_places at₂ r₂ w₂ i₂).0)

-- the entry where it stands
module _ (v j nw at₀ r w : ℕ) (i : Instruction) (l : List Instruction) (X Y Z X' Y' Z' : List ℕ) (b : Before j r w X Y Z) where
  abbrev q : Rows
  q = around v j nw at₀ r w (i ∷ l) X Y Z X' Y' Z'

  cell_in : (n : ℕ) → n < 16 → cell j n q.pools.instructions ≡ at n (instruction_row at₀ r w i)
  unfolding instruction_rows
  cell_in n h = rw (front X (instruction_row at₀ r w i) _ X') (cell_at X (instruction_row at₀ r w i) _ j n b.instructions (row_length at₀ r w i) h)

  row_in : take 16 (drop (16 * j) q.pools.instructions) ≡ instruction_row at₀ r w i
  unfolding instruction_rows
  row_in = rw (drop_at X _ (16 * j) b.instructions, append_assoc (instruction_row at₀ r w i) _ X') (take_at (instruction_row at₀ r w i) _ 16 (row_length at₀ r w i))

  operands_in_lem : take (16 * parts_rows (parts i)) (drop (16 * r) q.pools.operands) ≡ parts_table r w (parts i)
  unfolding all_parts
  operands_in_lem = rw (drop_at Y _ (16 * r) b.operands, table_append r w (parts i) (all_parts l), append_assoc (parts_table r w (parts i)) _ Y') (take_at (parts_table r w (parts i)) _ (16 * parts_rows (parts i)) (parts_length r w (parts i)))

  words_in : take (length (parts_words (parts i))) (drop w q.pools.words) ≡ parts_words (parts i)
  unfolding all_parts
  words_in = rw (drop_at Z _ w b.words, words_append (parts i) (all_parts l), append_assoc (parts_words (parts i)) _ Z') (take_at (parts_words (parts i)) _ (length (parts_words (parts i))) refl)

  spans : spanned j (j + length (i ∷ l)) q.pools.instructions q.pools.words ≡ true
  unfolding spanned reached instruction_rows all_parts
  spans =
      let is = instruction_rows (at₀ + 4 * length (dwords i)) (r + parts_rows (parts i)) (w + length (parts_words (parts i))) l in
      let c₁ = reaches X (instruction_row at₀ r w i) is X' in
      let c₂ = reaches Z (parts_words (parts i)) (parts_words (all_parts l)) Z' in
      rw (
        lt-ltb j (j + suc (length l)) (omega arith),
        le-leb (16 * j + 16) (length q.pools.instructions) (omega (arith, c₁, b.instructions, row_length at₀ r w i)),
        cell_in 14 (omega arith),
        cell_in 15 (omega arith),
        (row_places at₀ r w i).1,
        row_words at₀ r w i,
        words_append (parts i) (all_parts l),
        le-leb (w + length (parts_words (parts i))) (length (Z ++ ((parts_words (parts i) ++ parts_words (all_parts l)) ++ Z'))) (omega (arith, c₂, b.words)),
      )

  entry_here : entry q j ≡ entry_of at₀ r w i
  unfolding entry part_of
  entry_here =
      let e₁ : r + parts_rows (parts i) - r ≡ parts_rows (parts i) = omega arith in
      rw (spans, next_row_lem v j nw at₀ r w i l X Y Z X' Y' Z' b, cell_in 12 (omega arith), cell_in 14 (omega arith), cell_in 15 (omega arith), (row_places at₀ r w i).0, (row_places at₀ r w i).1, row_words at₀ r w i, e₁, row_in, operands_in_lem, words_in)

before_next : (j at₀ r w : ℕ) (i : Instruction) (X Y Z : List ℕ) → Before j r w X Y Z →
    Before (j + 1) (r + parts_rows (parts i)) (w + length (parts_words (parts i))) (X ++ instruction_row at₀ r w i) (Y ++ parts_table r w (parts i)) (Z ++ parts_words (parts i))
before_next j at₀ r w i X Y Z b = record {
  instructions = omega (arith, length-append X (instruction_row at₀ r w i), row_length at₀ r w i, b.instructions);
  operands = omega (arith, length-append Y (parts_table r w (parts i)), parts_length r w (parts i), b.operands);
  words = omega (arith, length-append Z (parts_words (parts i)), b.words);
}

around_next : (v j nw at₀ r w : ℕ) (i : Instruction) (l : List Instruction) (X Y Z X' Y' Z' : List ℕ) →
    around v j nw at₀ r w (i ∷ l) X Y Z X' Y' Z' ≡
    around v (j + 1) nw (at₀ + 4 * length (dwords i)) (r + parts_rows (parts i)) (w + length (parts_words (parts i))) l (X ++ instruction_row at₀ r w i) (Y ++ parts_table r w (parts i)) (Z ++ parts_words (parts i)) X' Y' Z'
unfolding instruction_rows all_parts
around_next v j nw at₀ r w i l X Y Z X' Y' Z' =
    let n : j + suc (length l) ≡ j + 1 + length l = omega arith in
    let m : r + parts_rows (parts i ++ all_parts l) ≡ r + parts_rows (parts i) + parts_rows (all_parts l) = omega (arith, rows_append (parts i) (all_parts l)) in
    let a = behind X (instruction_row at₀ r w i) (instruction_rows (at₀ + 4 * length (dwords i)) (r + parts_rows (parts i)) (w + length (parts_words (parts i))) l) X' in
    let b = ap (λ (k : List ℕ). Y ++ (k ++ Y')) (table_append r w (parts i) (all_parts l)) ∙ behind Y (parts_table r w (parts i)) _ Y' in
    let c = ap (λ (k : List ℕ). Z ++ (k ++ Z')) (words_append (parts i) (all_parts l)) ∙ behind Z (parts_words (parts i)) _ Z' in
    λ k. record { version = v; instructions = n k; operands = m k; words = nw; pools = record { instructions = a k; operands = b k; words = c k } }

entry_at : (v j nw at₀ r w : ℕ) (l : List Instruction) (X Y Z X' Y' Z' : List ℕ) → Before j r w X Y Z → (k : ℕ) → k < length l → entry (around v j nw at₀ r w l X Y Z X' Y' Z') (j + k) ≡ nth at₀ r w l k
unfolding nth
entry_at v j nw at₀ r w [] X Y Z X' Y' Z' b k h = impossible (omega arith)
entry_at v j nw at₀ r w (i ∷ l) X Y Z X' Y' Z' b zero h = ap (entry (around v j nw at₀ r w (i ∷ l) X Y Z X' Y' Z')) (add-zero j) ∙ entry_here v j nw at₀ r w i l X Y Z X' Y' Z' b
entry_at v j nw at₀ r w (i ∷ l) X Y Z X' Y' Z' b (suc k) h =
    let n : j + suc k ≡ j + 1 + k = omega arith in
    ap₂ entry (around_next v j nw at₀ r w i l X Y Z X' Y' Z') n ∙ entry_at v (j + 1) nw _ _ _ l _ _ _ X' Y' Z' (before_next j at₀ r w i X Y Z b) k (omega arith)

-- after an accepted chunk
pub entry_nth : (v : ℕ) (l : List Instruction) (p : Pools) (k : ℕ) → k < length l → entry (reading (accepted v l) p) k ≡ nth 8 0 0 l k
unfolding reading answer pools_after after
entry_nth v l p k h =
    let e₁ : 0 + length l ≡ length l = omega arith in
    let e₂ : 0 + parts_rows (all_parts l) ≡ parts_rows (all_parts l) = omega arith in
    let e₃ : 0 + k ≡ k = omega arith in
    rw (e₁, e₂, e₃) at (entry_at v 0 (length (parts_words (all_parts l))) 8 0 0 l [] [] [] (drop (length (instruction_rows 8 0 0 l)) p.instructions) (drop (length (parts_table 0 0 (all_parts l))) p.operands) (drop (length (parts_words (all_parts l))) p.words) (record { instructions = refl; operands = refl; words = refl }) k h)

-- ---- rows moved to where they stand
repr_field : (i d t : ℕ) → i < d → bits_from (3 * i) 3 (bits_from 22 (3 * d) t) ≡ bits_from (22 + 3 * i) 3 t
repr_field i d t h =
    let m : ℕ = 3 * d - 3 - 3 * i in
    let z : 3 * d ≡ m + 3 + 3 * i = omega arith in
    ap (λ (n : ℕ). t / 2 ^ 22 % 2 ^ n / 2 ^ (3 * i) % 2 ^ 3) z ∙
    ap (λ (n : ℕ). n % 2 ^ 3) (field (t / 2 ^ 22) (m + 3) (3 * i)) ∙
    mod-mod-pow (t / 2 ^ 22 / 2 ^ (3 * i)) m 3 ∙
    ap (λ (n : ℕ). n % 2 ^ 3) (shr-shr t 22 (3 * i))

repr_in_lem : (i r w t : ℕ) (e m : List ℕ) (a b c : Tree) → repr_in i (operand_row r w t e m a b c) ≡ op.repr i t
unfolding repr_in operand_row op.repr op.reprs
repr_in_lem i r w t e m a b c = go (ltb i (op.dimension t)) refl
  where
    go : (x : Bool) → ltb i (op.dimension t) ≡ x → cond x (bits_from (3 * i) 3 (bits_from 22 (3 * op.dimension t) t)) 8 ≡ cond x (bits_from (22 + 3 * i) 3 t) 8
    go true z = repr_field i (op.dimension t) t (ltb-true i (op.dimension t) z)
    go false z = refl

-- a place that is used moves
moved : (u : Bool) (a b c : ℕ) → a + b ≡ c → placed u (a + placed u b) ≡ placed u c
moved true a b c e = e
moved false a b c e = refl

row_moved : (r w r₀ w₀ t : ℕ) (e m : List ℕ) (a b c : Tree) → move_operand r w (operand_row r₀ w₀ t e m a b c) ≡ operand_row (r + r₀) (w + w₀) t e m a b c
unfolding move_operand
row_moved r w r₀ w₀ t e m a b c =
    rw (repr_in_lem 0 r₀ w₀ t e m a b c, repr_in_lem 1 r₀ w₀ t e m a b c, repr_in_lem 2 r₀ w₀ t e m a b c)
    (unfold operand_row in (λ i.
    op.type_of t ∷ op.form t ∷ op.selection t ∷ op.modifiers e ∷ moved (ltb 0 (length m)) w w₀ (w + w₀) refl i ∷ length m ∷ op.dimension t ∷ op.reprs t ∷
    moved (ltb 0 (op.own (op.repr 0 t))) w (w₀ + length m) (w + w₀ + length m) (omega arith) i ∷
    moved (ltb 0 (op.own (op.repr 1 t))) w (w₀ + length m + length (tree_words a)) (w + w₀ + length m + length (tree_words a)) (omega arith) i ∷
    moved (ltb 0 (op.own (op.repr 2 t))) w (w₀ + length m + length (tree_words a) + length (tree_words b)) (w + w₀ + length m + length (tree_words a) + length (tree_words b)) (omega arith) i ∷
    moved (op.nests (op.repr 0 t)) r (r₀ + 1) (r + r₀ + 1) (omega arith) i ∷
    moved (op.nests (op.repr 1 t)) r (r₀ + 1 + tree_rows a) (r + r₀ + 1 + tree_rows a) (omega arith) i ∷
    moved (op.nests (op.repr 2 t)) r (r₀ + 1 + tree_rows a + tree_rows b) (r + r₀ + 1 + tree_rows a + tree_rows b) (omega arith) i ∷
    tree_rows (node t e m a b c) ∷ length (op.dwords (node t e m a b c)) ∷ []))

-- rows one after the other
move_append : (n k r w : ℕ) (x y : List ℕ) → length x ≡ 16 * n → move_operands (n + k) r w (x ++ y) ≡ move_operands n r w x ++ move_operands k r w y
unfolding move_operands
move_append zero k r w x y e = rw (nil_of x (omega arith), zero-add k)
move_append (suc n) k r w x y e =
    let s : suc n + k ≡ suc (n + k) = omega arith in
    rw (s, take-append-le 16 x y (omega arith), drop-append-le 16 x y (omega arith), append_assoc) (ap (λ (l : List ℕ). move_operand r w (take 16 x) ++ l) (move_append n k r w (drop 16 x) y (length-drop 16 x ∙ omega arith)))

one_moved : (r w : ℕ) (q : List ℕ) → length q ≡ 16 → move_operands 1 r w q ≡ move_operand r w q
unfolding move_operands
one_moved r w q e = rw (take_all 16 q (omega arith), append-nil)

four_moved : (r w a b c : ℕ) (q x y z : List ℕ) → length q ≡ 16 → length x ≡ 16 * a → length y ≡ 16 * b →
    move_operands (1 + a + b + c) r w (q ++ x ++ y ++ z) ≡ move_operand r w q ++ move_operands a r w x ++ move_operands b r w y ++ move_operands c r w z
four_moved r w a b c q x y z e f g =
    let n₁ : length (q ++ x) ≡ 16 * (1 + a) = omega (arith, length-append q x) in
    let n₂ : length (q ++ x ++ y) ≡ 16 * (1 + a + b) = omega (arith, length-append (q ++ x) y, n₁) in
    rw (move_append (1 + a + b) c r w (q ++ x ++ y) z n₂, move_append (1 + a) b r w (q ++ x) y n₁, move_append 1 a r w q x e, one_moved r w q e)

tree_moved : (r w r₀ w₀ r₁ w₁ : ℕ) (x : Tree) → r + r₀ ≡ r₁ → w + w₀ ≡ w₁ → move_operands (tree_rows x) r w (tree_table r₀ w₀ x) ≡ tree_table r₁ w₁ x
unfolding tree_rows tree_table
tree_moved r w r₀ w₀ r₁ w₁ none er ew = unfold move_operands in refl
tree_moved r w r₀ w₀ r₁ w₁ (plain x c) er ew = tree_moved r w r₀ (w₀ + length x) r₁ (w₁ + length x) c er (omega arith)
tree_moved r w r₀ w₀ r₁ w₁ (node t e m a b c) er ew =
    let v₀ : ℕ = w₀ + length m in
    let v₁ : ℕ = w₁ + length m in
    rw (
      four_moved r w (tree_rows a) (tree_rows b) (tree_rows c) _ _ _ _ (operand_row_length r₀ w₀ t e m a b c) (table_length (r₀ + 1) v₀ a) (table_length (r₀ + 1 + tree_rows a) (v₀ + length (tree_words a)) b),
      row_moved r w r₀ w₀ t e m a b c,
      er,
      ew,
      tree_moved r w (r₀ + 1) v₀ (r₁ + 1) v₁ a (omega arith) (omega arith),
      tree_moved r w (r₀ + 1 + tree_rows a) (v₀ + length (tree_words a)) (r₁ + 1 + tree_rows a) (v₁ + length (tree_words a)) b (omega arith) (omega arith),
      tree_moved r w (r₀ + 1 + tree_rows a + tree_rows b) (v₀ + length (tree_words a) + length (tree_words b)) (r₁ + 1 + tree_rows a + tree_rows b) (v₁ + length (tree_words a) + length (tree_words b)) c (omega arith) (omega arith),
    )

parts_moved : (r w r₀ w₀ r₁ w₁ : ℕ) (ps : List Tree) → r + r₀ ≡ r₁ → w + w₀ ≡ w₁ → move_operands (parts_rows ps) r w (parts_table r₀ w₀ ps) ≡ parts_table r₁ w₁ ps
unfolding parts_rows parts_table
parts_moved r w r₀ w₀ r₁ w₁ [] er ew = unfold move_operands in refl
parts_moved r w r₀ w₀ r₁ w₁ (x ∷ l) er ew = rw (
  move_append (tree_rows x) (parts_rows l) r w (tree_table r₀ w₀ x) _ (table_length r₀ w₀ x),
  tree_moved r w r₀ w₀ r₁ w₁ x er ew,
  parts_moved r w (r₀ + tree_rows x) (w₀ + length (tree_words x)) (r₁ + tree_rows x) (w₁ + length (tree_words x)) l (omega arith) (omega arith),
)

-- an entry is its own, moved to where it stands
pub entry_moved : (at₀ r w : ℕ) (i : Instruction) → entry_of at₀ r w i ≡ move r w (entry_of at₀ 0 0 i)
unfolding move
entry_moved at₀ r w i = λ k. record { row = row at₀ r w i k; operands = operands k; words = parts_words (parts i) }
  where
    n : length (parts_table 0 0 (parts i)) / 16 ≡ parts_rows (parts i)
    n = omega (arith, parts_length 0 0 (parts i))

    operands : parts_table r w (parts i) ≡ move_operands (length (parts_table 0 0 (parts i)) / 16) r w (parts_table 0 0 (parts i))
    operands = rw n (sym (parts_moved r w 0 0 r w (parts i) (omega arith) (omega arith)))

    row : (at₀ r w : ℕ) (i : Instruction) → instruction_row at₀ r w i ≡ take 12 (instruction_row at₀ 0 0 i) ++ (r + at 12 (instruction_row at₀ 0 0 i)) ∷ at 13 (instruction_row at₀ 0 0 i) ∷ (w + at 14 (instruction_row at₀ 0 0 i)) ∷ at 15 (instruction_row at₀ 0 0 i) ∷ []
    row at₀ r w (unread ds) = unfold instruction_row unread_row in rw (add-zero r, add-zero w)
    row at₀ r w (pieces t e ps) = unfold instruction_row in rw (add-zero r, add-zero w)
