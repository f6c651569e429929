-- Laws of rows: how many there are; they and the words are no more than the dwords.
use Prim.Native.Nat.{ℕ, ◌+◌, ◌*◌, ◌≤◌}
use mathlib.Core.Path.{◌≡◌, refl, ap, ap₂, ◌∙◌}
use mathlib.Core.List.{List, [], ◌∷◌, ◌++◌, append_assoc}
use lib.ListN.{length, length-append}
use native.Mathlib.Omega.{arith}
use Rattle.format.specs.Operands as op
use Rattle.format.specs.Operands.{Tree, none, plain, node}
use Rattle.format.specs.Instructions.{Instruction, unread, pieces, dwords, all_dwords}
use Rattle.format.specs.Rows.{tree_words, tree_rows, operand_row, tree_table, parts_words, parts_rows, parts_table, parts, unread_row, instruction_row, instruction_rows, all_parts}

pub four_lengths : (x a b c : List ℕ) → length (x ++ a ++ b ++ c) ≡ length x + length a + length b + length c
four_lengths x a b c = simp length-append

pub operand_row_length : (r w t : ℕ) (e m : List ℕ) (a b c : Tree) → length (operand_row r w t e m a b c) ≡ 16
unfolding operand_row
operand_row_length r w t e m a b c = refl

pub row_length : (at r w : ℕ) (i : Instruction) → length (instruction_row at r w i) ≡ 16
unfolding instruction_row unread_row
row_length at r w (unread ds) = refl
row_length at r w (pieces t e ps) = refl

pub table_length : (r w : ℕ) (t : Tree) → length (tree_table r w t) ≡ 16 * tree_rows t
unfolding tree_table tree_rows
table_length r w none = refl
table_length r w (plain x c) = table_length r (w + length x) c
table_length r w (node t e m a b c) =
    let w₁ : ℕ = w + length m + length (tree_words a) in
    four_lengths (operand_row r w t e m a b c) (tree_table (r + 1) (w + length m) a) (tree_table (r + 1 + tree_rows a) w₁ b) (tree_table (r + 1 + tree_rows a + tree_rows b) (w₁ + length (tree_words b)) c) ∙
    omega (arith, operand_row_length r w t e m a b c, table_length (r + 1) (w + length m) a, table_length (r + 1 + tree_rows a) w₁ b, table_length (r + 1 + tree_rows a + tree_rows b) (w₁ + length (tree_words b)) c)

pub parts_length : (r w : ℕ) (ps : List Tree) → length (parts_table r w ps) ≡ 16 * parts_rows ps
unfolding parts_table parts_rows
parts_length r w [] = refl
parts_length r w (x ∷ l) = length-append (tree_table r w x) _ ∙ omega (arith, table_length r w x, parts_length (r + tree_rows x) (w + length (tree_words x)) l)

pub rows_length : (at r w : ℕ) (l : List Instruction) → length (instruction_rows at r w l) ≡ 16 * length l
unfolding instruction_rows
rows_length at r w [] = refl
rows_length at r w (i ∷ l) = length-append (instruction_row at r w i) _ ∙ omega (arith, row_length at r w i, rows_length (at + 4 * length (dwords i)) (r + parts_rows (parts i)) (w + length (parts_words (parts i))) l)

-- the rows and words of parts, one after the other
pub rows_append : (p q : List Tree) → parts_rows (p ++ q) ≡ parts_rows p + parts_rows q
unfolding parts_rows
rows_append [] q = omega arith
rows_append (x ∷ p) q = omega (arith, rows_append p q)

pub words_append : (p q : List Tree) → parts_words (p ++ q) ≡ parts_words p ++ parts_words q
unfolding parts_words
words_append [] q = refl
words_append (x ∷ p) q = rw (words_append p q, append_assoc)

pub table_append : (r w : ℕ) (p q : List Tree) → parts_table r w (p ++ q) ≡ parts_table r w p ++ parts_table (r + parts_rows p) (w + length (parts_words p)) q
unfolding parts_table parts_rows parts_words
table_append r w [] q = ap₂ (λ (a b : ℕ). parts_table a b q) (omega arith) (omega arith)
table_append r w (x ∷ p) q =
    let e₁ : r + tree_rows x + parts_rows p ≡ r + (tree_rows x + parts_rows p) = omega arith in
    let e₂ : w + length (tree_words x) + length (parts_words p) ≡ w + length (tree_words x ++ parts_words p) = omega (arith, length-append (tree_words x) (parts_words p)) in
    rw (append_assoc, table_append (r + tree_rows x) (w + length (tree_words x)) p q, e₁, e₂)

-- each row has a dword of its own, and each word is one
pub tree_fits : (t : Tree) → tree_rows t + length (tree_words t) ≤ length (op.dwords t)
unfolding tree_rows tree_words op.dwords
tree_fits none = omega arith
tree_fits (plain x c) = omega (arith, length-append x (tree_words c), length-append x (op.dwords c), tree_fits c)
tree_fits (node t e m a b c) =
    omega (arith, four_lengths m (tree_words a) (tree_words b) (tree_words c), four_lengths (e ++ m) (op.dwords a) (op.dwords b) (op.dwords c), length-append e m, tree_fits a, tree_fits b, tree_fits c)

pub parts_fit : (ps : List Tree) → parts_rows ps + length (parts_words ps) ≤ length (op.parts_dwords ps)
unfolding parts_rows parts_words op.parts_dwords
parts_fit [] = omega arith
parts_fit (x ∷ l) = omega (arith, length-append (tree_words x) (parts_words l), length-append (op.dwords x) (op.parts_dwords l), tree_fits x, parts_fit l)

pub instruction_fits : (i : Instruction) → parts_rows (parts i) + length (parts_words (parts i)) ≤ length (dwords i)
unfolding parts dwords
instruction_fits (unread ds) = omega (arith, parts_fit (plain ds none ∷ []), unread_dwords)
  where
    unread_dwords : length (op.parts_dwords (plain ds none ∷ [])) ≡ length ds
    unread_dwords = unfold op.parts_dwords op.dwords in simp length-append (omega arith)
instruction_fits (pieces t e ps) = omega (arith, parts_fit ps, length-append e (op.parts_dwords ps))

pub all_fit : (l : List Instruction) → parts_rows (all_parts l) + length (parts_words (all_parts l)) ≤ length (all_dwords l)
unfolding all_parts all_dwords op.parts_dwords
all_fit [] = parts_fit []
all_fit (i ∷ l) =
    omega (arith, rows_append (parts i) (all_parts l), ap length (words_append (parts i) (all_parts l)), length-append (parts_words (parts i)) (parts_words (all_parts l)), length-append (dwords i) (all_dwords l), instruction_fits i, all_fit l)
