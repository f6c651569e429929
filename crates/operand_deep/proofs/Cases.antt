-- Computed: rows and words of operands, and the same with something changed.
use Prim.Native.Nat.{ℕ}
use mathlib.Core.Path.{◌≡◌, refl}
use mathlib.Core.List.{List, [], ◌∷◌, ◌++◌}
use mathlib.Core.Option.{none as nothing, some as just}
use Rattle.format.specs.Operands as op
use Rattle.format.specs.Operands.{Tree, none, plain, node}
use Rattle.format.specs.Rows.{tree_words, tree_rows, operand_row}
use Rattle.format.specs.Encoder.{extension_of, operand_dword, same}
use Rattle.operand_deep.specs.Confirm.{confirm_index, confirmed, confirm_immediates, confirm_indices, confirm_front, confirm}

-- a register of one component, whose number is in the word at a place
abbrev register : ℕ → List ℕ
register w = 0 ∷ 1 ∷ 0 ∷ 0 ∷ 0 ∷ 0 ∷ 1 ∷ 0 ∷ w ∷ 0 ∷ 0 ∷ 0 ∷ 0 ∷ 0 ∷ 1 ∷ 2 ∷ []

-- one whose number is in the operand at a row
abbrev relative : ℕ → List ℕ
relative r = 0 ∷ 1 ∷ 0 ∷ 0 ∷ 0 ∷ 0 ∷ 1 ∷ 2 ∷ 0 ∷ 0 ∷ 0 ∷ r ∷ 0 ∷ 0 ∷ 2 ∷ 3 ∷ []

-- one whose numbers are in the word at a place and in the operand at a row, in all so many dwords
abbrev pointing : ℕ → ℕ → ℕ → List ℕ
pointing w r n = 0 ∷ 1 ∷ 0 ∷ 0 ∷ 0 ∷ 0 ∷ 2 ∷ 16 ∷ w ∷ 0 ∷ 0 ∷ 0 ∷ r ∷ 0 ∷ 2 ∷ n ∷ []

-- one of two numbers
abbrev element : ℕ → ℕ → List ℕ
element v w = 0 ∷ 1 ∷ 0 ∷ 0 ∷ 0 ∷ 0 ∷ 2 ∷ 0 ∷ v ∷ w ∷ 0 ∷ 0 ∷ 0 ∷ 0 ∷ 1 ∷ 3 ∷ []

abbrev register5 : Tree
register5 = node 0x10_0001 [] [] (plain (5 ∷ []) none) (plain [] none) (plain [] none)

-- as the reader writes them; another word place; no word; no row; a child that is its own parent; a depth too few; a child with a word more than
-- the row counts
cases :
    (confirm 1 (register 3) (5 ∷ []) 7 3 ≡ just register5) ×
    (confirm 1 (register 4) (5 ∷ []) 7 3 ≡ nothing) ×
    (confirm 1 (register 3) [] 7 3 ≡ nothing) ×
    (confirm 1 [] (5 ∷ []) 7 3 ≡ nothing) ×
    (confirm 2 (relative 8 ++ register 3) (5 ∷ []) 7 3 ≡ just (node 0x90_0001 [] [] (plain [] register5) (plain [] none) (plain [] none))) ×
    (confirm 2 (relative 7 ++ register 3) (5 ∷ []) 7 3 ≡ nothing) ×
    (confirm 1 (relative 8 ++ register 3) (5 ∷ []) 7 3 ≡ nothing) ×
    (confirm 2 (pointing 3 8 4 ++ register 4) (6 ∷ 5 ∷ []) 7 3 ≡ just (node 0x420_0001 [] [] (plain (6 ∷ []) none) (plain [] register5) (plain [] none))) ×
    (confirm 2 (pointing 3 8 4 ++ element 4 5) (6 ∷ 5 ∷ 5 ∷ []) 7 3 ≡ nothing)
unfolding confirm confirm_front confirm_indices confirm_immediates confirm_index confirmed same operand_dword extension_of operand_row tree_rows tree_words op.dwords op.exact_dword op.exact_extension op.modifiers op.immediate op.form op.selection op.reprs op.repr op.own op.nests op.known
cases = (refl, refl, refl, refl, refl, refl, refl, refl, refl)
