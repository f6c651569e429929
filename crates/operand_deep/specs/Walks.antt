-- What walking over rows and words answers.
use Rattle.std.specs.Prelude.{ℕ, ◌+◌, ◌*◌, cond, ◌&&◌, List, [], ◌∷◌, length, take, drop, ltb, slice_get, Some, None}
use Rattle.std.proofs.Math.Option.{Option as Maybe, none as nothing, some as just}
use Rattle.std.specs.declared.option.Option.{Option}
use Rattle.format.specs.Operands.{Tree, type_of, form, selection, dimension, reprs, repr, dwords, exact_dword, exact_extension}
use Rattle.format.specs.Rows.{placed, word_place, child_row, tree_rows, tree_words}
use Rattle.operand_deep.specs.Confirm.{Confirmer}
use Rattle.operand_deep.specs.declared.Place.{Place}
use Rattle.operand_deep.specs.declared.Walked.{Walked}
use Rattle.operand_deep.specs.declared.Step.{Step}
use Rattle.operand_deep.specs.declared.Guess.{Guess}

-- an operand of so many rows, words and dwords
abbrev pub sized : ℕ → ℕ → ℕ → Option Walked
sized rows words dwords = Some (record { rows = rows; words = words; dwords = dwords })

-- the sizes of the operand
abbrev pub walked : Maybe Tree → Option Walked
walked nothing = None
walked (just x) = sized (tree_rows x) (length (tree_words x)) (length (dwords x))

-- row r and word w
abbrev pub place : ℕ → ℕ → Place
place r w = record { row = r; word = w }

-- an index of so many dwords, with row r and word w behind it
abbrev pub step_to : ℕ → ℕ → ℕ → Option Step
step_to r w dwords = Some (record { end = place r w; dwords = dwords })

-- the place behind an index that stands at p, and its dwords
abbrev pub reached : Place → Maybe Tree → Option Step
reached p nothing = None
reached p (just x) = step_to (p.row + tree_rows x) (p.word + length (tree_words x)) (length (dwords x))

-- what stands at row r and word w of two pools
abbrev pub there : Confirmer → Confirmer
there p rs ws r w = p (drop (16 * r) rs) (drop w ws) r w

-- row r of a pool
abbrev pub row_at : ℕ → List ℕ → List ℕ
row_at r rs = take 16 (drop (16 * r) rs)

-- a dword and extensions that are exact
unfoldable pub guessed : ℕ → List ℕ → Option Guess
guessed t e = cond (exact_dword t && exact_extension e) (Some (record { token = t; extension = slice_get e 0 })) None

-- the row of an operand's dword t with the modifiers x and m immediates at i; its indices stand at three places; the rows of its tree, and
-- its dwords
unfoldable pub front_for : ℕ → ℕ → ℕ → ℕ → List ℕ
front_for t x i m = type_of t ∷ form t ∷ selection t ∷ x ∷ placed (ltb 0 m) i ∷ m ∷ dimension t ∷ reprs t ∷ []

unfoldable pub back_for : ℕ → Place → Place → Place → ℕ → ℕ → List ℕ
back_for t a b c rows ds =
    word_place (repr 0 t) a.word ∷ word_place (repr 1 t) b.word ∷ word_place (repr 2 t) c.word ∷
    child_row (repr 0 t) a.row ∷ child_row (repr 1 t) b.row ∷ child_row (repr 2 t) c.row ∷ rows ∷ ds ∷ []
