-- The instruction whose row stands in front: its token and what stands after it are guessed from the row, its parts are confirmed.
use Rattle.std.specs.Prelude.{ℕ, ◌+◌, ◌%◌, ◌^◌, List, [], ◌∷◌, Bool, true, cond, not, ◌&&◌, length, drop, take, eqb, ltb, leb}
use Rattle.std.proofs.Math.Option.{Option, none as nothing, some as just}
use Rattle.format.specs.Dwords.{follows}
use Rattle.format.specs.Framing.{sized, length_of}
use Rattle.format.specs.Declarations.{Item, o, d, small, s, tail, list, Layout, layout, chained}
use Rattle.format.specs.Operands.{Tree, none, plain, parts_dwords}
use Rattle.format.specs.Instructions.{Instruction, unread, pieces, dwords}
use Rattle.format.specs.Rows.{unread_row, instruction_row}
use Rattle.format.specs.Encoder.{at, token_of_row, head_of_row, same}
use Rattle.instruction_fields.specs.Fields.{headed}
use Rattle.operand_deep.specs.Confirm.{Confirms, Confirmer, ◌>>=◌, behind, confirm}

-- n words, where a test of them holds
abbrev pub confirm_words : ℕ → Bool → Confirmer
confirm_words n b rs ws r w = cond (leb n (length ws) && b) (just (plain (take n ws) none)) nothing

module _ (model51 : Bool) where
  -- an item, from operand rows and the words that are left of its instruction's
  unfoldable pub confirm_item : Item → Confirmer
  confirm_item o = confirm 64
  confirm_item d = confirm_words 1 true
  confirm_item small = λ rs ws. confirm_words 1 (ltb (at 0 ws) 65_536) rs ws
  confirm_item s = confirm_words (cond model51 1 0) true
  confirm_item tail = λ rs ws. confirm_words (length ws) true rs ws
  confirm_item (list b) = λ rs ws. confirm_words (1 + at 0 ws % 2 ^ b) true rs ws

  unfoldable pub confirm_items : List Item → Confirms (List Tree)
  confirm_items [] rs ws r w = just []
  confirm_items (i ∷ l) rs ws r w = do
    x ← confirm_item i rs ws r w
    ps ← behind x (confirm_items l) rs ws r w
    just (x ∷ ps)

-- dwords of which each but the last says that another follows
unfoldable pub linked : Bool → List ℕ → Bool
linked b [] = not b
linked b (e ∷ l) = b && linked (follows e) l

-- after the token t stands what the reader takes there
unfoldable pub head_taken : Layout → ℕ → List ℕ → Bool
head_taken x t e = cond (sized t) (eqb (length e) 1) (linked (chained x && follows t) e)

-- the token, what stands after it and the length are exact, and the reader writes this very row
unfoldable pub confirm_pieces : List ℕ → ℕ → ℕ → ℕ → ℕ → List ℕ → List Tree → Option Instruction
confirm_pieces q place r w t e ps =
    let x = layout (at 2 q) in
    let i = pieces t e ps in
    cond (headed x t e (length (parts_dwords ps)) && head_taken x t e && eqb (length_of t e) (length (dwords i)) && same q (instruction_row place r w i)) (just i) nothing

unfoldable pub confirm_known : Bool → List ℕ → ℕ → Confirms Instruction
confirm_known model51 q place rs ws r w = do
  ps ← confirm_items model51 (layout (at 2 q)).items rs ws r w
  confirm_pieces q place r w (token_of_row q) (head_of_row q) ps

-- the words of an unread instruction are its dwords
unfoldable pub confirm_unread : List ℕ → ℕ → Confirms Instruction
confirm_unread q place rs ws r w =
    cond (ltb 0 (length ws) && eqb (length_of (at 0 ws) (drop 1 ws)) (length ws) && same q (unread_row place r w ws)) (just (unread ws)) nothing

-- the instruction of the row q, whose token stands at a place, from operand rows and its own words, under a ceiling
unfoldable pub confirm_instruction : ℕ → Bool → List ℕ → ℕ → Confirms Instruction
confirm_instruction ceiling model51 q place =
    cond (ltb (at 2 q) ceiling) (confirm_known model51 q place) (confirm_unread q place)
