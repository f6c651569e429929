-- The chunk whose reading some rows and words are: its instructions, confirmed one after the other.
use Rattle.std.specs.Prelude.{ℕ, zero, suc, ◌+◌, ◌*◌, List, [], ◌∷◌, Bool, true, false, cond, not, ◌&&◌, length, drop, take, eqb, leb}
use Rattle.std.proofs.Math.Option.{Option, none as nothing, some as just}
use Rattle.format.specs.Framing.{ceiling}
use Rattle.format.specs.declared.Refusal.{Refusal}
use Rattle.format.specs.Instructions.{Instruction, dwords}
use Rattle.format.specs.Rows.{parts_rows, parts}
use Rattle.format.specs.Refusals.{header_tests, first_of, is_model51, SHEX, Rows}
use Rattle.format.specs.Encoder.{at, past_pool, held}
use Rattle.operand_deep.specs.Confirm.{◌>>=◌}
use Rattle.instruction_deep.specs.Confirm.{confirm_instruction}

module _ (ceiling : ℕ) (model51 : Bool) where
  -- n instructions, the first of which stands at a place, from their rows, operand rows and words, all of them; the last ends in the first
  -- 1,048,576 bytes
  unfoldable pub confirm_all : ℕ → ℕ → List ℕ → List ℕ → List ℕ → ℕ → ℕ → Option (List Instruction)
  confirm_all zero place is rs ws r w = cond (eqb (length rs) 0 && eqb (length ws) 0) (just []) nothing
  confirm_all (suc n) place is rs ws r w =
      let q = take 16 is in
      let k = at 15 q in
      cond (leb k (length ws)) (do
        i ← confirm_instruction ceiling model51 q place rs (take k ws) r w
        cond (leb (place + 4 * length (dwords i)) 1_048_576) (do
          l ← confirm_all n (place + 4 * length (dwords i)) (drop 16 is) (drop (16 * parts_rows (parts i)) rs) (drop k ws) (r + parts_rows (parts i)) (w + k)
          just (i ∷ l)) nothing) nothing

-- no test of the header holds; it is asked of a chunk without instructions, since the length of others is right
abbrev pub untold : Option Refusal → Bool
untold nothing = true
untold (just r) = false

-- the instructions of the chunk that gives these rows at an edition, if there is one
unfoldable pub confirm_chunk : ℕ → Rows → Option (List Instruction)
confirm_chunk edition q =
    let p = held q in
    cond (not (past_pool q) && untold (first_of (header_tests edition SHEX 8 q.version 2)))
    (confirm_all (ceiling edition) (is_model51 q.version) q.instructions 8 p.instructions p.operands p.words 0 0) nothing
