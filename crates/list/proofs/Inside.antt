-- The rows of a chunk that was accepted are inside the instruction pool.
use Prim.Native.Nat.{ℕ, ◌*◌, ◌≤◌}
use mathlib.Core.Path.{◌≡◌, sym, ◌∙◌}
use mathlib.Core.List.{List}
use lib.ListN.{length, drop, length-append}
use native.Mathlib.Omega.{arith}
use Rattle.std.specs.Prelude.{Result, Ok}
use Rattle.format.specs.declared.Accepted.{Accepted}
use Rattle.format.specs.declared.Refusal.{Refusal}
use Rattle.format.specs.Instructions.{Instruction}
use Rattle.format.specs.Refusals.{Outcome, accepted, after, pools_after, Pools}
use Rattle.format.specs.Rows.{instruction_rows}
use Rattle.format.proofs.Encoder.{answer_read}
use Rattle.format.proofs.Rows.{rows_length}
use Rattle.decode.specs.Decode.{Decoded, lent}

held : {o : Outcome} {v : ℕ} {l : List Instruction} → o ≡ accepted v l → (p : Pools) → 16 * length l ≤ length (pools_after o p).instructions
unfolding pools_after after
held {l = l} e p =
    let rows = instruction_rows 8 0 0 l in
    rw e (omega (arith, length-append rows (drop (length rows) p.instructions), rows_length 8 0 0 l))

pub rows_inside : {e four : ℕ} {chunk is os ws : List ℕ} {a : Result Accepted Refusal} {is' os' ws' : List ℕ} → Decoded e four chunk is os ws a is' os' ws' → {told : Accepted} → a ≡ Ok told → 16 * told.instructions ≤ length is'
rows_inside {is = is} {os = os} {ws = ws} d x =
    let r = answer_read _ (sym d.answered ∙ x) in
    rw d.instructions (omega (arith, held r.is (lent is os ws), r.instructions))
