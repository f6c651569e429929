-- Operands one after the other are items.
use Prim.Native.Nat.{ℕ, ◌+◌, ◌≤◌}
use mathlib.Core.Path.{◌≡◌, refl}
use mathlib.Core.List.{List, []}
use mathlib.Core.Bool.{Bool}
use native.Mathlib.Omega.{arith}
use lib.ListN.{length, replicate}
use Rattle.format.specs.Declarations.{o}
use Rattle.operand_walk.specs.Walks.{Run, empty, next}
use Rattle.instruction_deep.specs.Walks.{some_parts, Takes}
use Rattle.instruction_deep.proofs.Items.{bounds, takes_none, takes_then}
use Rattle.instruction_deep.proofs.Runs.{one_more, operand_takes}

pub run_takes : {rs ws : List ℕ} {r w k p v n : ℕ} → Run 64 rs ws r w k p v n → w ≤ length ws → (m : Bool) → Takes m (replicate k o) k rs ws r w (some_parts (r + p) v n)
run_takes {r = r} empty h m = let z : r + 0 ≡ r = omega arith in rw z (takes_none [] refl h)
run_takes {rs} {ws} {r} {w} (next {k} {p} {v} {n} {b} {a} t e) h m =
    let s = run_takes t h m in
    let z : r + p + b ≡ r + (p + b) = omega arith in
    rw (← (one_more k), ← z) (takes_then s (operand_takes m rs ws (r + p) v (bounds s).words_to e))
