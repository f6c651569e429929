use Rattle.std.proofs.Common.{◌≡◌, ◌++◌, take, drop}
use Rattle.operand_rows.proofs.put_row.Given as goal

abbrev pub invariant-loop-i : goal.invariant-loop-i
invariant-loop-i l = l.pool ≡ take l.i l.x-items ++ drop l.i l.initial.pool
