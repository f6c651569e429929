-- No more cases are right than were run.
use Rattle.std.proofs.Common.{◌≤◌}
use Rattle.case_run.proofs.count_right.Given as goal

abbrev pub invariant-loop-i : goal.invariant-loop-i
invariant-loop-i l = l.right ≤ l.i
