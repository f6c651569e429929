use Rattle.operand_walk.specs.Walks.{Running}
use Rattle.operand_walk.proofs.Runs.{ran}
use Rattle.operand_walk.proofs.pass_usual.Given as goal

abbrev pub invariant-loop-i : goal.invariant-loop-i
invariant-loop-i l = Running l.operands l.row l.word l.i l.w (ran 0 0)
