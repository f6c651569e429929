use Rattle.std.proofs.Common.{◌≡◌, ◌+◌}
use Rattle.operand_walk.specs.Walks.{Running}
use Rattle.operand_walk.proofs.mixed.Given as goal

abbrev pub invariant-loop : goal.invariant-loop
invariant-loop l = (l.r ≡ l.row + (l.counter + l.ran.rows)) × Running l.operands l.row l.word l.counter l.w l.ran
