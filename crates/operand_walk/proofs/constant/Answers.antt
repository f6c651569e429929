use Rattle.std.proofs.Common.{rules}
use Rattle.operand_walk.proofs.Alone.{constant_row}
use Rattle.operand_walk.proofs.constant.Goals as goal

pub returns-then-row-eq4 : goal.returns-then-row-eq4
returns-then-row-eq4 c = search (rules, constant_row)
