use Rattle.std.proofs.Common.{rules}
use Rattle.operand_walk.proofs.Alone.{several_row}
use Rattle.operand_walk.proofs.several.Goals as goal

pub returns-then-pair-selections : goal.returns-then-pair-selections
returns-then-pair-selections c = search (rules, several_row)
