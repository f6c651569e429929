use Rattle.std.proofs.Common.{rules}
use Rattle.operand_walk.proofs.Alone.{signed_row}
use Rattle.operand_walk.proofs.signed.Goals as goal

pub returns-then-from-selections : goal.returns-then-from-selections
returns-then-from-selections c = search (rules, signed_row)
