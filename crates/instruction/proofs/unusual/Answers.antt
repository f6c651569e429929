-- An operand that was read has a row, and no more rows and words than dwords.
use native.Mathlib.Omega.{arith}
use Rattle.format.specs.Dwords.{dwords_of}
use Rattle.operand.proofs.Seen.{operand_seen}
use Rattle.instruction.proofs.Usually.{some_row}
use Rattle.instruction.proofs.unusual.Goals as goal

pub overflow_sub-result : goal.overflow_sub-result
overflow_sub-result c = some_row (operand_seen 64 (dwords_of c.args.part.now) c.args.at (omega (arith, c.requires)) _ c.in_ok-it.ensures)

pub overflow_sub-result-2 : goal.overflow_sub-result-2
overflow_sub-result-2 c = omega (arith, operand_seen 64 (dwords_of c.args.part.now) c.args.at (omega (arith, c.requires)) _ c.in_ok-it.ensures)

pub overflow_sub-result-3 : goal.overflow_sub-result-3
overflow_sub-result-3 c = omega (arith, operand_seen 64 (dwords_of c.args.part.now) c.args.at (omega (arith, c.requires)) _ c.in_ok-it.ensures)
