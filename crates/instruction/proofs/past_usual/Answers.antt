-- A usual operand is as long as its dword says.
use native.Mathlib.Omega.{arith}
use Rattle.format.specs.Dwords.{dwords_of}
use Rattle.instruction.proofs.Usually.{long}
use Rattle.instruction.proofs.Quickly.{one_behind}
use Rattle.instruction.proofs.past_usual.Goals as goal

pub overflow_add-result : goal.overflow_add-result
overflow_add-result c = omega (arith, (long (dwords_of c.args.part.now) c.args.at (omega (arith, c.dwords.ensures, c.if-dwords-at.false)) _ c.dword.ensures _ c.in_ok-usual_length.ensures).few, c.requires)

pub returns : goal.returns
returns c = one_behind _ _ _ c.requires.1 c.if-operands-eq0.false (omega (arith, c.dwords.ensures, c.if-dwords-at.false)) _ (long (dwords_of c.args.part.now) c.args.at (omega (arith, c.dwords.ensures, c.if-dwords-at.false)) _ c.dword.ensures _ c.in_ok-usual_length.ensures)
