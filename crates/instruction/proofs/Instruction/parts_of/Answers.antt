use mathlib.Core.Path.{◌∙◌}
use Rattle.instruction.proofs.Shaped.{before_off, operands_off, rest_off, body_read}
use Rattle.instruction.proofs.Instruction.parts_of.Goals as goal

pub returns-in_err-from : goal.returns-in_err-from
returns-in_err-from c = c.from_residual.ensures ∙ before_off _ _ _ _ c.in_err-from.ensures.passes

pub returns-in_err-operands : goal.returns-in_err-operands
returns-in_err-operands c = c.from_residual-in_err-operands.ensures ∙ operands_off _ _ _ _ c.in_ok-from.ensures.passes c.in_err-operands.ensures

pub returns-then-not-ends : goal.returns-then-not-ends
returns-then-not-ends c = rest_off _ _ _ _ c.in_ok-from.ensures.passes c.in_ok-operands.ensures (rw c.if-not-ends.true at c.ends.ensures)

pub returns : goal.returns
returns c = body_read _ _ _ _ c.in_ok-from.ensures.passes c.in_ok-operands.ensures (rw c.if-not-ends.false at c.ends.ensures) _ c.dwords.ensures
