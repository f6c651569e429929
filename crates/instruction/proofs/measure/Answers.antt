-- Unread; counted, with a head that is told at once or not; or uncounted.
use mathlib.Core.Path.{◌∙◌}
use Rattle.instruction.proofs.Verdicts.{verdict_known, verdict_unread_at}
use Rattle.instruction.proofs.measure.Goals as goal

pub returns-then-ceiling-code : goal.returns-then-ceiling-code
returns-then-ceiling-code c = verdict_unread_at _ _ _ _ c.dword-token.ensures _ c.dwords.ensures c.if-ceiling-code.true

pub returns-in_default : goal.returns-in_default
returns-in_default c = c.measure_uncounted.ensures ∙ verdict_known _ _ _ _ c.dword-token.ensures c.if-ceiling-code.false

pub returns-in-Some-plain_head : goal.returns-in-Some-plain_head
returns-in-Some-plain_head c = c.measure_plain.ensures c.args.model51 ∙ verdict_known _ _ _ _ c.dword-token.ensures c.if-ceiling-code.false

pub returns : goal.returns
returns c = c.measure_shaped.ensures ∙ verdict_known _ _ _ _ c.dword-token.ensures c.if-ceiling-code.false
