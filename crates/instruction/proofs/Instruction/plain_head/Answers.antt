use mathlib.Core.Path.{sym, ◌∙◌}
use native.Mathlib.Omega.{arith}
use Rattle.instruction.proofs.Heads.{plain_begins}
use Rattle.instruction.proofs.Instruction.plain_head.Goals as goal

pub returns-then-plain : goal.returns-then-plain
returns-then-plain c = plain_begins _ _ (sym c.plain.ensures ∙ c.if-plain.true) (omega (arith, c.well_formed, c.ranges))
