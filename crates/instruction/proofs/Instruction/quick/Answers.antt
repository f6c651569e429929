-- A declaration is fine if its items end with it.
use mathlib.Core.Path.{refl, sym, ◌∙◌}
use Rattle.instruction.proofs.Quickly.{quickly}
use Rattle.instruction.proofs.Instruction.quick.Goals as goal

pub returns : goal.returns
returns c = quickly c.args.self.token c.args.s c.requires (sym c.bare.ensures ∙ c.if-not-bare.false) c.args.self.model51 _ c.args.self.some c.args.self.first c.if-s-ne0.false _ c.in_ok-end.ensures _ c.small_at.ensures c.if-not-small_at.false _ c.extra.ensures _ refl
