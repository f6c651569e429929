use Rattle.instruction_walk.proofs.Fitting.{near_fits}
use Rattle.instruction_walk.proofs.field_fits.Goals as goal

pub returns-then-s-eq0 : goal.returns-then-s-eq0
returns-then-s-eq0 c = λ e. near_fits c.args.s c.requires.0 c.args.f c.if-s-ne11.false c.if-s-f.false c.if-s-eq0.true
