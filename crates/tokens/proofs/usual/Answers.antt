-- One test of the bits.
use native.Mathlib.Omega.{arith}
use Rattle.tokens.proofs.Usuals.{usual_is}
use Rattle.tokens.proofs.usual.Goals as goal

pub returns : goal.returns
returns c = usual_is c.args.t (omega (arith, c.ranges)) _ c.stray.ensures
