-- One test of the bits.
use native.Mathlib.Omega.{arith}
use Rattle.tokens.proofs.Usuals.{short_is}
use Rattle.tokens.proofs.short.Goals as goal

pub returns : goal.returns
returns c = short_is c.args.t (omega (arith, c.ranges)) _ c.stray.ensures
