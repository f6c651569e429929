use native.Mathlib.Omega.{arith}
use mathlib.Core.Path.{refl, ◌∙◌}
use borrow.Author.Tests.{eq-eqb, ne_eqb}
use Rattle.tokens.proofs.Low.{exact_by_parts}
use Rattle.tokens.proofs.exact_dword.Goals as goal

pub returns-then-low-allowed : goal.returns-then-low-allowed
returns-then-low-allowed c = rw (eq-eqb _ _ c.if-low-allowed.true) at (exact_by_parts c.args.t (omega (arith, c.ranges)) _ _ c.allowed.ensures c.reprs.ensures)

pub returns-else-low-allowed : goal.returns-else-low-allowed
returns-else-low-allowed c = let n = ne_eqb _ _ c.if-low-allowed.false in n ∙ rw n at (exact_by_parts c.args.t (omega (arith, c.ranges)) _ _ c.allowed.ensures refl)
