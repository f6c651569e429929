-- The bounded bits begin at bit 11.
use mathlib.Core.Path.{◌∙◌}
use borrow.Author.Tests.{le-leb, lt-leb}
use Rattle.layouts.proofs.Fields.{bounds}
use Rattle.layouts.proofs.in_bounds.Goals as goal

pub returns-then-s-x : goal.returns-then-s-x
returns-then-s-x c = rw (le-leb _ _ c.if-s-x.true) at (bounds c.args.s c.args.t c.requires c.if-s-eq0.false)

pub returns-else-s-x : goal.returns-else-s-x
returns-else-s-x c = let e = lt-leb _ _ c.if-s-x.false in e ∙ rw e at (bounds c.args.s c.args.t c.requires c.if-s-eq0.false)
