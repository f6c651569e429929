-- A counted code has the layout of its count.
use Rattle.layouts.proofs.Others.{counts}
use Rattle.layouts.proofs.counted_layout.Goals as goal

pub returns : goal.returns
returns c = rw (c.plain.ensures, c.counted_width.ensures) (counts c.args.code c.args.n c.requires)
