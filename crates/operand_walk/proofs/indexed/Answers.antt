use Rattle.operand_walk.proofs.Alone.{indexed_type}
use Rattle.operand_walk.proofs.indexed.Goals as goal

pub returns : goal.returns
returns c = indexed_type c.ranges.t.fits
