use native.Mathlib.Omega.{arith}
use Rattle.format.proofs.Dwords.{length_dwords}
use Rattle.stream.proofs.Walks.{part_some, part_verdict}
use Rattle.stream.proofs.Chunk.measure_part.Goals as goal

pub slice_bounds-measure-end : goal.slice_bounds-measure-end
slice_bounds-measure-end c = omega (arith, length_dwords c.args.self.now.bytes.now)

pub measure-requires : goal.measure-requires
measure-requires c = part_some _ _ _ c.requires.0 c.requires.1

pub returns : goal.returns
returns c = part_verdict _ _ _ _ _ c.requires.0 c.requires.1 c.measure.ensures
