use native.Mathlib.Omega.{arith}
use Rattle.format.proofs.Dwords.{length_dwords}
use Rattle.stream.proofs.Walks.{begin}
use Rattle.stream.proofs.measure.Goals as goal

pub loop-s-init : goal.loop-s-init
loop-s-init c = begin _ _ _ (omega (arith, length_dwords c.args.chunk.now, c.requires.0))

pub invariant_of-it : goal.invariant_of-it
invariant_of-it c = record { small = omega (arith, length_dwords c.args.chunk.now, c.requires.2) }

pub invariant_of-it-2 : goal.invariant_of-it-2
invariant_of-it-2 c = record { small = omega (arith, length_dwords c.args.chunk.now, c.requires.2) }
