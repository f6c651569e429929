use Prim.Native.Nat.{◌-◌}
use lib.ListN.{length}
use Rattle.format.specs.Dwords.{dwords_of}
use Rattle.stream.specs.Stream.{Walking}
use Rattle.stream.proofs.measure.Given as goal

abbrev pub invariant-loop-s : goal.invariant-loop-s
invariant-loop-s l = Walking l.ceiling l.model51 (dwords_of l.chunk) l.s

abbrev pub decreases-loop-s : goal.decreases-loop-s
decreases-loop-s l = length (dwords_of l.chunk) - l.s.at
