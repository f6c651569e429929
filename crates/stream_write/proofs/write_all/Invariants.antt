use Prim.Native.Nat.{◌-◌}
use lib.ListN.{length}
use Rattle.format.specs.Dwords.{dwords_of}
use Rattle.stream_write.specs.Writing.{Midway}
use Rattle.stream_write.proofs.write_all.Given as goal

abbrev pub invariant-loop-s : goal.invariant-loop-s
invariant-loop-s l =
    Midway l.ceiling l.model51 (dwords_of l.chunk) l.initial.instructions l.initial.operands l.initial.words l.s l.instructions l.operands l.words

abbrev pub decreases-loop-s : goal.decreases-loop-s
decreases-loop-s l = length (dwords_of l.chunk) - l.s.at
