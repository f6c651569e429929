use Rattle.std.proofs.Common.{◌≡◌}
use lib.Seq.{slice}
use Rattle.format.specs.Counts.{of_type}
use Rattle.format.specs.Dwords.{dwords_of}
use Rattle.instruction_write.proofs.of_type.Given as goal

abbrev pub invariant-loop-at : goal.invariant-loop-at
invariant-loop-at l = of_type l.k (slice l.from l.to (dwords_of l.part)) ≡ of_type l.k (slice l.at l.to (dwords_of l.part))
