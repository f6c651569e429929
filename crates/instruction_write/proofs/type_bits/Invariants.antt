use Rattle.format.specs.Dwords.{dwords_of}
use Rattle.instruction_write.proofs.Types.{Summed}
use Rattle.instruction_write.proofs.type_bits.Given as goal

abbrev pub invariant-loop-at : goal.invariant-loop-at
invariant-loop-at l = Summed (dwords_of l.part) l.from l.to l.at l.bits
