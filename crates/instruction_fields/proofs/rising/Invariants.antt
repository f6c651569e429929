use Rattle.format.specs.Dwords.{dwords_of}
use Rattle.instruction_fields.proofs.Chained.{Rose}
use Rattle.instruction_fields.proofs.rising.Given as goal

abbrev pub invariant-loop-at : goal.invariant-loop-at
invariant-loop-at l = Rose (dwords_of l.part) l.from l.to l.at l.last
