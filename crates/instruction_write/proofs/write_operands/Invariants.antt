use Rattle.format.specs.Dwords.{dwords_of}
use Rattle.instruction_write.proofs.Looping.{Doing}
use Rattle.instruction_write.proofs.write_operands.Given as goal

abbrev pub invariant-loop : goal.invariant-loop
invariant-loop l = Doing (dwords_of l.part) l.from l.count l.row l.word l.initial.operands l.initial.words l.operands l.words l.counter l.done
