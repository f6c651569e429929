use Rattle.instruction_deep.proofs.Runs.{Walking}
use Rattle.instruction_deep.proofs.operands_of.Given as goal

abbrev pub invariant-loop : goal.invariant-loop
invariant-loop l = Walking l.count l.pools.operands.now l.pools.words.now l.pools.row l.pools.word l.counter l.past
