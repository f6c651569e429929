use Rattle.format.specs.Dwords.{dwords_of}
use Rattle.tokens.proofs.Chains.{Going}
use Rattle.tokens.proofs.chain.Given as goal

abbrev pub invariant-loop-at : goal.invariant-loop-at
invariant-loop-at l = Going (dwords_of l.part) l.from l.at l.first
