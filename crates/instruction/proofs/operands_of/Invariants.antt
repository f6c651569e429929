use Rattle.format.specs.Dwords.{dwords_of}
use Rattle.instruction.proofs.Usually.{Passing}
use Rattle.instruction.proofs.operands_of.Given as goal

abbrev pub invariant-loop-i : goal.invariant-loop-i
invariant-loop-i l = Passing l.count (dwords_of l.part) l.from l._i l.end l.more l.skipped l.exact
