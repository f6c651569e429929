use Rattle.format.specs.Dwords.{dwords_of}
use Rattle.instruction_write.proofs.Types.{found, seeks_on, not_found}
use Rattle.instruction_write.proofs.of_type.Goals as goal
use native.Mathlib.Omega.{arith}

pub returns-then-e-k : goal.returns-then-e-k
returns-then-e-k c = let a = c.args in found (dwords_of a.part.now) a.from a.to a.k c.loop-at.at c.loop-at.invariant c.loop-at-test.true c.requires.1 _ c.dword-e.ensures c.if-e-k.true

pub loop-at-preserved : goal.loop-at-preserved
loop-at-preserved c = let a = c.args in seeks_on (dwords_of a.part.now) a.from a.to a.k c.loop-at.at c.loop-at.invariant c.loop-at-test.true c.requires.1 _ c.dword-e.ensures c.if-e-k.false

pub returns : goal.returns
returns c = let a = c.args in not_found (dwords_of a.part.now) a.from a.to a.k c.loop-at.at (omega arith) c.loop-at.invariant
