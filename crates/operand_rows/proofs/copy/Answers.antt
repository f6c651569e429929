use Rattle.std.proofs.Common.{take}
use native.Mathlib.Omega.{arith}
use lib.Seq.{length-take-le}
use Rattle.format.specs.Dwords.{dwords_of}
use Rattle.format.proofs.Dwords.{length_dwords}
use Rattle.operand_rows.proofs.Copies.{copied_more}
use Rattle.operand_rows.proofs.copy.Goals as goal

pub overflow_add-at : goal.overflow_add-at
overflow_add-at c = let a = c.args in omega (arith, length_dwords a.part.now, length-take-le a.n a.words.now (omega (arith, c.requires)))

pub loop-i-preserved : goal.loop-i-preserved
loop-i-preserved c = let a = c.args in
    let few = length-take-le a.n a.words.now (omega (arith, c.requires)) in
    rw (c.dword.ensures, c.loop-i.invariant) (copied_more (dwords_of a.part.now) (take a.n a.words.now) a.at c.loop-i.i (omega (arith, c.requires, few)) (omega (arith, few)))
