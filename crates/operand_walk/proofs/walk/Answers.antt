use Rattle.std.proofs.Common.{arith, refl}
use Rattle.operand_walk.proofs.Runs.{one_walks}
use Rattle.operand_walk.proofs.walk.Goals as goal

pub overflow_sub-result : goal.overflow_sub-result
overflow_sub-result c = let a = c.args in omega (arith, one_walks a.left a.operands.now a.words.now a.row a.word c.if-left-ge2.true c.in-Some.ensures refl)

pub overflow_sub-result-in-Some : goal.overflow_sub-result-in-Some
overflow_sub-result-in-Some c = let a = c.args in omega (arith, one_walks a.left a.operands.now a.words.now a.row a.word c.if-left-ge2.true c.in-Some.ensures refl)

pub returns-in-Some : goal.returns-in-Some
returns-in-Some c = let a = c.args in (one_walks a.left a.operands.now a.words.now a.row a.word c.if-left-ge2.true c.in-Some.ensures refl).1
