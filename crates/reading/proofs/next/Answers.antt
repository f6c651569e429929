use native.Mathlib.Omega.{arith}
use mathlib.Core.Path.{refl}
use Rattle.reading.proofs.Walks.{found}
use Rattle.reading.proofs.next.Goals as goal

pub overflow_add-result : goal.overflow_add-result
overflow_add-result c = omega (arith, c.requires.0, (found c.args.rules.ceiling c.args.rules.model51 c.args.instruction.now c.args.operands.now c.args.words.now c.args.s c.if-words-end.false c.in_ok-walked.ensures refl).size_is, c.told-instruction)

pub overflow_add-result-2 : goal.overflow_add-result-2
overflow_add-result-2 c = omega (arith, c.well_formed, (found c.args.rules.ceiling c.args.rules.model51 c.args.instruction.now c.args.operands.now c.args.words.now c.args.s c.if-words-end.false c.in_ok-walked.ensures refl).rows_fit c.requires.1)

pub returns : goal.returns
returns c = (found c.args.rules.ceiling c.args.rules.model51 c.args.instruction.now c.args.operands.now c.args.words.now c.args.s c.if-words-end.false c.in_ok-walked.ensures refl).is
