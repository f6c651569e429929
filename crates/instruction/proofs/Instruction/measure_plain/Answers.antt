-- Operands and tail, in the order of the definition.
use borrow.Author.Tests.{not-true, not-false}
use Rattle.format.specs.Dwords.{dwords_of}
use Rattle.instruction.proofs.Counted.{front, operands_lost, operands_inexact, operands_fine}
use Rattle.instruction.proofs.Instruction.measure_plain.Goals as goal

pub operands_of-requires : goal.operands_of-requires
operands_of-requires c = let ds = dwords_of c.args.self.part.now in (front ds c.args.self.token c.args.n c.args.self.some c.args.self.first c.requires.0 c.requires.1).within

pub returns-in_default : goal.returns-in_default
returns-in_default c = let ds = dwords_of c.args.self.part.now in operands_lost ds c.args.self.token c.args.n c.args.self.some c.args.self.first c.requires.0 c.requires.1 c.in_default.ensures

pub returns-then-not-operands : goal.returns-then-not-operands
returns-then-not-operands c = let ds = dwords_of c.args.self.part.now in operands_inexact ds c.args.self.token c.args.n c.args.self.some c.args.self.first c.requires.0 c.requires.1 c.in-Some.ensures (not-true _ c.if-not-operands.true)

pub returns : goal.returns
returns c = let ds = dwords_of c.args.self.part.now in operands_fine ds c.args.self.token c.args.n c.args.self.some c.args.self.first c.requires.0 c.requires.1 c.in-Some.ensures (not-false _ c.if-not-operands.false) _ c.dwords.ensures
