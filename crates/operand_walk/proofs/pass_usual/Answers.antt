use Rattle.std.proofs.Common.{arith, refl, ℕ, ◌≡◌, ◌+◌}
use Rattle.operand_deep.proofs.Fields.{its_row}
use Rattle.operand_walk.proofs.Runs.{begin, stands_on}
use Rattle.operand_walk.proofs.pass_usual.Goals as goal

pub loop-i-init : goal.loop-i-init
loop-i-init c = begin _ _ _

pub usual-requires : goal.usual-requires
usual-requires c = omega (arith, c.loop-i.invariant.words_to)

pub loop-i-preserved : goal.loop-i-preserved
loop-i-preserved c =
    let r : ℕ = c.args.row + c.loop-i.i in
    let eq = its_row c.args.operands.now r c.as_chunks.ensures.front (omega arith) refl in
    let e : r ≡ c.args.row + (c.loop-i.i + 0) = omega arith in
    stands_on c.loop-i.invariant e eq c.in-Some.ensures.few c.in-Some.ensures.stands
