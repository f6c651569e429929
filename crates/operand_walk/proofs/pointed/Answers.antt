use Rattle.std.proofs.Common.{refl, arith}
use Rattle.operand_walk.proofs.Alone.{few_indices, points}
use Rattle.operand_walk.proofs.pointed.Goals as goal

pub returns-clause-pointed : goal.returns-clause-pointed
returns-clause-pointed c = λ l.
    let p = c.in_ok-n.ensures.places in
    points c.told-row c.in_ok-n.ensures.few p refl (c.leading.ensures c.if-not-leading.false) (c.bare.ensures c.if-not-bare.false (omega (arith, l, few_indices p)))
