use native.Mathlib.Omega.{arith}
use Rattle.instruction_emit.proofs.Heads.{some_if, first_is, first_room, second_room, third_room, chained_up}
use Rattle.instruction_emit.proofs.chain.Goals as goal

pub put_some-at-requires : goal.put_some-at-requires
put_some-at-requires c =
    let a = c.args in
    let r = c.requires.3 in
    let e₁ = first_is a.row.now a.at a.output.now r c.from.ensures c.then_some.ensures in
    first_room a.row.now a.at a.output.now r e₁

pub put_some-at-requires-2 : goal.put_some-at-requires-2
put_some-at-requires-2 c =
    let a = c.args in
    let r = c.requires.3 in
    let e₁ = first_is a.row.now a.at a.output.now r c.from.ensures c.then_some.ensures in
    let e₂ = some_if _ _ (omega arith) c.then_some-2.ensures in
    second_room a.row.now a.at a.output.now r e₁ c.put_some-at.ensures c.put_some-at.auto.output e₂

pub put_some-requires : goal.put_some-requires
put_some-requires c =
    let a = c.args in
    let r = c.requires.3 in
    let e₁ = first_is a.row.now a.at a.output.now r c.from.ensures c.then_some.ensures in
    let e₂ = some_if _ _ (omega arith) c.then_some-2.ensures in
    let e₃ = some_if _ _ (omega (arith, c.requires.0)) c.then_some-3.ensures in
    third_room a.row.now a.at a.output.now r e₁ c.put_some-at.ensures c.put_some-at.auto.output e₂ c.put_some-at-2.ensures c.put_some-at-2.auto.output e₃

pub returns : goal.returns
returns c =
    let a = c.args in
    let r = c.requires.3 in
    let e₁ = first_is a.row.now a.at a.output.now r c.from.ensures c.then_some.ensures in
    let e₂ = some_if _ _ (omega arith) c.then_some-2.ensures in
    let e₃ = some_if _ _ (omega (arith, c.requires.0)) c.then_some-3.ensures in
    chained_up a.row.now a.at a.output.now r e₁ c.put_some-at.ensures c.put_some-at.auto.output e₂ c.put_some-at-2.ensures c.put_some-at-2.auto.output e₃ c.put_some.ensures
