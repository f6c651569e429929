use mathlib.Core.Path.{refl}
use borrow.Author.Tests.{not-true, not-false}
use Rattle.format.specs.Dwords.{dwords_of}
use Rattle.layouts.specs.Shapes.{meant}
use Rattle.instruction.proofs.Verdicts.{head_lost, parts_off, parts_inexact, head_inexact, all_fine}
use Rattle.instruction_fields.proofs.Heads.{head_off, headed_at}
use Rattle.instruction.proofs.Instruction.measure_shaped.Goals as goal
use Rattle.instruction.proofs.Instruction.measure_shaped.Goals.{then-not-body-via-then-not-body, then-not-body-via-else-not-body+then-not-exact_head}

pub returns-in_default : goal.returns-in_default
returns-in_default c = let a = c.args in let ds = dwords_of a.self.part.now in rw (← c.requires.meaning) (head_lost (meant a.s) a.self.model51 ds a.self.token c.args.self.some c.args.self.first c.fault_of.ensures (head_off (meant a.s) a.self.token ds c.in_default.ensures refl))

pub parts_of-requires : goal.parts_of-requires
parts_of-requires c = let a = c.args in ((headed_at (meant a.s) a.self.token (dwords_of a.self.part.now) c.args.self.some c.in-Some.ensures refl).within, c.requires.sound)

pub returns-in_default-parts_of : goal.returns-in_default-parts_of
returns-in_default-parts_of c = let a = c.args in let ds = dwords_of a.self.part.now in rw (← c.requires.meaning) (parts_off (meant a.s) a.self.model51 ds a.self.token c.args.self.some c.args.self.first (headed_at (meant a.s) a.self.token ds c.args.self.some c.in-Some.ensures refl) c.fault_of-in_default-parts_of.ensures c.in_default-parts_of.ensures)

pub exact_head-requires : goal.exact_head-requires
exact_head-requires c = let a = c.args in let h = headed_at (meant a.s) a.self.token (dwords_of a.self.part.now) c.args.self.some c.in-Some.ensures refl in (c.requires.sound, h.begun, h.within)

pub returns-then-not-body : goal.returns-then-not-body
returns-then-not-body c =
    let a = c.args in
    let ds = dwords_of a.self.part.now in
    let h = headed_at (meant a.s) a.self.token ds c.args.self.some c.in-Some.ensures refl in
    elim c.then-not-body.branch [
      | then-not-body-via-then-not-body w ↦ rw (← c.requires.meaning) (parts_inexact (meant a.s) a.self.model51 ds a.self.token c.args.self.some c.args.self.first h c.in-Some-parts_of.ensures (not-true _ w.if-not-body.true))
      | then-not-body-via-else-not-body+then-not-exact_head w ↦ rw (← c.requires.meaning) (head_inexact (meant a.s) a.self.model51 ds a.self.token c.args.self.some c.args.self.first h c.in-Some-parts_of.ensures _ w.exact_head.ensures w.if-not-exact_head.true)
    ]

pub returns : goal.returns
returns c =
    let a = c.args in
    let ds = dwords_of a.self.part.now in
    let h = headed_at (meant a.s) a.self.token ds c.args.self.some c.in-Some.ensures refl in
    rw (← c.requires.meaning) (all_fine (meant a.s) a.self.model51 ds a.self.token c.args.self.some c.args.self.first h c.in-Some-parts_of.ensures (not-false _ c.if-not-body.false) _ c.exact_head.ensures c.if-not-exact_head.false)
