use mathlib.Core.Path.{◌≡◌, refl}
use mathlib.Core.Bool.{true, false}
use denote.Enum.Bare.{sameb}
use Rattle.layouts.specs.Shapes.{kind_number, meant}
use Rattle.layouts.specs.contracts.Kind.{the_type}
use Rattle.layouts.specs.declared.Kind.{Kind}
use Rattle.layouts.specs.declared.Kind.TheVariants.{Counted, Opaque, Phase, Declaration, CustomData}
use Rattle.instruction.proofs.Verdicts.{uncounted, count_0, count_above}
use Rattle.instruction.proofs.fault_of.Goals as goal
use Rattle.instruction.proofs.fault_of.Goals.{else-eq-via-then-eq+else-item_count-gt1, else-eq-via-else-eq}

-- the test says whether the kind's number is 1
is_1 : (k : Kind) → true ≡ sameb the_type k Counted → kind_number k ≡ 1
is_1 Counted e = refl
is_1 Opaque e = cc
is_1 Phase e = cc
is_1 Declaration e = cc
is_1 CustomData e = cc

not_1 : (k : Kind) → false ≡ sameb the_type k Counted → kind_number k ≡ 1 → ⊥
not_1 Counted e z = cc
not_1 Opaque e z = cc
not_1 Phase e z = cc
not_1 Declaration e z = cc
not_1 CustomData e z = cc

pub returns-then-item_count-gt1 : goal.returns-then-item_count-gt1
returns-then-item_count-gt1 c = count_above (meant c.args.s) (is_1 _ c.if-eq.ensures) _ c.item_count.ensures c.if-item_count-gt1.true

pub returns-else-eq : goal.returns-else-eq
returns-else-eq c =
    elim c.else-eq.branch [
      | else-eq-via-then-eq+else-item_count-gt1 w ↦ count_0 (meant c.args.s) (is_1 _ w.if-eq.ensures) _ w.item_count.ensures w.if-item_count-gt1.false
      | else-eq-via-else-eq w ↦ uncounted (meant c.args.s) (not_1 _ w.if-eq.ensures)
    ]
