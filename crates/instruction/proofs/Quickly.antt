-- Declarations of a bare token, without a list and with a usual operand at most: their numbers of dwords say that they are fine.
use Prim.Native.Nat.{ℕ, ◌+◌, ◌-◌, ◌<◌, ◌≤◌}
use mathlib.Core.Path.{◌≡◌, refl, ap, ◌∙◌, subst}
use mathlib.Core.List.{List}
use mathlib.Core.Bool.{Bool, true, cond}
use native.Mathlib.Omega.{arith}
use lib.ListN.{length, get_or, drop}
use lib.Seq.{slice}
use borrow.Author.Tests.{eq-eqb}
use Rattle.format.specs.Framing.{code}
use Rattle.format.specs.Declarations.{Layout, layout}
use Rattle.format.specs.Instructions.{split, judged}
use Rattle.layouts.specs.Shapes.{meant, items_of}
use Rattle.layouts.specs.declared.Shape.{Shape}
use Rattle.std.specs.Prelude.{Some}
use Rattle.instruction_fields.specs.Fields.{Ends, rest, sum_of, bare_token, IsSmall, Declared}
use Rattle.instruction.specs.Measure.{Ran, fine, body_of, verdict, Behind, Quick}
use Rattle.instruction_fields.proofs.Passing.{passes_dwords, no_list}
use Rattle.instruction.proofs.Runs.{one_ran}
use Rattle.instruction_fields.proofs.Rests.{ends_there}
use Rattle.instruction.proofs.Shaped.{body_read}
use Rattle.instruction.proofs.Usually.{Long}
use Rattle.instruction.proofs.Verdicts.{all_fine}
use Rattle.instruction_fields.proofs.BareTokens.{all_exact, begins}

-- ---- what stands behind a bare token
module _ (t : ℕ) (x : Shape) (l : Declared (code t) x) (bare : bare_token x t ≡ true) (m : Bool) (ds : List ℕ) (h : 0 < length ds) (et : t ≡ get_or ds 0 0) (unlisted : x.list ≡ 0) (end : ℕ) (behind : Behind x.operands ds (1 + x.before) end) (b : Bool)
    (small : IsSmall x.small ds end b) (yes : b ≡ true) (k : ℕ) (ek : k ≡ cond m x.extra 0) (w : ℕ) (ew : w ≡ x.small + x.after + k) where
  module _ (en : end + w ≡ length ds) where
    inside : end ≤ length ds
    inside = omega arith

    ran : Ran x.operands ds (1 + x.before) (record { rows = x.operands; words = end - (1 + x.before) - x.operands; end = end; exact = true })
    ran = behind.run inside

    rest_ends : Ends m (rest x) ds end true
    rest_ends =
        let a = x.after + cond m x.extra 0 in
        let u : end + x.small ≤ length ds = omega arith in
        let v : end + x.small + a ≡ length ds = omega arith in
        rw (eq-eqb _ _ v) at (ends_there m x ds end (small yes inside) (end + x.small) refl a refl (passes_dwords ds (end + x.small) u a (omega arith)) (end + x.small + a) refl (no_list ds (end + x.small + a) (omega arith) (length ds) refl x.list unlisted) (end + x.small + a) refl l.ends (length ds) refl)

    body : Some (record { rows = x.operands; words = 1 + x.before - 1 + (end - (1 + x.before) - x.operands) + (length ds - end); exact = true }) ≡ body_of (sum_of m (items_of x) (drop 1 ds))
    body = body_read m x ds 1 (passes_dwords ds 1 h x.before (omega (arith, ran))) ran rest_ends (length ds) refl

    words : end + w - 1 - x.operands ≡ 1 + x.before - 1 + (end - (1 + x.before) - x.operands) + (length ds - end)
    words = omega (arith, ran)

    is_fine : fine x.operands (end + w - 1 - x.operands) ≡ verdict (judged (layout (code t)) (split m (layout (code t)) ds))
    is_fine =
        subst (λ (y : Layout). fine x.operands (end + w - 1 - x.operands) ≡ verdict (judged y (split m y ds))) l.laid.meaning
        (ap (fine x.operands) words ∙ all_fine (meant x) m ds t h et (begins t x l bare ds h) body refl true (all_exact t x l bare (slice 1 1 ds) (length ds - 1)) refl)

    room : 1 + x.operands ≤ end + w
    room = omega (arith, ran)

  pub quickly : Quick m t x ds (end + w)
  quickly = record { fits = room; fine = is_fine }

-- ---- the operand
module _ (k : ℕ) (ds : List ℕ) (at : ℕ) where
  pub one_behind : k ≤ 1 → (k ≡ 0 → ⊥) → at < length ds → (n : ℕ) → Long ds at n → Behind k ds at (at + n)
  one_behind a b l n y = record {
    few = omega (arith, y.few);
    run = λ e.
        let z : k ≡ 1 = omega (arith, b) in
        let w : at + n - at - 1 ≡ n - 1 = omega arith in
        rw (z, w) (one_ran (omega arith) (omega arith) (omega arith) (y.fits e));
  }
