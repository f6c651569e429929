-- Instructions whose code has an operand count: their parts, and what measuring answers.
use Prim.Native.Nat.{ℕ, zero, suc, ◌+◌, ◌-◌, ◌<◌}
use mathlib.Core.Path.{◌≡◌, refl, sym, ap, ◌∙◌}
use mathlib.Core.List.{List, [], ◌∷◌}
use mathlib.Core.Bool.{Bool, true, false, and-true}
use mathlib.Core.Option.{some}
use native.Mathlib.Omega.{arith}
use lib.ListN.{length, get_or, drop, length-append, length-replicate}
use Rattle.format.specs.Framing.{code}
use Rattle.format.specs.Counts.{operand_count}
use Rattle.format.specs.Declarations.{tail, Layout, layout}
use Rattle.format.specs.Instructions.{fault}
use Rattle.format.proofs.Dwords.{impossible}
use Rattle.std.specs.Prelude.{Some, None, Err}
use Rattle.instruction.specs.declared.Operands.{Operands}
use Rattle.instruction_fields.specs.Fields.{off, sum, add, sum_of}
use Rattle.instruction.specs.Measure.{fine, body_of, Ran, Run, verdict, Judged, Begins}
use Rattle.instruction.specs.declared.Fault.TheVariants.{Miscounted, Inexact}
use Rattle.instruction_fields.proofs.Rests.{tail_ends}
use Rattle.instruction.proofs.Verdicts.{parts_off, parts_inexact, all_fine, count_above}
use Rattle.instruction_fields.proofs.Counted.{laid, items}
use Rattle.instruction_fields.proofs.Heads.{Headed, headed_at}

module _ (t n : ℕ) (h : operand_count (code t) ≡ some n) where
  -- its parts: operands and a tail
  pub lost_parts : (m : Bool) (ds : List ℕ) (at : ℕ) → Run n ds at None → None ≡ body_of (sum_of m (layout (code t)).items (drop at ds))
  lost_parts m ds at f = sym (ap body_of (ap (λ (x : List _). sum_of m x (drop at ds)) (items (code t) n h) ∙ f m (tail ∷ [])))

  pub kept_parts : (m : Bool) (ds : List ℕ) (at : ℕ) {p : Operands} → Ran n ds at p → (k : ℕ) → k ≡ length ds →
      Some (record { rows = p.rows; words = p.words + (k - p.end); exact = p.exact }) ≡ body_of (sum_of m (layout (code t)).items (drop at ds))
  kept_parts m ds at {p} r k ek =
      let s₁ : p.rows + 0 ≡ p.rows = omega arith in
      let s₂ : p.words + (length ds - p.end) ≡ p.words + (k - p.end) = omega arith in
      sym (ap body_of (ap (λ (x : List _). sum_of m x (drop at ds)) (items (code t) n h) ∙ r.adds m (tail ∷ []) ∙ ap (add p.rows p.words p.exact) (tail_ends m ds p.end r.within)) ∙ (λ i. Some (record { rows = s₁ i; words = s₂ i; exact = and-true p.exact i })))

-- ---- the code's way through a counted instruction, from the place where its operands begin
module _ (ds : List ℕ) (t n : ℕ) (some-there : 0 < length ds) (et : t ≡ get_or ds 0 0) (h : operand_count (code t) ≡ some n) {at : ℕ} (x : Begins t ds at) where
  abbrev y : Layout
  y = layout (code t)

  pub front : Headed y t ds at
  front = headed_at y t ds some-there x.ends refl

  -- with no operand nothing is lost
  some_lost : (k : ℕ) → Run k ds at None → 0 < k
  some_lost (suc k) f = omega arith
  some_lost zero f =
      let z : sum 0 (length ds - at) true ≡ off = sym (tail_ends true ds at front.within) ∙ f true (tail ∷ []) in
      impossible (cc)

  miscounted : 0 < n → Err Miscounted ≡ verdict (fault y)
  miscounted l =
      let k : n + 1 ≡ length y.items = sym (ap length (items (code t) n h) ∙ simp (length-append, length-replicate) (omega arith)) in
      count_above y (ap (λ (x : Layout). x.kind) (laid (code t) n h)) (n + 1) k (omega arith)

  pub operands_lost : Run n ds at None → Judged t ds (Err Miscounted)
  operands_lost f m = parts_off y m ds t some-there et front (miscounted (some_lost n f)) (lost_parts t n h m ds at f)

  module _ {p : Operands} (r : Ran n ds at p) where
    pub operands_inexact : p.exact ≡ false → Judged t ds (Err Inexact)
    operands_inexact z m = parts_inexact y m ds t some-there et front (kept_parts t n h m ds at r (length ds) refl) z

    pub operands_fine : p.exact ≡ true → (j : ℕ) → j ≡ length ds → Judged t ds (fine p.rows (p.words + (j - p.end)))
    operands_fine z j ej m = all_fine y m ds t some-there et front (kept_parts t n h m ds at r j ej) z true x.exact refl
