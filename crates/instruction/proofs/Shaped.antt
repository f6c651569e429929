-- The items of a shape: its operands, and those before and behind them.
use Prim.Native.Nat.{ℕ, ◌+◌, ◌-◌}
use mathlib.Core.Path.{◌≡◌, sym, ap, ◌∙◌}
use mathlib.Core.List.{List, ◌++◌}
use mathlib.Core.Bool.{Bool, true, false, and-true}
use lib.ListN.{length, drop, replicate}
use native.Mathlib.Omega.{arith}
use Rattle.layouts.specs.Shapes.{items_of}
use Rattle.layouts.specs.declared.Shape.{Shape}
use Rattle.format.specs.Declarations.{o, d}
use Rattle.std.specs.Prelude.{Some, None}
use Rattle.instruction.specs.declared.Operands.{Operands}
use Rattle.instruction_fields.specs.Fields.{Sum, add, sum_of, Passes, to, out, Ends, rest}
use Rattle.instruction.specs.Measure.{Ran, Run, body_of}

-- ---- the whole of the items
module _ (m : Bool) (x : Shape) (ds : List ℕ) (at : ℕ) where
  pub before_off : Passes (replicate x.before d) ds at None → None ≡ body_of (sum_of m (items_of x) (drop at ds))
  unfolding items_of rest
  before_off (out f) = sym (ap body_of (f m (replicate x.operands o ++ rest x)))

  module _ {a : ℕ} (p : Passes (replicate x.before d) ds at (Some a)) where
    behind : sum_of m (items_of x) (drop at ds) ≡ add 0 (a - at) true (sum_of m (replicate x.operands o ++ rest x) (drop a ds))
    unfolding items_of rest
    behind = go p
      where
        go : Passes (replicate x.before d) ds at (Some a) → sum_of m (items_of x) (drop at ds) ≡ add 0 (a - at) true (sum_of m (replicate x.operands o ++ rest x) (drop a ds))
        go (to h k f) = f m (replicate x.operands o ++ rest x)

    pub operands_off : Run x.operands ds a None → None ≡ body_of (sum_of m (items_of x) (drop at ds))
    operands_off f = sym (ap body_of (behind ∙ ap (add 0 (a - at) true) (f m (rest x))))

    module _ {q : Operands} (r : Ran x.operands ds a q) where
      after_operands : sum_of m (items_of x) (drop at ds) ≡ add 0 (a - at) true (add q.rows q.words q.exact (sum_of m (rest x) (drop q.end ds)))
      after_operands = behind ∙ ap (add 0 (a - at) true) (r.adds m (rest x))

      pub rest_off : Ends m (rest x) ds q.end false → None ≡ body_of (sum_of m (items_of x) (drop at ds))
      rest_off e = sym (ap body_of (after_operands ∙ ap (λ (y : Sum). add 0 (a - at) true (add q.rows q.words q.exact y)) e))

      pub body_read : Ends m (rest x) ds q.end true → (n : ℕ) → n ≡ length ds → Some (record { rows = q.rows; words = a - at + q.words + (n - q.end); exact = q.exact }) ≡ body_of (sum_of m (items_of x) (drop at ds))
      body_read e n en =
          let r₁ : 0 + (q.rows + 0) ≡ q.rows = omega arith in
          let w₁ : a - at + (q.words + (length ds - q.end)) ≡ a - at + q.words + (n - q.end) = omega arith in
          sym (ap body_of (after_operands ∙ ap (λ (y : Sum). add 0 (a - at) true (add q.rows q.words q.exact y)) e) ∙ (λ i. Some (record { rows = r₁ i; words = w₁ i; exact = and-true q.exact i })))
