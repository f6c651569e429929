-- The field of a token by shifts, and its bounded bits.
use Prim.Native.Nat.{ℕ, ◌+◌, ◌-◌, ◌*◌, ◌/◌, ◌%◌, ◌^◌, ◌≤◌}
use mathlib.Core.Path.{◌≡◌, refl, ◌∙◌}
use mathlib.Core.Bool.{Bool, true, false, ◌&&◌}
use native.Mathlib.Nat.{mod-lt, mod-one, one-mul, mul-one, zero-mul}
use native.Mathlib.Omega.{arith}
use lib.Dec.{eqb, leb}
use lib.Pow.{pow_pos, shl_exact}
use borrow.Author.Tests.{eqb-true, eqb-false, ne_eqb}
use Rattle.format.specs.Declarations.{field_in, in_bounds}
use Rattle.layouts.specs.declared.Shape.{Shape}
use Rattle.layouts.specs.Shapes.{Sound, field_of}

-- 1 << w
pub shifted : (w : ℕ) → w ≤ 13 → (1 * 2 ^ w) % 4294967296 ≡ 2 ^ w
shifted w h = shl_exact 1 w 32 (omega arith) (omega arith) ∙ one-mul (2 ^ w)

module _ (x : Shape) (t : ℕ) (h : Sound x) where
  exact : (t / 2 ^ x.first % 2 ^ x.width * 2 ^ (x.first - 11)) % 4294967296 ≡ t / 2 ^ x.first % 2 ^ x.width * 2 ^ (x.first - 11)
  exact = shl_exact x.width (x.first - 11) 32 (mod-lt _ (pow_pos x.width)) (omega (arith, h.bits_from, h.bits_to))

  pub value : t / 2 ^ x.first % 2 ^ x.width * 2 ^ (x.first - 11) ≡ field_in (field_of x) t
  unfolding field_in field_of
  value = go (eqb x.width 0) refl (eqb x.bounded 0) refl
    where
      go : (a : Bool) → eqb x.width 0 ≡ a → (b : Bool) → eqb x.bounded 0 ≡ b → t / 2 ^ x.first % 2 ^ x.width * 2 ^ (x.first - 11) ≡ field_in (field_of x) t
      go true p b q = rw (p, eqb-true x.width 0 p, mod-one (t / 2 ^ x.first)) (zero-mul (2 ^ (x.first - 11)))
      go false p true q =
          let n = eqb-false x.width 0 p in
          let k : x.first + x.width - 1 + 1 - x.first ≡ x.width = omega arith in
          rw (p, q, k)
      go false p false q =
          let n = eqb-false x.width 0 p in
          let m = eqb-false x.bounded 0 q in
          let f : x.first ≡ 11 = h.bounded_from (omega arith) in
          let k : x.first + x.width - 1 + 1 - 11 ≡ x.width = omega arith in
          rw (p, q, k, f) (mul-one (t / 2 ^ 11 % 2 ^ x.width))

  -- a token's field
  pub by_shifts : (t / 2 ^ x.first % ((1 * 2 ^ x.width) % 4294967296) * 2 ^ (x.first - 11)) % 4294967296 ≡ field_in (field_of x) t
  by_shifts = rw (shifted x.width (omega (arith, h.bits_from, h.bits_to))) (exact ∙ value)

  -- its bounded bits
  pub unbounded : x.bounded ≡ 0 → true ≡ in_bounds (field_of x) t
  unfolding in_bounds field_of
  unbounded e = go (eqb x.width 0) refl
    where
      go : (a : Bool) → eqb x.width 0 ≡ a → true ≡ in_bounds (field_of x) t
      go true p = rw p
      go false p = rw (p, e)

  pub bounds : (x.bounded ≡ 0 → ⊥) → (leb x.lo (t / 2048 % ((1 * 2 ^ x.bounded) % 4294967296)) && leb (t / 2048 % ((1 * 2 ^ x.bounded) % 4294967296)) x.hi) ≡ in_bounds (field_of x) t
  unfolding in_bounds field_of
  bounds n =
      let w : x.width ≡ 0 → ⊥ = λ e. n (omega (arith, h.bounded)) in
      let k : 10 + x.bounded + 1 - 11 ≡ x.bounded = omega arith in
      rw (shifted x.bounded (omega (arith, h.bits_from, h.bits_to, h.bounded)), ne_eqb x.width 0 w, ne_eqb x.bounded 0 n, k)
