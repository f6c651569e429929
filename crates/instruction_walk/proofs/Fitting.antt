-- A number that fits the field bits of a shape is the field of each token that has it from bit 11 on.
use Prim.Native.Nat.{ℕ, ◌+◌, ◌-◌, ◌*◌, ◌/◌, ◌%◌, ◌^◌, ◌<◌, ◌≤◌}
use mathlib.Core.Path.{◌≡◌, sym, ap, ◌∙◌}
use mathlib.Core.Bool.{true, ◌&&◌}
use native.Mathlib.Nat.{mul-one, lt_of_lt_of_le, mod-eq_of_lt}
use native.Mathlib.Decide.{ℕ_discrete}
use native.Mathlib.Omega.{arith}
use lib.Dec.{ltb, leb}
use lib.Pow.{pow_mono, mod-mod-pow, shr-shr}
use borrow.Author.Tests.{ltb-true, le-leb}
use Rattle.format.specs.Dwords.{bits}
use Rattle.format.specs.Declarations.{field_in, in_bounds}
use Rattle.layouts.specs.Shapes.{Sound, field_of}
use Rattle.layouts.specs.Table.{shape_of}
use Rattle.layouts.specs.declared.Shape.{Shape}
use Rattle.layouts.proofs.Fields as fields
use Rattle.instruction_walk.specs.Short.{Stepped, Fitting}

-- the lowest k of n bits
low_bits : (y n k g : ℕ) → k ≤ n → y % 2 ^ n ≡ g → y % 2 ^ k ≡ g % 2 ^ k
low_bits y n k g h e =
    let z : n - k + k ≡ n = omega arith in
    sym (mod-mod-pow y (n - k) k) ∙ ap (λ (j : ℕ). y % 2 ^ j % 2 ^ k) z ∙ ap (λ (j : ℕ). j % 2 ^ k) e

pub stepped : (d : ℕ) (x : Shape) → x ≡ shape_of d → Stepped x
stepped d x e n = let z : x.first ≡ 11 + d / 0x100 % 2 * 5 = ap (λ (y : Shape). y.first) e in omega (arith, n)

module _ (x : Shape) (h : Sound x) (f : ℕ) where
  width_most : x.width ≤ 13
  width_most = omega (arith, h.bits_from, h.bits_to)

  -- bits that begin at bit 16
  module _ (n : x.first ≡ 11 → ⊥) (s : Stepped x) (z : f % 32 ≡ 0) (l : ltb (f / 32) ((1 * 2 ^ x.width) % 4294967296) ≡ true) where
    begins : x.first ≡ 16
    begins = s n

    narrow_16 : x.width ≤ 8
    narrow_16 = omega (arith, begins, h.bits_to)

    under : f / 32 < 2 ^ x.width
    under = rw (fields.shifted x.width width_most) at (ltb-true (f / 32) _ l)

    unbounded_16 : x.bounded ≡ 0
    unbounded_16 = go (ℕ_discrete x.bounded 0)
      where
        go : Dec (x.bounded ≡ 0) → x.bounded ≡ 0
        go (yes e) = e
        go (no k) = absurd (n (h.bounded_from (omega (arith, k))))

    held_16 : (t : ℕ) → bits 11 23 t ≡ f → field_in (field_of x) t ≡ f
    held_16 t e =
        let a : t / 2 ^ 16 ≡ t / 2 ^ 11 / 2 ^ 5 = sym (shr-shr t 11 5) in
        let b : t / 2 ^ 11 / 2 ^ 5 % 2 ^ 8 ≡ f / 32 = omega arith in
        let c : t / 2 ^ 16 % 2 ^ x.width ≡ f / 32 = ap (λ (y : ℕ). y % 2 ^ x.width) a ∙ low_bits _ 8 x.width _ narrow_16 b ∙ mod-eq_of_lt under in
        let d : f / 32 * 2 ^ 5 ≡ f = omega arith in
        sym (fields.value x t h) ∙ rw (begins, c) d

    pub far_fits : Fitting x f
    far_fits = record {
      narrow = let k = lt_of_lt_of_le under (pow_mono narrow_16) in omega arith;
      field_is = held_16;
      bounds = λ t e. sym (fields.unbounded x t h unbounded_16);
    }

  -- bits that begin at bit 11
  module _ (begins : x.first ≡ 11) (l : f < (1 * 2 ^ x.width) % 4294967296) where
    below : f < 2 ^ x.width
    below = rw (fields.shifted x.width width_most) at l

    held_11 : (t : ℕ) → bits 11 23 t ≡ f → field_in (field_of x) t ≡ f
    held_11 t e =
        let a : t / 2 ^ 11 % 2 ^ x.width ≡ f = low_bits (t / 2 ^ 11) 13 x.width f width_most e ∙ mod-eq_of_lt below in
        sym (fields.value x t h) ∙ rw (begins, a) (mul-one f)

    near : ((t : ℕ) → bits 11 23 t ≡ f → in_bounds (field_of x) t ≡ true) → Fitting x f
    near k = record { narrow = lt_of_lt_of_le below (pow_mono width_most); field_is = held_11; bounds = k }

    pub near_fits : x.bounded ≡ 0 → Fitting x f
    near_fits z = near (λ t e. sym (fields.unbounded x t h z))

    pub bounded_fits : (x.bounded ≡ 0 → ⊥) → x.lo ≤ f % ((1 * 2 ^ x.bounded) % 4294967296) → leb (f % ((1 * 2 ^ x.bounded) % 4294967296)) x.hi ≡ true → Fitting x f
    bounded_fits n a b = near (λ t e.
        let k : (leb x.lo (f % ((1 * 2 ^ x.bounded) % 4294967296)) && leb (f % ((1 * 2 ^ x.bounded) % 4294967296)) x.hi) ≡ true = rw (le-leb _ _ a) b in
        let m : x.bounded ≤ 13 = omega (arith, h.bounded, width_most) in
        let z : t / 2048 % ((1 * 2 ^ x.bounded) % 4294967296) ≡ f % ((1 * 2 ^ x.bounded) % 4294967296) = rw (fields.shifted x.bounded m) (low_bits (t / 2048) 13 x.bounded f m e) in
        sym (fields.bounds x t h n) ∙ rw z k)
