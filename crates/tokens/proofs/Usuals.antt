-- Laws of a dword that is exact and has neither extensions nor representations: one test of its bits.
use Prim.Native.Nat.{ℕ, zero, suc, ◌+◌, ◌*◌, ◌-◌, ◌/◌, ◌%◌, ◌^◌, ◌<◌, ◌≤◌}
use mathlib.Core.Path.{◌≡◌, refl, sym, ap, ◌∙◌}
use mathlib.Core.List.{map}
use mathlib.Core.Bool.{Bool, true, false, ◌&&◌, and-true}
use native.Mathlib.Omega.{arith}
use lib.ListN.{get_or}
use lib.Dec.{eqb, ltb}
use lib.Bits.{bit_and, and_block, and_mask, and_zero_r, and_le_l}
use borrow.Author.Tests.{eqb-true, eqb-false, eq-eqb, ne_eqb, ltb-true, ltb-false}
use Rattle.format.specs.Counts.{numbers}
use Rattle.format.specs.Dwords.{bits_from}
use Rattle.format.specs.Operands.{dimension, form, immediates, reprs, exact_dword}
use Rattle.format.proofs.Each.{below}
use Rattle.tokens.specs.declared.TheConstants.{STRAYS}
use Rattle.tokens.specs.Low.{allowed_bits}
use Rattle.tokens.specs.Usuals.{stray_bits}
use Rattle.tokens.proofs.Fields.{counted, form_small}
use Rattle.tokens.proofs.Low.{exact_by_parts}

-- the entry of a dword's lowest four bits
entries : map (λ k. get_or STRAYS k 0) (numbers 16 0) ≡ map stray_bits (numbers 16 0)
unfolding numbers
entries = refl

pub stray_entry : (t : ℕ) → get_or STRAYS (t % 16) 0 ≡ stray_bits (t % 16)
stray_entry t = below _ _ 16 entries (t % 16) (omega arith)

-- the part of a mask below bit 12
abbrev low : ℕ → ℕ
low u = stray_bits (u % 16) % 4096

lows : map {B = Bool × Bool} (λ u. (eqb (bit_and u (low u)) 0, eqb (stray_bits (u % 16)) (1023 * 2 ^ 22 + low u))) (numbers 4096 0) ≡ map (λ u. (eqb (bit_and u (allowed_bits (u % 16))) u, true)) (numbers 4096 0)
unfolding numbers
lows = refl

reprs_none : (t : ℕ) → t < 2 ^ 22 → reprs t ≡ 0
unfolding reprs
reprs_none t h = go (dimension t) (omega arith)
  where
    go : (d : ℕ) → d < 4 → bits_from 22 (3 * d) t ≡ 0
    go zero k = omega arith
    go (suc zero) k = omega arith
    go (suc (suc zero)) k = omega arith
    go (suc (suc (suc zero))) k = omega arith
    go (suc (suc (suc (suc d)))) k = absurd (omega arith)

-- what is left of a number by a power of 2 is left of what a higher one leaves
left : (t x r q v : ℕ) → t ≡ 4096 * x + r → r ≡ 4096 * q + v → v < 4096 → v ≡ t % 4096
left t x r q v e f h = omega arith

alone : (a x : ℕ) → a ≡ 0x100000 → eqb (a + x) 0x100000 ≡ eqb x 0
alone a x e = go (eqb x 0) refl
  where
    go : (b : Bool) → eqb x 0 ≡ b → eqb (a + x) 0x100000 ≡ b
    go true k = let z = eqb-true x 0 k in eq-eqb (a + x) 0x100000 (omega arith)
    go false k = let z = eqb-false x 0 k in ne_eqb (a + x) 0x100000 (λ q. omega arith)

left_four : (t q v a c : ℕ) → t ≡ 4096 * q + v → v < 4096 → v ≡ 16 * a + c → c < 16 → c ≡ t % 16
left_four t q v a c e h f k = omega arith

module _ (t : ℕ) (h : t < 2 ^ 32) where
  abbrev u : ℕ
  u = t % 4096

  lowest : u % 16 ≡ t % 16
  lowest = left_four t (t / 4096) u (u / 16) (u % 16) (omega arith) (omega arith) (omega arith) (omega arith)

  under : (x r : ℕ) → t ≡ 4096 * x + r → (m : ℕ) → m < 4096 → bit_and r m ≡ bit_and u m
  under x r p m l =
      let e : r ≡ r / 4096 * 2 ^ 12 + r % 4096 = omega arith in
      let f : m ≡ 0 * 2 ^ 12 + m = omega arith in
      let g : r % 4096 ≡ u = left t x r (r / 4096) (r % 4096) p (omega arith) (omega arith) in
      let z : bit_and (r / 4096) 0 ≡ 0 = and_zero_r (r / 4096) in
      (λ i. bit_and (e i) (f i)) ∙ and_block 12 (r / 4096) 0 (r % 4096) m (omega arith) l ∙ rw (z, g) (omega arith)

  -- a mask of all bits from bit 22 on, or bit 20, and some below bit 12
  masked : (m : ℕ) → m < 4096 → bit_and t (1023 * 2 ^ 22 + m) ≡ t / 2 ^ 22 * 2 ^ 22 + bit_and u m
  masked m l =
      let e : t ≡ t / 2 ^ 22 * 2 ^ 22 + t % 2 ^ 22 = omega arith in
      let k : bit_and (t / 2 ^ 22) (2 ^ 10 - 1) ≡ t / 2 ^ 22 = and_mask (t / 2 ^ 22) 10 ∙ omega arith in
      ap (λ x. bit_and x (1023 * 2 ^ 22 + m)) e ∙ and_block 22 (t / 2 ^ 22) 1023 (t % 2 ^ 22) m (omega arith) (omega arith) ∙ rw (k, under (t / 2 ^ 22 * 1024) (t % 2 ^ 22) (omega arith) m l)

  looked : (m : ℕ) → m ≡ stray_bits (t % 16) → m ≡ 1023 * 2 ^ 22 + low u
  looked m e = e ∙ ap stray_bits (sym lowest) ∙ eqb-true _ _ (ap (λ (p : Bool × Bool). p.1) (below _ _ 4096 lows u (omega arith)))

  masked_higher : (m : ℕ) → m < 4096 → bit_and t (4095 * 2 ^ 20 + m) ≡ t / 2 ^ 20 * 2 ^ 20 + bit_and u m
  masked_higher m l =
      let e : t ≡ t / 2 ^ 20 * 2 ^ 20 + t % 2 ^ 20 = omega arith in
      let k : bit_and (t / 2 ^ 20) (2 ^ 12 - 1) ≡ t / 2 ^ 20 = and_mask (t / 2 ^ 20) 12 ∙ omega arith in
      ap (λ x. bit_and x (4095 * 2 ^ 20 + m)) e ∙ and_block 20 (t / 2 ^ 20) 4095 (t % 2 ^ 20) m (omega arith) (omega arith) ∙ rw (k, under (t / 2 ^ 20 * 256) (t % 2 ^ 20) (omega arith) m l)

  looked_higher : (m : ℕ) → m ≡ stray_bits (t % 16) → m + 0x300000 ≡ 4095 * 2 ^ 20 + low u
  looked_higher m e = omega (arith, looked m e)

  exact_low : t < 2 ^ 22 → eqb (bit_and u (low u)) 0 ≡ exact_dword t
  exact_low l =
      let z : t / 4194304 % 512 ≡ 0 = omega arith in
      let p = exact_by_parts t h (allowed_bits (u % 16)) 0 refl (sym (reprs_none t l)) in
      ap (λ (p : Bool × Bool). p.0) (below _ _ 4096 lows u (omega arith)) ∙ sym (and-true _) ∙ ap (λ b. eqb (bit_and u (allowed_bits (u % 16))) u && b) (sym (eq-eqb _ _ z)) ∙ p

  pub usual_is : (m : ℕ) → m ≡ stray_bits (t % 16) → eqb (bit_and t m) 0 ≡ (ltb t 0x400000 && exact_dword t)
  usual_is m e = ap (λ x. eqb (bit_and t x) 0) (looked m e) ∙ ap (λ x. eqb x 0) (masked (low u) (omega arith)) ∙ go (ltb t 0x400000) refl
    where
      go : (b : Bool) → ltb t 0x400000 ≡ b → eqb (t / 2 ^ 22 * 2 ^ 22 + bit_and u (low u)) 0 ≡ (b && exact_dword t)
      go true k =
          let l = ltb-true t 0x400000 k in
          let z : t / 2 ^ 22 * 2 ^ 22 + bit_and u (low u) ≡ bit_and u (low u) = omega arith in
          rw z (exact_low l)
      go false k = let l = ltb-false t 0x400000 k in ne_eqb (t / 2 ^ 22 * 2 ^ 22 + bit_and u (low u)) 0 (λ z. omega arith)

  -- with one index
  pub short_is : (m : ℕ) → m ≡ stray_bits (t % 16) → eqb (bit_and t (m + 0x300000)) 0x100000 ≡ (eqb (t / 0x100000) 1 && exact_dword t)
  short_is m e = ap (λ x. eqb (bit_and t x) 0x100000) (looked_higher m e) ∙ ap (λ x. eqb x 0x100000) (masked_higher (low u) (omega arith)) ∙ go (eqb (t / 0x100000) 1) refl
    where
      go : (b : Bool) → eqb (t / 0x100000) 1 ≡ b → eqb (t / 2 ^ 20 * 2 ^ 20 + bit_and u (low u)) 0x100000 ≡ (b && exact_dword t)
      go true k =
          let l = eqb-true (t / 0x100000) 1 k in
          alone (t / 2 ^ 20 * 2 ^ 20) (bit_and u (low u)) (omega arith) ∙ exact_low (omega arith)
      go false k =
          let l = eqb-false (t / 0x100000) 1 k in
          let s : bit_and u (low u) < 4096 = omega (arith, and_le_l u (low u)) in
          ne_eqb (t / 2 ^ 20 * 2 ^ 20 + bit_and u (low u)) 0x100000 (λ z. omega arith)

pub immediates_few : (t : ℕ) → immediates t ≤ 4
unfolding immediates
immediates_few t = go (form t) (form_small t)
  where
    go : (f : ℕ) → f < 5 → counted f ≤ 4
    go zero h = omega arith
    go (suc zero) h = omega arith
    go (suc (suc zero)) h = omega arith
    go (suc (suc (suc zero))) h = omega arith
    go (suc (suc (suc (suc zero)))) h = omega arith
    go (suc (suc (suc (suc (suc f))))) h = absurd (omega arith)
