-- The low twelve bits of an operand's dword, form and selection: computed once over all of their values.
use Prim.Native.Nat.{ℕ, zero, suc, ◌+◌, ◌*◌, ◌/◌, ◌%◌, ◌^◌, ◌<◌}
use mathlib.Core.Path.{◌≡◌, refl, sym, ap, ◌∙◌}
use mathlib.Core.List.{map}
use mathlib.Core.Bool.{Bool, true, false, ◌&&◌}
use native.Mathlib.Nat.{mod-add-div}
use native.Mathlib.Omega.{arith}
use lib.ListN.{get_or}
use lib.Pow.{field}
use lib.Dec.{eqb, ltb}
use lib.Bits.{bit_and}
use borrow.Author.Tests.{eqb-true, eqb-false, eq-eqb, ne_eqb, ltb-true}
use Rattle.format.specs.Dwords.{bits, bits_from}
use Rattle.format.specs.Counts.{numbers}
use Rattle.format.specs.Operands.{form, selection, type_of, dimension, reprs, exact_dword}
use Rattle.format.proofs.Dwords.{bits_above, both}
use Rattle.format.proofs.Each.{below}
use Rattle.tokens.specs.declared.TheConstants.{FORMS}
use Rattle.tokens.specs.Low.{allowed_bits}
use Rattle.tokens.proofs.Fields.{chosen, low, reprs_small}

-- the form, by the lowest four bits
forms : map {B = ℕ} (λ k. get_or FORMS k 0) (numbers 16 0) ≡ map form (numbers 16 0)
unfolding numbers form
forms = refl

form_low : (t n : ℕ) → t % 2 ^ 2 ≡ n % 2 ^ 2 → bits 2 3 t ≡ bits 2 3 n → form t ≡ form n
unfolding form
form_low t n a b = rw (a, b)

pub form_entry : (t : ℕ) → get_or FORMS (t % 16) 0 ≡ form t
form_entry t =
    let a : t % 16 / 2 ^ 2 ≡ t / 2 ^ 2 % 2 ^ 2 = field t 2 2 in
    below _ _ 16 forms (t % 16) (omega arith) ∙ form_low (t % 16) t (omega arith) (omega (arith, a))

-- ---- all twelve
abbrev made : ℕ → ℕ
made u = low (form u) + selection u * 16

lows : map {B = Bool × Bool} (λ u. (eqb (bit_and u (allowed_bits (u % 16))) u, ltb (made u) 4096)) (numbers 4096 0) ≡ map (λ u. (eqb u (made u), true)) (numbers 4096 0)
unfolding numbers form selection
lows = refl

module _ (t : ℕ) where
  abbrev u : ℕ
  u = t % 4096

  part : t % 4096 / 2 ^ 4 ≡ t / 2 ^ 4 % 2 ^ 8
  part = field t 8 4

  form_part : form u ≡ form t
  form_part =
      let a : t % 4096 / 2 ^ 2 ≡ t / 2 ^ 2 % 2 ^ 10 = field t 10 2 in
      form_low u t (omega arith) (omega (arith, a))

  selection_part : selection u ≡ selection t
  unfolding selection
  selection_part = rw form_part (go (form t))
    where
      go : (f : ℕ) → bits_from 4 (chosen f) u ≡ bits_from 4 (chosen f) t
      go zero = omega (arith, part)
      go (suc zero) = omega (arith, part)
      go (suc (suc zero)) = omega (arith, part)
      go (suc (suc (suc zero))) = omega (arith, part)
      go (suc (suc (suc (suc zero)))) = omega (arith, part)
      go (suc (suc (suc (suc (suc f))))) = omega (arith, part)

  made_part : made u ≡ made t
  made_part = λ i. low (form_part i) + selection_part i * 16

  computed : eqb (bit_and u (allowed_bits (u % 16))) u ≡ eqb u (made t)
  computed = ap (λ (p : Bool × Bool). p.0) (below _ _ 4096 lows u (omega arith)) ∙ ap (eqb u) made_part

  small : made t < 4096
  small = rw made_part at (ltb-true (made u) 4096 (ap (λ (p : Bool × Bool). p.1) (below _ _ 4096 lows u (omega arith))))

  -- the dword is the sum of its fields where its low bits and its representations are
  whole : t < 2 ^ 32 → (m k d r q b : ℕ) → t ≡ u + k * 4096 + d * 1048576 + q * 4194304 + b * 2147483648 → m < 4096 → r < 512 → q < 512 → (eqb u m && eqb q r) ≡ eqb t (m + k * 4096 + d * 1048576 + r * 4194304 + b * 2147483648)
  whole h m k d r q b e lm lr lq = go (eqb u m) refl (eqb q r) refl
    where
      go : (x : Bool) → eqb u m ≡ x → (y : Bool) → eqb q r ≡ y → (x && y) ≡ eqb t (m + k * 4096 + d * 1048576 + r * 4194304 + b * 2147483648)
      go true p true p' =
          let a = eqb-true u m p in
          let c = eqb-true q r p' in
          sym (eq-eqb t _ (e ∙ rw (a, c)))
      go true p false p' =
          let a = eqb-true u m p in
          let c = eqb-false q r p' in
          sym (ne_eqb t _ (λ z. c (omega arith)))
      go false p y p' =
          let c = eqb-false u m p in
          sym (ne_eqb t _ (λ z. c (omega arith)))

  sum : (k d q b x y z w : ℕ) → t ≡ u + 4096 * x → x ≡ k + 256 * y → y ≡ d + 4 * z → z ≡ q + 512 * w → w ≡ b → t ≡ u + k * 4096 + d * 1048576 + q * 4194304 + b * 2147483648
  sum k d q b x y z w h₀ h₁ h₂ h₃ h₄ = omega arith

  pub exact_by_parts : t < 2 ^ 32 → (a r : ℕ) → a ≡ allowed_bits (t % 4096 % 16) → r ≡ reprs t → (eqb (bit_and (t % 4096) a) (t % 4096) && eqb (t / 4194304 % 512) r) ≡ exact_dword t
  unfolding exact_dword
  exact_by_parts h a r ea er =
      let none : t / 2 ^ 32 ≡ 0 = omega (arith, h) in
      let top : t / 2 ^ 31 ≡ bits 31 31 t = omega (arith, bits_above t 31 1) in
      rw (ea, er, computed) (whole h (made t) (type_of t) (dimension t) (reprs t) (bits_from 22 9 t) (bits 31 31 t)
      (sum (type_of t) (dimension t) (bits_from 22 9 t) (bits 31 31 t) _ _ _ _ (sym (mod-add-div t 4096)) (bits_above t 12 8) (bits_above t 20 2) (bits_above t 22 9) top) small (reprs_small t) (omega arith))

  -- the selection of an exact dword takes all of the bits that a selection may
  pub exact_selection : t < 2 ^ 32 → exact_dword t ≡ true → t / 16 % 256 ≡ selection t
  exact_selection h e =
      let p = exact_by_parts h (allowed_bits (u % 16)) (reprs t) refl refl ∙ e in
      let q : u ≡ made t = eqb-true u (made t) (sym computed ∙ (both _ _ p).0) in
      let l : low (form t) < 16 = few (form t) in
      omega (arith, part)
    where
      few : (f : ℕ) → low f < 16
      few zero = omega arith
      few (suc zero) = omega arith
      few (suc (suc zero)) = omega arith
      few (suc (suc (suc zero))) = omega arith
      few (suc (suc (suc (suc zero)))) = omega arith
      few (suc (suc (suc (suc (suc f))))) = omega arith
