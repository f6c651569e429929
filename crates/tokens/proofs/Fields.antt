-- Laws of the fields of a dword, over plain numbers.
use Prim.Native.Nat.{ℕ, zero, suc, ◌*◌, ◌-◌, ◌/◌, ◌^◌, ◌<◌}
use mathlib.Core.Path.{◌≡◌, refl, ap, ◌∙◌}
use mathlib.Core.List.{[], ◌∷◌}
use lib.ListN.{get_or}
use lib.Bits.{bit_and, and_mask}
use native.Mathlib.Omega.{arith}
use Rattle.std.proofs.lemmas.Bool.Decides.{nat_tests}
use Rattle.format.specs.Dwords.{bits_from}
use Rattle.format.specs.Operands.{dimension, form, immediates, reprs}

-- the bits that a form's selection has
abbrev pub chosen : ℕ → ℕ
chosen f = get_or (0 ∷ 0 ∷ 4 ∷ 8 ∷ 2 ∷ []) f 0

-- as many immediates as the form has components
abbrev pub counted : ℕ → ℕ
counted f = get_or (0 ∷ 1 ∷ 4 ∷ 4 ∷ 4 ∷ []) f 0

pub form_small : (t : ℕ) → form t < 5
unfolding form
form_small t = grind (arith, nat_tests)

pub counted_more : (f : ℕ) → f < 5 → (f ≡ 0 → ⊥) → (f ≡ 1 → ⊥) → 4 ≡ counted f
counted_more zero h a b = absurd (a refl)
counted_more (suc zero) h a b = absurd (b refl)
counted_more (suc (suc zero)) h a b = refl
counted_more (suc (suc (suc zero))) h a b = refl
counted_more (suc (suc (suc (suc zero)))) h a b = refl
counted_more (suc (suc (suc (suc (suc f))))) h a b = absurd (omega arith)

module _ (t f : ℕ) (e : f ≡ form t) where
  pub counted_is : (k : ℕ) → k ≡ counted f → k ≡ immediates t
  unfolding immediates
  counted_is k q = q ∙ ap counted e

-- representations
abbrev pub three : ℕ → ℕ
three d = 2 ^ (3 * d) - 1

pub reprs_is : (t d m : ℕ) → d ≡ dimension t → m ≡ three d → bit_and (t / 2 ^ 22) m ≡ reprs t
unfolding reprs
reprs_is t d m e q = rw (q, e) (and_mask (t / 2 ^ 22) (3 * dimension t))

-- the low four bits of a form
abbrev pub low : ℕ → ℕ
low f = get_or (0 ∷ 1 ∷ 2 ∷ 6 ∷ 10 ∷ []) f 0

pub reprs_small : (t : ℕ) → reprs t < 2 ^ 9
unfolding reprs
reprs_small t = go (dimension t) (omega arith)
  where
    go : (d : ℕ) → d < 4 → bits_from 22 (3 * d) t < 2 ^ 9
    go zero h = omega arith
    go (suc zero) h = omega arith
    go (suc (suc zero)) h = omega arith
    go (suc (suc (suc zero))) h = omega arith
    go (suc (suc (suc (suc d)))) h = absurd (omega arith)
