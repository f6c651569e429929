-- Laws of bytes and their dwords.
use Prim.Native.Nat.{ℕ, zero, suc, ◌+◌, ◌*◌, ◌<◌}
use mathlib.Core.Path.{◌≡◌, refl, ap}
use mathlib.Core.List.{List, [], ◌∷◌}
use lib.ListN.{length, get_or, take, drop}
use native.Mathlib.Omega.{arith}
use Rattle.format.specs.Dwords.{dword_of, dwords_of}

four : (k : ℕ) → suc k * 4 ≡ suc (suc (suc (suc (k * 4))))
four k = omega arith

-- a dword is made of four bytes
pub get_or_dwords : (l : List ℕ) (k : ℕ) → k < length (dwords_of l) → get_or (dwords_of l) k 0 ≡ dword_of (get_or l (k * 4) 0) (get_or l (k * 4 + 1) 0) (get_or l (k * 4 + 2) 0) (get_or l (k * 4 + 3) 0)
unfolding dwords_of
get_or_dwords [] k h = omega arith
get_or_dwords (a ∷ []) k h = omega arith
get_or_dwords (a ∷ b ∷ []) k h = omega arith
get_or_dwords (a ∷ b ∷ c ∷ []) k h = omega arith
get_or_dwords (a ∷ b ∷ c ∷ d ∷ l) zero h = refl
get_or_dwords (a ∷ b ∷ c ∷ d ∷ l) (suc k) h =
    let e₀ : suc k * 4 ≡ suc (suc (suc (suc (k * 4)))) = omega arith in
    let e₁ : suc k * 4 + 1 ≡ suc (suc (suc (suc (k * 4 + 1)))) = omega arith in
    let e₂ : suc k * 4 + 2 ≡ suc (suc (suc (suc (k * 4 + 2)))) = omega arith in
    let e₃ : suc k * 4 + 3 ≡ suc (suc (suc (suc (k * 4 + 3)))) = omega arith in
    rw (e₃, e₂, e₁, e₀) (get_or_dwords l k (omega arith))

-- the dwords of a part that starts, or ends, at a dword
pub drop_dwords : (k : ℕ) (l : List ℕ) → dwords_of (drop (k * 4) l) ≡ drop k (dwords_of l)
unfolding dwords_of
drop_dwords zero l = refl
drop_dwords (suc k) [] = rw (four k)
drop_dwords (suc k) (a ∷ []) = rw (four k)
drop_dwords (suc k) (a ∷ b ∷ []) = rw (four k)
drop_dwords (suc k) (a ∷ b ∷ c ∷ []) = rw (four k)
drop_dwords (suc k) (a ∷ b ∷ c ∷ d ∷ l) = rw (four k) (drop_dwords k l)

pub take_dwords : (k : ℕ) (l : List ℕ) → dwords_of (take (k * 4) l) ≡ take k (dwords_of l)
unfolding dwords_of
take_dwords zero l = refl
take_dwords (suc k) [] = rw (four k)
take_dwords (suc k) (a ∷ []) = rw (four k)
take_dwords (suc k) (a ∷ b ∷ []) = rw (four k)
take_dwords (suc k) (a ∷ b ∷ c ∷ []) = rw (four k)
take_dwords (suc k) (a ∷ b ∷ c ∷ d ∷ l) = rw (four k) (ap (λ (r : List ℕ). dword_of a b c d ∷ r) (take_dwords k l))
