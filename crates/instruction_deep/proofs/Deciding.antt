-- What an answer decides and counts.
use Prim.Native.Nat.{ℕ, ◌≤◌}
use mathlib.Core.Path.{◌≡◌, refl}
use mathlib.Core.Bool.{true, false}
use Rattle.std.specs.Prelude.{Option, Some, Decides}
use Rattle.format.proofs.Dwords.{impossible}
use Rattle.instruction_deep.specs.Walks.{Counts, are, none_are}

pub holds : {P : Type 0} → P → Decides true P
holds p = (λ e. p, λ p. refl)

pub fails : {P : Type 0} → (P → ⊥) → Decides false P
fails f = (λ e. impossible (cc), λ p. absurd (f p))

-- what was counted holds, and there are few
pub record Told (P : Type 0) (n k : ℕ) : Type 0 where
  pub few : k ≤ 3
  pub size : n ≡ k
  pub is : P

pub told : {P : Type 0} {n k : ℕ} {o : Option ℕ} → Counts P n o → o ≡ Some k → Told P n k
told {n = n} {k = k} (are h a) e = let z : n ≡ k = (cc) in record { few = rw z at h; size = z; is = a }
told (none_are f) e = impossible (cc)
