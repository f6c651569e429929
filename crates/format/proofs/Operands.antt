-- Laws of operands: what is read is the dwords that were read.
use Prim.Native.Nat.{ℕ, zero, suc}
use mathlib.Core.Path.{◌≡◌, refl, ap, ◌∙◌}
use mathlib.Core.List.{List, [], ◌∷◌, ◌++◌, append_assoc}
use lib.Dec.{eqb}
use Rattle.format.specs.Dwords.{follows, Reader}
use Rattle.format.specs.Operands.{Tree, immediate, immediates, dimension, repr, own, nests, known, read_index, read_immediates, read_indices, operand, dwords}
use Rattle.format.proofs.Dwords.{All, unmet, met, all_then, all_if, Makes, makes_dword, some_length, chain_linked}

flat : (e m a b c r : List ℕ) → (e ++ m ++ a ++ b ++ c) ++ r ≡ e ++ (m ++ (a ++ (b ++ (c ++ r))))
flat e m a b c r = simp append_assoc

module _ (p : Reader Tree) (hp : (ds : List ℕ) → Makes dwords ds (p ds)) where
  makes_index : (r : ℕ) (ds : List ℕ) → Makes dwords ds (read_index p r ds)
  unfolding read_index dwords
  makes_index r ds = all_if (known r) _ _ ds
      (λ k. all_then (some_length (own r) ds) (λ x ds₁ e₁.
      all_then (all_if (nests r) p _ ds₁ (λ n. hp ds₁) (λ n. met refl)) (λ c ds₂ e₂.
      met (rw (append_assoc, e₂, e₁.0)))))
      (λ k. unmet)

  makes_indices : (t : ℕ) (e ds : List ℕ) → All (λ x r. dwords x ++ r ≡ t ∷ e ++ ds) (read_indices p t e ds)
  unfolding read_indices dwords
  makes_indices t e ds =
      all_then (makes_index (repr 0 t) ds) (λ a ds₁ e₁.
      all_then (makes_index (repr 1 t) ds₁) (λ b ds₂ e₂.
      all_then (makes_index (repr 2 t) ds₂) (λ c ds₃ e₃.
      met (ap (λ (l : List ℕ). t ∷ l) (flat e [] (dwords a) (dwords b) (dwords c) ds₃ ∙ rw (e₃, e₂, e₁))))))

makes_immediates : (t : ℕ) (e ds : List ℕ) → All (λ x r. dwords x ++ r ≡ t ∷ e ++ ds) (read_immediates t e ds)
unfolding read_immediates dwords
makes_immediates t e ds = all_if (eqb (dimension t) 0) _ _ ds
    (λ z. all_then (some_length (immediates t) ds) (λ m ds₁ e₁. met (ap (λ (l : List ℕ). t ∷ l) (flat e m [] [] [] ds₁ ∙ rw e₁.0))))
    (λ z. unmet)

pub makes_operand : (k : ℕ) (ds : List ℕ) → Makes dwords ds (operand k ds)
unfolding operand
makes_operand zero ds = unmet
makes_operand (suc k) ds =
    all_then (makes_dword ds) (λ t ds₁ e₁.
    all_then (chain_linked (follows t) ds₁) (λ e ds₂ e₂.
    all_if (immediate t) _ _ ds₂ (λ i. rw (← e₁, ← e₂.0) (makes_immediates t e ds₂)) (λ i. rw (← e₁, ← e₂.0) (makes_indices (operand k) (makes_operand k) t e ds₂))))
