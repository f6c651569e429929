-- The rows of instructions.
use Prim.Native.Nat.{ℕ, ◌+◌, ◌%◌, ◌^◌, ◌≤◌}
use mathlib.Core.Path.{◌≡◌, ap, ◌∙◌}
use mathlib.Core.List.{List, [], ◌∷◌}
use mathlib.Core.Bool.{Bool, true, false, cond}
use lib.ListN.{length}
use lib.Seq.{slice, slice_empty}
use lib.Dec.{ltb}
use native.Mathlib.Omega.{arith}
use Rattle.format.specs.Dwords.{bits}
use Rattle.format.specs.Framing.{code}
use Rattle.format.specs.Counts.{Fields, of_type, type_bits, rising}
use Rattle.format.specs.Declarations.{Layout}
use Rattle.format.specs.Instructions.{fields_of, extensions}
use Rattle.layouts.specs.declared.Shape.{Shape}
use Rattle.layouts.specs.Shapes.{kind_number, meant}
use Rattle.instruction_write.specs.Writes.{row_for, long_bit, RowReady}

-- the chain between two places
pub chain_slice : (x : Layout) (ds : List ℕ) (end to : ℕ) → to ≡ cond (ltb x.kind 3) end 1 → slice 1 to ds ≡ extensions x (slice 1 end ds)
unfolding extensions
chain_slice x ds end to e = go (ltb x.kind 3) e
  where
    go : (b : Bool) → to ≡ cond b end 1 → slice 1 to ds ≡ cond b (slice 1 end ds) []
    go true z = ap (λ (n : ℕ). slice 1 n ds) z
    go false z = ap (λ (n : ℕ). slice 1 n ds) z ∙ slice_empty 1 ds

pub chain_places : (kind end to n : ℕ) → to ≡ cond (ltb kind 3) end 1 → 1 ≤ end → end ≤ n → (1 ≤ to) × (to ≤ n)
chain_places kind end to n e h k = go (ltb kind 3) e
  where
    go : (b : Bool) → to ≡ cond b end 1 → (1 ≤ to) × (to ≤ n)
    go true z = (omega arith, omega arith)
    go false z = (omega arith, omega arith)

pub chain_rises : (s : Shape) (ds : List ℕ) (end to words : ℕ) → to ≡ cond (ltb (kind_number s.kind) 3) end 1 → RowReady s ds end words → (1 ≤ to) × (to ≤ length ds) × (rising 0 (slice 1 to ds) ≡ true)
chain_rises s ds end to words e q =
    let p = chain_places (kind_number s.kind) end to (length ds) e q.from q.within in
    (p.0, p.1, ap (rising 0) (chain_slice (meant s) ds end to e) ∙ q.rises)

pub row_is : (x : Layout) (t : ℕ) (ds : List ℕ) (end to at n r k w m b l e₁ e₂ e₃ : ℕ) (f : Fields) → to ≡ cond (ltb x.kind 3) end 1 → n ≡ length ds → f ≡ fields_of x t → b ≡ type_bits (slice 1 to ds) → l ≡ long_bit t
    → e₁ ≡ of_type 1 (slice 1 to ds) → e₂ ≡ of_type 2 (slice 1 to ds) → e₃ ≡ of_type 3 (slice 1 to ds)
    → at ∷ n ∷ code t ∷ x.kind ∷ f.saturate ∷ f.test ∷ f.precise ∷ f.field ∷ (b + l) ∷ bits 9 20 e₁ ∷ (e₂ % 2 ^ 31) ∷ (e₃ % 2 ^ 31) ∷ r ∷ k ∷ w ∷ m ∷ [] ≡ row_for x t (slice 1 end ds) at (length ds) r k w m
unfolding row_for
row_is x t ds end to at n r k w m b l e₁ e₂ e₃ f et en ef eb el q₁ q₂ q₃ =
    let c : slice 1 to ds ≡ extensions x (slice 1 end ds) = chain_slice x ds end to et in
    let z₀ : b + l ≡ type_bits (extensions x (slice 1 end ds)) + long_bit t = λ i. (eb ∙ ap type_bits c) i + el i in
    let z₁ : e₁ ≡ of_type 1 (extensions x (slice 1 end ds)) = q₁ ∙ ap (of_type 1) c in
    let z₂ : e₂ ≡ of_type 2 (extensions x (slice 1 end ds)) = q₂ ∙ ap (of_type 2) c in
    let z₃ : e₃ ≡ of_type 3 (extensions x (slice 1 end ds)) = q₃ ∙ ap (of_type 3) c in
    λ i. at ∷ en i ∷ code t ∷ x.kind ∷ (ef i).saturate ∷ (ef i).test ∷ (ef i).precise ∷ (ef i).field ∷ z₀ i ∷ bits 9 20 (z₁ i) ∷ (z₂ i % 2 ^ 31) ∷ (z₃ i % 2 ^ 31) ∷ r ∷ k ∷ w ∷ m ∷ []
