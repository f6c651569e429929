-- A rule that was computed over a whole list holds at each of its places, and of each of its members.
use Prim.Native.Nat.{ℕ, zero, suc, ◌+◌, ◌<◌}
use mathlib.Core.Path.{◌≡◌, refl, sym, ◌∙◌, ap}
use mathlib.Core.Bool.{Bool, true, false, ◌||◌}
use mathlib.Core.List.{List, [], ◌∷◌, map}
use native.Mathlib.Nat.{add-zero, zero-add, add-suc, suc-add, le_of_suc-le-suc, not-suc-le-zero}
use lib.Dec.{eqb}
use lib.ListN.{length, get_or, drop}
use borrow.Author.Tests.{eqb-true}
use Rattle.format.specs.Counts.{numbers, within}
use Rattle.format.proofs.Dwords.{impossible}

module _ {A B : Type 0} (f : A → B) (g : ℕ → B) where
  from : (l : List A) (z : A) (a : ℕ) → map f l ≡ map g (numbers (length l) a) → (i : ℕ) → i < length l → f (get_or l i z) ≡ g (a + i)
  unfolding numbers
  from [] z a e i h = absurd (not-suc-le-zero h)
  from (x ∷ l) z a e zero h = ap (λ m. get_or m 0 (f x)) e ∙ ap g (sym (add-zero a))
  from (x ∷ l) z a e (suc i) h = from l z (suc a) (ap (drop 1) e) i (le_of_suc-le-suc h) ∙ ap g (suc-add a i ∙ sym (add-suc a i))

  -- places are counted from 0
  pub at : (l : List A) (z : A) → map f l ≡ map g (numbers (length l) 0) → (i : ℕ) → i < length l → f (get_or l i z) ≡ g i
  at l z e i h = from l z 0 e i h ∙ ap g (zero-add i)

-- what is computed of the numbers below n holds of each
each : {B : Type 0} (f g : ℕ → B) (n a : ℕ) → map f (numbers n a) ≡ map g (numbers n a) → (k : ℕ) → k < n → f (a + k) ≡ g (a + k)
unfolding numbers
each f g zero a e k h = absurd (not-suc-le-zero h)
each f g (suc n) a e zero h = rw (add-zero a) (ap (λ m. get_or m 0 (f a)) e)
each f g (suc n) a e (suc k) h = rw (suc-add a k ∙ sym (add-suc a k)) at (each f g n (suc a) (ap (drop 1) e) k (le_of_suc-le-suc h))

pub below : {B : Type 0} (f g : ℕ → B) (n : ℕ) → map f (numbers n 0) ≡ map g (numbers n 0) → (k : ℕ) → k < n → f k ≡ g k
below f g n e k h = rw (zero-add k) at (each f g n 0 e k h)

pub member : {B : Type 0} (f g : ℕ → B) (l : List ℕ) → map f l ≡ map g l → (c : ℕ) → within c l ≡ true → f c ≡ g c
unfolding within
member f g [] e c h = impossible (cc)
member f g (x ∷ l) e c h = go (eqb c x) refl h (member f g l (ap (drop 1) e) c)
  where
    go : (b : Bool) → eqb c x ≡ b → (b || within c l) ≡ true → (within c l ≡ true → f c ≡ g c) → f c ≡ g c
    go true k h r =
        let q = eqb-true c x k in
        ap f q ∙ ap (λ m. get_or m 0 (f x)) e ∙ ap g (sym q)
    go false k h r = r h

-- what fails a test that all members pass is none of them
pub absent : (p : ℕ → Bool) (l : List ℕ) → map p l ≡ map (λ x. true) l → (c : ℕ) → p c ≡ false → within c l ≡ false
absent p l e c h = go (within c l) refl
  where
    go : (b : Bool) → within c l ≡ b → b ≡ false
    go true k = let q = member p (λ x. true) l e c k in impossible (cc)
    go false k = refl
