-- The count of a code by its line, where a `match` tells.
use Prim.Native.Nat.{ℕ, zero, suc, ◌%◌}
use mathlib.Core.Path.{◌≡◌, refl, ◌∙◌}
use mathlib.Core.Bool.{Bool, true, false, cond, ◌||◌}
use mathlib.Core.List.{List, [], ◌∷◌}
use native.Mathlib.Omega.{arith}
use mathlib.Core.Logic.{inl, inr}
use lib.Dec.{eqb}
use lib.ListN.{get_or, take, drop}
use types.Run.{OneOf}
use borrow.Author.Tests.{eqb-true, eqb-false, eq-eqb, ne_eqb}
use Rattle.std.specs.Prelude.{None}
use Rattle.format.specs.Counts.{within, operand_counts, line_of, operand_count}
use Rattle.format.proofs.Dwords.{impossible}
use Rattle.layouts.specs.Shapes.{counted}

-- the codes of n operands
abbrev pub line : ℕ → List ℕ
line n = get_or operand_counts n []

-- the members of a list that pass a test
abbrev passing : (ℕ → Bool) → List ℕ → List ℕ
passing p [] = []
passing p (x ∷ l) = cond (p x) (x ∷ passing p l) (passing p l)

-- what passes the test is a member if it is one of those
among_passing : (p : ℕ → Bool) (c : ℕ) → p c ≡ true → (l : List ℕ) → within c l ≡ within c (passing p l)
unfolding within
among_passing p c h [] = refl
among_passing p c h (x ∷ l) = go (p x) refl (eqb c x) refl (among_passing p c h l)
  where
    go : (b : Bool) → p x ≡ b → (e : Bool) → eqb c x ≡ e → within c l ≡ within c (passing p l) → (e || within c l) ≡ within c (cond b (x ∷ passing p l) (passing p l))
    go true k e q r = rw (q, r)
    go false k true q r = let z : p x ≡ true = rw (← eqb-true c x q) h in impossible (cc)
    go false k false q r = r

pub no_key : (ks : List ℕ) (c : ℕ) → (OneOf ks c → ⊥) → within c ks ≡ false
unfolding within
no_key [] c h = refl
no_key (k ∷ []) c h = rw (ne_eqb c k h)
no_key (k ∷ j ∷ ks) c h = rw (ne_eqb c k (λ e. h (inl e))) (no_key (j ∷ ks) c (λ e. h (inr e)))

-- a list in two arms
pub no_keys : (n : ℕ) (ks : List ℕ) (c : ℕ) → within c (take n ks) ≡ false → within c (drop n ks) ≡ false → within c ks ≡ false
unfolding within
no_keys zero ks c p q = q
no_keys (suc n) [] c p q = refl
no_keys (suc n) (k ∷ ks) c p q = go (eqb c k) p (λ r. no_keys n ks c r q)
  where
    go : (b : Bool) → (b || within c (take n ks)) ≡ false → (within c (take n ks) ≡ false → within c ks ≡ false) → (b || within c ks) ≡ false
    go true p f = p
    go false p f = f p

-- the even codes of a line, and the odd ones
abbrev pub even : List ℕ → List ℕ
even = passing (λ x. eqb (x % 2) 0)

abbrev pub odd : List ℕ → List ℕ
odd = passing (λ x. eqb (x % 2) 1)

-- a code that is none of them
pub by_no_keys : (c : ℕ) → within c (even (line 0)) ≡ false → within c (even (line 1)) ≡ false → within c (even (line 2)) ≡ false → within c (even (line 3)) ≡ false
    → within c (even (line 4)) ≡ false → within c (even (line 5)) ≡ false → within c (even (line 6)) ≡ false
    → within c (odd (line 0)) ≡ false → within c (odd (line 1)) ≡ false → within c (odd (line 2)) ≡ false → within c (odd (line 3)) ≡ false
    → within c (odd (line 4)) ≡ false → within c (odd (line 5)) ≡ false → within c (odd (line 6)) ≡ false → None ≡ counted (operand_count c)
unfolding operand_count line_of
by_no_keys c a0 a1 a2 a3 a4 a5 a6 b0 b1 b2 b3 b4 b5 b6 =
    rw (absent 0 a0 b0, absent 1 a1 b1, absent 2 a2 b2, absent 3 a3 b3, absent 4 a4 b4, absent 5 a5 b5, absent 6 a6 b6)
  where
    absent : (k : ℕ) → within c (even (line k)) ≡ false → within c (odd (line k)) ≡ false → within c (line k) ≡ false
    absent k a b = go (eqb (c % 2) 0) refl
      where
        go : (e : Bool) → eqb (c % 2) 0 ≡ e → within c (line k) ≡ false
        go true e = among_passing (λ x. eqb (x % 2) 0) c e (line k) ∙ a
        go false e = among_passing (λ x. eqb (x % 2) 1) c (eq-eqb (c % 2) 1 (omega (arith, eqb-false (c % 2) 0 e))) (line k) ∙ b
