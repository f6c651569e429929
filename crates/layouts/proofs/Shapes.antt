-- The bounds of a shape, by tests that compute.
use Prim.Native.Nat.{ℕ, ◌+◌, ◌<◌, ◌≤◌}
use mathlib.Core.Path.{◌≡◌, refl, ap}
use mathlib.Core.Bool.{Bool, true, false, ◌||◌}
use mathlib.Core.List.{List, [], ◌∷◌}
use mathlib.Core.Logic.{◌⊎◌, inl, inr}
use native.Mathlib.Omega.{arith}
use lib.Dec.{eqb, leb}
use lib.ListN.{get_or, replicate}
use borrow.Author.Tests.{eqb-true, leb-true}
use Rattle.format.specs.Counts.{within}
use Rattle.format.proofs.Dwords.{impossible}
use Rattle.layouts.specs.declared.Kind.{Kind}
use Rattle.layouts.specs.declared.Kind.TheVariants.{Counted, Opaque, Phase, Declaration, CustomData}
use Rattle.layouts.specs.declared.Shape.{Shape}
use Rattle.layouts.specs.Shapes.{Sound, kind_number}
use Rattle.layouts.specs.Table.{plain_shape}

abbrev pub checks : Shape → List Bool
checks x =
    leb 11 x.first ∷ leb (x.first + x.width) 24 ∷ leb x.bounded x.width ∷ (eqb x.bounded 0 || eqb x.first 11) ∷
    leb x.before 3 ∷ leb x.operands 6 ∷ leb x.small 1 ∷ leb x.after 2 ∷ leb x.extra 2 ∷ within x.list (0 ∷ 16 ∷ 32 ∷ []) ∷ []

abbrev pub passed : List Bool
passed = replicate 10 true

either : (n : ℕ) → within n (0 ∷ 16 ∷ 32 ∷ []) ≡ true → (n ≡ 0) ⊎ ((n ≡ 16) ⊎ (n ≡ 32))
unfolding within
either n = go (eqb n 0) (eqb n 16) (eqb n 32) refl refl refl
  where
    go : (a b c : Bool) → eqb n 0 ≡ a → eqb n 16 ≡ b → eqb n 32 ≡ c → (a || (b || (c || false))) ≡ true → (n ≡ 0) ⊎ ((n ≡ 16) ⊎ (n ≡ 32))
    go true b c p q r e = inl (eqb-true n 0 p)
    go false true c p q r e = inr (inl (eqb-true n 16 q))
    go false false true p q r e = inr (inr (eqb-true n 32 r))
    go false false false p q r e = impossible (cc)

pub sound : (x : Shape) → checks x ≡ passed → Sound x
sound x e = record {
  bits_from = leb-true _ _ (test 0);
  bits_to = leb-true _ _ (test 1);
  bounded = leb-true _ _ (test 2);
  bounded_from = λ h. low (eqb x.bounded 0) refl (test 3) h;
  before = leb-true _ _ (test 4);
  operands = leb-true _ _ (test 5);
  small = leb-true _ _ (test 6);
  after = leb-true _ _ (test 7);
  extra = leb-true _ _ (test 8);
  list = either x.list (test 9);
}
  where
    test : (k : ℕ) → get_or (checks x) k false ≡ get_or passed k false
    test k = ap (λ l. get_or l k false) e

    low : (b : Bool) → eqb x.bounded 0 ≡ b → (b || eqb x.first 11) ≡ true → 0 < x.bounded → x.first ≡ 11
    low true p q h = let z = eqb-true x.bounded 0 p in absurd (omega arith)
    low false p q h = eqb-true x.first 11 q

-- a shape of operands
pub plain_sound : (k : Kind) (w n : ℕ) (t : Bool) → w ≤ 13 → n ≤ 6 → Sound (plain_shape k w n t)
plain_sound k w n t h m = record {
  bits_from = omega arith;
  bits_to = omega arith;
  bounded = omega arith;
  bounded_from = λ h. refl;
  before = omega arith;
  operands = m;
  small = omega arith;
  after = omega arith;
  extra = omega arith;
  list = inl refl;
}

-- the number of a kind is 1 to 5
pub kind_from : (k : Kind) → 1 ≤ kind_number k
kind_from Counted = omega arith
kind_from Opaque = omega arith
kind_from Phase = omega arith
kind_from Declaration = omega arith
kind_from CustomData = omega arith

pub kind_to : (k : Kind) → kind_number k ≤ 5
kind_to Counted = omega arith
kind_to Opaque = omega arith
kind_to Phase = omega arith
kind_to Declaration = omega arith
kind_to CustomData = omega arith
