-- Two rows, number by number.
use Prim.Native.Nat.{ℕ, zero, suc, ◌+◌, ◌≤◌}
use mathlib.Core.Path.{◌≡◌, refl, sym, ap, ◌∙◌}
use mathlib.Core.Bool.{◌&&◌, and_assoc, and-true}
use mathlib.Core.List.{List, [], ◌∷◌, ◌++◌}
use native.Mathlib.Omega.{arith}
use lib.ListN.{length, take, drop, get_or}
use lib.Seq.{drop-cons, take-add, length-take-le, take_all}
use lib.Dec.{eqb}
use Rattle.format.specs.Encoder.{same}
use Rattle.format.proofs.Dwords.{impossible}

-- n numbers, from number i on
unfoldable pub numbers_at : ℕ → ℕ → List ℕ → List ℕ
numbers_at zero i l = []
numbers_at (suc n) i l = get_or l i 0 ∷ numbers_at n (suc i) l

pub listed : (n i : ℕ) (l : List ℕ) → i + n ≤ length l → take n (drop i l) ≡ numbers_at n i l
unfolding numbers_at
listed zero i l h = refl
listed (suc n) i l h = rw (drop-cons l i 0 (omega arith)) (ap (λ (k : List ℕ). get_or l i 0 ∷ k) (listed n (suc i) l (omega arith)))

same_append : (a b x y : List ℕ) → length a ≡ length x → same (a ++ b) (x ++ y) ≡ (same a x && same b y)
unfolding same
same_append [] b [] y e = refl
same_append [] b (u ∷ x) y e = impossible (omega arith)
same_append (u ∷ a) b [] y e = impossible (omega arith)
same_append (u ∷ a) b (v ∷ x) y e = ap (λ z. eqb u v && z) (same_append a b x y (omega arith)) ∙ sym (and_assoc (eqb u v) (same a x) (same b y))

-- a row is the same as another if its halves are
pub same_halves : (q x y : List ℕ) → length q ≡ 16 → length x ≡ 8 → same q (x ++ y) ≡ (same (take 8 q) x && same (take 8 (drop 8 q)) y)
same_halves q x y h e =
    let z : take 8 q ++ take 8 (drop 8 q) ≡ q = sym (take-add 8 8 q) ∙ take_all 16 q (omega arith) in
    ap (λ (l : List ℕ). same l (x ++ y)) (sym z) ∙ same_append (take 8 q) (take 8 (drop 8 q)) x y (length-take-le 8 q (omega arith) ∙ sym e)

-- a half, number by number
eight : (s t u v w x y z a b c d e f g h : ℕ) → (eqb s a && eqb t b && eqb u c && eqb v d && eqb w e && eqb x f && eqb y g && eqb z h) ≡ same (s ∷ t ∷ u ∷ v ∷ w ∷ x ∷ y ∷ z ∷ []) (a ∷ b ∷ c ∷ d ∷ e ∷ f ∷ g ∷ h ∷ [])
unfolding same
eight s t u v w x y z a b c d e f g h = simp (and_assoc, and-true)

module _ (l : List ℕ) (n : 16 ≤ length l) (a b c d e f g h : ℕ) where
  pub same_first : (eqb (get_or l 0 0) a && eqb (get_or l 1 0) b && eqb (get_or l 2 0) c && eqb (get_or l 3 0) d && eqb (get_or l 4 0) e && eqb (get_or l 5 0) f && eqb (get_or l 6 0) g && eqb (get_or l 7 0) h) ≡ same (take 8 l) (a ∷ b ∷ c ∷ d ∷ e ∷ f ∷ g ∷ h ∷ [])
  unfolding numbers_at
  same_first = eight _ _ _ _ _ _ _ _ a b c d e f g h ∙ ap (λ (k : List ℕ). same k (a ∷ b ∷ c ∷ d ∷ e ∷ f ∷ g ∷ h ∷ [])) (sym (listed 8 0 l (omega arith)))

  pub same_second : (eqb (get_or l 8 0) a && eqb (get_or l 9 0) b && eqb (get_or l 10 0) c && eqb (get_or l 11 0) d && eqb (get_or l 12 0) e && eqb (get_or l 13 0) f && eqb (get_or l 14 0) g && eqb (get_or l 15 0) h) ≡ same (take 8 (drop 8 l)) (a ∷ b ∷ c ∷ d ∷ e ∷ f ∷ g ∷ h ∷ [])
  unfolding numbers_at
  same_second = eight _ _ _ _ _ _ _ _ a b c d e f g h ∙ ap (λ (k : List ℕ). same k (a ∷ b ∷ c ∷ d ∷ e ∷ f ∷ g ∷ h ∷ [])) (sym (listed 8 8 l (omega arith)))
