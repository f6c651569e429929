-- Laws of lists that stand in front of others.
use Prim.Native.Nat.{ℕ, zero, suc, ◌+◌}
use mathlib.Core.Path.{◌≡◌, refl, sym, ap, ◌∙◌}
use mathlib.Core.List.{List, [], ◌∷◌, ◌++◌, append_assoc}
use lib.ListN.{length, take, drop, take-append-drop}
use lib.Seq.{drop-drop}
use native.Mathlib.Omega.{arith}
use Rattle.format.specs.Dwords.{got, some}

-- x stands in front of ds, which go on after n
abbrev pub InFront : List ℕ → ℕ → List ℕ → Type 0
InFront x n ds = ds ≡ x ++ drop n ds

pub front_none : (ds : List ℕ) → InFront [] 0 ds
front_none ds = refl

pub front_cut : (n : ℕ) (ds : List ℕ) → InFront (take n ds) n ds
front_cut n ds = sym (take-append-drop n ds)

-- one behind the other
pub front_more : (x y : List ℕ) (n m k : ℕ) (ds : List ℕ) → n + m ≡ k → InFront x n ds → InFront y m (drop n ds) → InFront (x ++ y) k ds
front_more x y n m k ds e f g =
    let h : drop n ds ≡ y ++ drop k ds = g ∙ ap (λ (l : List ℕ). y ++ l) (drop-drop m n ds ∙ ap (λ (j : ℕ). drop j ds) e) in
    f ∙ ap (λ (l : List ℕ). x ++ l) h ∙ sym (append_assoc x y (drop k ds))

flat : (q x y z l : List ℕ) → (q ++ x ++ y ++ z) ++ l ≡ (q ++ (x ++ (y ++ z))) ++ l
flat q x y z l = simp append_assoc

pub front_four : (q x y z : List ℕ) (n i j k s : ℕ) (ds : List ℕ) → n + i + j + k ≡ s → InFront q n ds → InFront x i (drop n ds) → InFront y j (drop i (drop n ds)) → InFront z k (drop j (drop i (drop n ds))) →
    InFront (q ++ x ++ y ++ z) s ds
front_four q x y z n i j k s ds e fq fx fy fz =
    let yz = front_more y z j k (j + k) (drop i (drop n ds)) refl fy fz in
    let xyz = front_more x (y ++ z) i (j + k) (i + (j + k)) (drop n ds) refl fx yz in
    front_more q (x ++ (y ++ z)) n (i + (j + k)) s ds (omega arith) fq xyz ∙ sym (flat q x y z (drop s ds))

-- so many dwords are read off the front
pub some_of : (x l : List ℕ) (n : ℕ) → length x ≡ n → some n (x ++ l) ≡ got x l
unfolding some
some_of [] l zero e = refl
some_of [] l (suc n) e = absurd (let f : ⊥ = omega arith in f)
some_of (x ∷ k) l zero e = absurd (let f : ⊥ = omega arith in f)
some_of (x ∷ k) l (suc n) e = rw (some_of k l n (omega arith))
