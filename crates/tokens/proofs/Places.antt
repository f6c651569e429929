-- Reading at a place: what the code's places say of the readers.
use Prim.Native.Nat.{ℕ, zero, suc, ◌+◌, ◌-◌, ◌≤◌, ◌<◌}
use mathlib.Core.Path.{◌≡◌, refl, sym, ap, ◌∙◌}
use mathlib.Core.Bool.{Bool}
use mathlib.Core.List.{List, [], ◌∷◌, ◌++◌}
use native.Mathlib.Omega.{arith}
use lib.ListN.{length, get_or, take, drop, length-append, length-drop}
use lib.Seq.{drop-cons, drop-append_seam, take-append_seam, drop_at, drop-drop, take-add, length-take-le, slice}
use Rattle.std.specs.Prelude.{Some, None}
use Rattle.format.specs.Dwords.{Got, malformed, got, dword, some, chain}
use Rattle.format.proofs.Dwords.{All, met, impossible, Linked, chain_linked}
use Rattle.tokens.specs.Chains.{ends}

pub dword_at_lem : (ds : List ℕ) (at : ℕ) → at < length ds → dword (drop at ds) ≡ got (get_or ds at 0) (drop (suc at) ds)
unfolding dword
dword_at_lem ds at h = rw (drop-cons ds at 0)

pub dword_end : (ds : List ℕ) (at : ℕ) → length ds ≤ at → dword (drop at ds) ≡ malformed
unfolding dword
dword_end [] zero h = refl
dword_end [] (suc at) h = refl
dword_end (x ∷ ds) zero h = impossible (omega arith)
dword_end (x ∷ ds) (suc at) h = dword_end ds at (omega arith)

-- the first n dwords
pub first_whole : (n : ℕ) (ds : List ℕ) → n ≤ length ds → some n ds ≡ got (take n ds) (drop n ds)
unfolding some
first_whole zero ds h = refl
first_whole (suc n) [] h = impossible (omega arith)
first_whole (suc n) (x ∷ ds) h = rw (first_whole n ds (omega arith))

pub first_short : (n : ℕ) (ds : List ℕ) → length ds < n → some n ds ≡ malformed
unfolding some
first_short zero ds h = impossible (omega arith)
first_short (suc n) [] h = refl
first_short (suc n) (x ∷ ds) h = rw (first_short n ds (omega arith))

pub some_whole : (n : ℕ) (ds : List ℕ) (at : ℕ) → at + n ≤ length ds → some n (drop at ds) ≡ got (take n (drop at ds)) (drop (at + n) ds)
some_whole n ds at h = rw (first_whole n (drop at ds) (simp length-drop (omega arith)), drop-drop n at ds)

pub some_length : (n : ℕ) (ds : List ℕ) (at : ℕ) → at + n ≤ length ds → length (take n (drop at ds)) ≡ n
some_length n ds at h = length-take-le n (drop at ds) (simp length-drop (omega arith))

pub some_short : (n : ℕ) (ds : List ℕ) (at : ℕ) → at ≤ length ds → length ds < at + n → some n (drop at ds) ≡ malformed
some_short n ds at k h = first_short n (drop at ds) (simp length-drop (omega arith))

-- what was read, with what is left, makes up the dwords from a place on
module _ (ds x r : List ℕ) (at : ℕ) (e : x ++ r ≡ drop at ds) where
  pub left_at : r ≡ drop (at + length x) ds
  left_at = sym (drop-append_seam x r) ∙ ap (drop (length x)) e ∙ drop-drop (length x) at ds

  module _ (h : at ≤ length ds) where
    pub read_within : at + length x ≤ length ds
    read_within = let q : length x + length r ≡ length ds - at = sym (length-append x r) ∙ ap length e ∙ length-drop at ds in omega arith

    pub read_at : x ≡ slice at (at + length x) ds
    read_at =
        sym
        (rw (take-add at (length x) ds, ← e, take-append_seam x r)
        (drop_at (take at ds) x at (length-take-le at ds h)))

-- a chain is passed: what it is, and what is left
pub record Passed (b : Bool) (ds : List ℕ) (at p : ℕ) : Type 0 where
  pub is : chain b (drop at ds) ≡ got (slice at p ds) (drop p ds)
  pub from : at ≤ p
  pub within : p ≤ length ds

pub passed : (b : Bool) (ds : List ℕ) (at p : ℕ) → at ≤ length ds → Some p ≡ ends at (chain b (drop at ds)) → Passed b ds at p
passed b ds at p h e = go (chain b (drop at ds)) refl (chain_linked b (drop at ds)) e
  where
    go : (g : Got (List ℕ)) → chain b (drop at ds) ≡ g → All (λ x r. (x ++ r ≡ drop at ds) × Linked b x) g → Some p ≡ ends at g → Passed b ds at p
    go malformed q a z = impossible (cc)
    go (got x r) q (met y) z =
        let ep : at + length x ≡ p = cc in
        record {
          is = q ∙ (λ i. got (read_at ds x r at y.0 h i) (left_at ds x r at y.0 i)) ∙ ap (λ (k : ℕ). got (slice at k ds) (drop k ds)) ep;
          from = omega arith;
          within = omega (arith, read_within ds x r at y.0 h);
        }

pub ran_off : (at : ℕ) (g : Got (List ℕ)) → None ≡ ends at g → g ≡ malformed
ran_off at malformed e = refl
ran_off at (got x r) e = cc
