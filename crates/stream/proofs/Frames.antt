-- Framing at places: what stands there, whatever the steps left.
use Prim.Native.Nat.{ℕ, zero, suc, ◌+◌, ◌*◌, ◌-◌, ◌≤◌, ◌<◌}
use mathlib.Core.Path.{◌≡◌, refl, sym, ap, ◌∙◌}
use mathlib.Core.List.{List, [], ◌∷◌, ◌++◌}
use lib.ListN.{length, get_or, take, drop, length-drop, length-append, drop_of_length-le}
use lib.Seq.{drop-cons, take-add, drop_at, length-take-le, slice}
use native.Mathlib.Omega.{arith}
use Rattle.format.specs.Dwords.{dwords_of, Got, malformed, got, some}
use Rattle.format.specs.Framing.{length_of, Framed, whole, zero_length, past_end, instruction, cut, frame}
use Rattle.format.proofs.Dwords.{impossible, All, unmet, met, some_length}
use Rattle.tokens.proofs.Bytes.{drop_dwords, take_dwords}
use Rattle.tokens.proofs.Places.{some_whole, some_short}

cut_same : (n : ℕ) {g : Got (List ℕ)} (k : ℕ) (f h : List ℕ → Framed) → All (λ x r. (length x ≡ n) × (length x + length r ≤ suc k)) g → ((l : List ℕ) → length l ≤ k → f l ≡ h l) → cut n g f ≡ cut n g h
cut_same zero k f h a e = refl
cut_same (suc n) k f h unmet e = refl
cut_same (suc n) k f h (met {a = x} {r = r} p) e = ap (instruction x) (e r (omega (arith, p.0, p.1)))

made : {ds : List ℕ} {g : Got (List ℕ)} (n k : ℕ) → length ds ≤ suc k → All (λ x r. (x ++ r ≡ ds) × (length x ≡ n)) g → All (λ x r. (length x ≡ n) × (length x + length r ≤ suc k)) g
made n k h unmet = unmet
made n k h (met {a = x} {r = r} p) = let q : length x + length r ≤ suc k = omega (arith, h, ap length p.0, length-append x r) in met {a = x} {r = r} (p.1, q)

-- more steps than dwords change nothing
pub frame_more : (k : ℕ) (ds : List ℕ) → length ds ≤ k → frame k ds ≡ frame (suc k) ds
unfolding frame
frame_more zero [] h = refl
frame_more zero (t ∷ ds) h = impossible (omega arith)
frame_more (suc k) [] h = refl
frame_more (suc k) (t ∷ ds) h =
    cut_same (length_of t ds) k (λ l. frame k l) (λ l. frame (suc k) l) (made (length_of t ds) k h (some_length (length_of t ds) (t ∷ ds))) (λ l e. frame_more k l e)

frame_cons : (k : ℕ) (l : List ℕ) (t : ℕ) (r : List ℕ) → l ≡ t ∷ r → frame (suc k) l ≡ cut (length_of t r) (some (length_of t r) l) (λ l. frame k l)
unfolding frame
frame_cons k l t r e = rw e

-- no dword is left
pub frame_end : (k : ℕ) (ds : List ℕ) (at : ℕ) → length ds ≤ at → frame k (drop at ds) ≡ whole
unfolding frame
frame_end k ds at h = ap (λ (l : List ℕ). frame k l) (drop_of_length-le ds {i = at} h) ∙ go k
  where
    go : (k : ℕ) → frame k [] ≡ whole
    go zero = refl
    go (suc k) = refl

slice_take : (ds : List ℕ) (at n : ℕ) → at ≤ length ds → take n (drop at ds) ≡ slice at (at + n) ds
slice_take ds at n h = sym (rw (take-add at n ds) (drop_at (take at ds) (take n (drop at ds)) at (length-take-le at ds h)))

-- the dwords of a part that starts and ends at a dword
pub part_dwords : (a b : ℕ) (l : List ℕ) → a ≤ b → a ≤ length (dwords_of l) → dwords_of (take (b * 4 - a * 4) (drop (a * 4) l)) ≡ slice a b (dwords_of l)
part_dwords a b l h k =
    let e : b * 4 - a * 4 ≡ (b - a) * 4 = omega arith in
    let z : a + (b - a) ≡ b = omega arith in
    ap (λ (n : ℕ). dwords_of (take n (drop (a * 4) l))) e ∙ take_dwords (b - a) (drop (a * 4) l) ∙ ap (take (b - a)) (drop_dwords a l) ∙ slice_take (dwords_of l) a (b - a) k ∙ ap (λ (n : ℕ). slice a n (dwords_of l)) z

module _ (ds : List ℕ) (at n : ℕ) (h : at < length ds) (e : n ≡ length_of (get_or ds at 0) (drop (suc at) ds)) where
  frame_at : (k : ℕ) → frame (suc k) (drop at ds) ≡ cut n (some n (drop at ds)) (λ l. frame k l)
  frame_at k = frame_cons k (drop at ds) (get_or ds at 0) (drop (suc at) ds) (drop-cons ds at 0 h) ∙ ap (λ (i : ℕ). cut i (some i (drop at ds)) (λ l. frame k l)) (sym e)

  pub frame_zero : n ≡ 0 → frame (length ds) (drop at ds) ≡ zero_length
  frame_zero z = go (length ds) refl
    where
      go : (k : ℕ) → k ≡ length ds → frame k (drop at ds) ≡ zero_length
      go zero q = impossible (omega arith)
      go (suc k) q = frame_at k ∙ ap (λ (i : ℕ). cut i (some n (drop at ds)) (λ l. frame k l)) z

  cut_past : (i : ℕ) (f : List ℕ → Framed) → 0 < i → cut i malformed f ≡ past_end
  cut_past zero f z = impossible (omega arith)
  cut_past (suc i) f z = refl

  cut_next : (i : ℕ) (x r : List ℕ) (f : List ℕ → Framed) → 0 < i → cut i (got x r) f ≡ instruction x (f r)
  cut_next zero x r f z = impossible (omega arith)
  cut_next (suc i) x r f z = refl

  pub frame_past : 0 < n → length ds - at < n → frame (length ds) (drop at ds) ≡ past_end
  frame_past z p = go (length ds) refl
    where
      go : (k : ℕ) → k ≡ length ds → frame k (drop at ds) ≡ past_end
      go zero q = impossible (omega arith)
      go (suc k) q = frame_at k ∙ ap (λ (g : Got (List ℕ)). cut n g (λ l. frame k l)) (some_short n ds at (omega arith) (omega arith)) ∙ cut_past n (λ l. frame k l) z

  pub frame_next : 0 < n → n ≤ length ds - at → frame (length ds) (drop at ds) ≡ instruction (slice at (at + n) ds) (frame (length ds) (drop (at + n) ds))
  frame_next z p = go (length ds) refl
    where
      go : (k : ℕ) → k ≡ length ds → frame k (drop at ds) ≡ instruction (slice at (at + n) ds) (frame k (drop (at + n) ds))
      go zero q = impossible (omega arith)
      go (suc k) q =
          frame_at k ∙ ap (λ (g : Got (List ℕ)). cut n g (λ l. frame k l)) (some_whole n ds at (omega arith)) ∙ cut_next n (take n (drop at ds)) (drop (at + n) ds) (λ l. frame k l) z ∙
          (λ i. instruction (slice_take ds at n (omega arith) i) (frame_more k (drop (at + n) ds) (simp length-drop (omega arith)) i))
