-- Extensions of an instruction, by their types.
use Prim.Native.Nat.{ℕ, zero, suc, ◌+◌, ◌-◌, ◌*◌, ◌^◌, ◌≤◌, ◌<◌}
use mathlib.Core.Path.{◌≡◌, refl, sym, ap, ◌∙◌}
use mathlib.Core.List.{List}
use mathlib.Core.Bool.{Bool, true, false, cond, ◌&&◌}
use lib.ListN.{length, get_or}
use lib.Seq.{slice, slice-cons, slice_empty}
use lib.Dec.{ltb, eqb}
use native.Mathlib.Omega.{arith}
use borrow.Author.Tests.{eq-eqb, ne_eqb, ltb-true}
use Rattle.format.specs.Dwords.{bits}
use Rattle.format.specs.Counts.{extension_type, lower_bits, rising, of_type, type_bits}
use Rattle.format.proofs.Dwords.{impossible}
use Rattle.instruction_write.specs.Writes.{type_bit}

-- none of a type stands before a place
module _ (ds : List ℕ) (from to k at : ℕ) (q : of_type k (slice from to ds) ≡ of_type k (slice at to ds)) (h : at < to) (l : to ≤ length ds) (e : ℕ) (ee : e ≡ get_or ds at 0) where
  first : of_type k (slice at to ds) ≡ cond (eqb (extension_type e) k) e (of_type k (slice (suc at) to ds))
  unfolding of_type
  first = rw (slice-cons at to ds 0 h l, ← ee)

  pub found : extension_type e ≡ k → e ≡ of_type k (slice from to ds)
  found z = sym (q ∙ first ∙ rw (eq-eqb (extension_type e) k z))

  pub seeks_on : (extension_type e ≡ k → ⊥) → of_type k (slice from to ds) ≡ of_type k (slice (at + 1) to ds)
  seeks_on z = let s : at + 1 ≡ suc at = omega arith in rw s (q ∙ first ∙ rw (ne_eqb (extension_type e) k z))

pub not_found : (ds : List ℕ) (from to k at : ℕ) → at ≡ to → of_type k (slice from to ds) ≡ of_type k (slice at to ds) → 0 ≡ of_type k (slice from to ds)
unfolding of_type
not_found ds from to k at e q = sym (q ∙ rw (e, slice_empty to ds))

-- bits of the types before a place, which are no more than last
pub record Summed (ds : List ℕ) (from to at sum : ℕ) : Type 0 where
  pub last : ℕ
  pub within : at ≤ to
  pub ends : to ≤ length ds
  pub rises : rising last (slice at to ds) ≡ true
  pub low : last < 4
  pub below : sum < 2 ^ last
  pub same : type_bits (slice from to ds) ≡ sum + type_bits (slice at to ds)

and_left : (a b : Bool) → (a && b) ≡ true → a ≡ true
and_left true b e = refl
and_left false b e = e

and_right : (a b : Bool) → (a && b) ≡ true → b ≡ true
and_right true b e = e
and_right false b e = impossible (cc)

is_less : (a b : ℕ) → ltb a b ≡ true → a < b
is_less a b e = ltb-true a b e

grows : (l k s : ℕ) → l < k → k < 4 → s < 2 ^ l → s + type_bit k < 2 ^ k
grows l zero s a b c = impossible (omega arith)
grows zero (suc zero) s a b c = omega arith
grows (suc l) (suc zero) s a b c = impossible (omega arith)
grows zero (suc (suc zero)) s a b c = omega arith
grows (suc zero) (suc (suc zero)) s a b c = omega arith
grows (suc (suc l)) (suc (suc zero)) s a b c = impossible (omega arith)
grows zero (suc (suc (suc zero))) s a b c = omega arith
grows (suc zero) (suc (suc (suc zero))) s a b c = omega arith
grows (suc (suc zero)) (suc (suc (suc zero))) s a b c = omega arith
grows (suc (suc (suc l))) (suc (suc (suc zero))) s a b c = impossible (omega arith)
grows l (suc (suc (suc (suc k)))) s a b c = impossible (omega arith)

most : (x k : ℕ) → k < 4 → x < 2 ^ k → x < 8
most x zero a b = omega arith
most x (suc zero) a b = omega arith
most x (suc (suc zero)) a b = omega arith
most x (suc (suc (suc zero))) a b = omega arith
most x (suc (suc (suc (suc k)))) a b = impossible (omega arith)

module _ {ds : List ℕ} {from to at sum : ℕ} (q : Summed ds from to at sum) (h : at < to) (e : ℕ) (ee : e ≡ get_or ds at 0) where
  record Next : Type 0 where
    above : q.last < extension_type e
    small : extension_type e < 4
    on : rising (extension_type e) (slice (suc at) to ds) ≡ true

  next : Next
  unfolding rising
  next =
      let r : (ltb q.last (extension_type e) && ltb (extension_type e) 4 && eqb e (lower_bits e + bits 31 31 e * 2 ^ 31) && rising (extension_type e) (slice (suc at) to ds)) ≡ true = rw (slice-cons at to ds 0 h q.ends, ← ee) at q.rises in
      let a = and_left (ltb q.last (extension_type e) && ltb (extension_type e) 4 && eqb e (lower_bits e + bits 31 31 e * 2 ^ 31)) _ r in
      let b = and_left (ltb q.last (extension_type e) && ltb (extension_type e) 4) _ a in
      record {
        above = is_less _ _ (and_left (ltb q.last (extension_type e)) _ b);
        small = is_less _ _ (and_right (ltb q.last (extension_type e)) _ b);
        on = and_right (ltb q.last (extension_type e) && ltb (extension_type e) 4 && eqb e (lower_bits e + bits 31 31 e * 2 ^ 31)) _ r;
      }

  pub type_range : (0 < extension_type e) × (extension_type e < 4)
  type_range = (omega (arith, next.above), next.small)

  pub sum_small : sum + type_bit (extension_type e) < 8
  sum_small = most (sum + type_bit (extension_type e)) (extension_type e) next.small (grows q.last (extension_type e) sum next.above next.small q.below)

  pub sums_on : (b : ℕ) → b ≡ type_bit (extension_type e) → Summed ds from to (at + 1) (sum + b)
  unfolding type_bits
  sums_on b eb =
      let s : at + 1 ≡ suc at = omega arith in
      let t : sum + (2 ^ (extension_type e - 1) + type_bits (slice (suc at) to ds)) ≡ sum + b + type_bits (slice (suc at) to ds) = omega arith in
      record {
        last = extension_type e;
        within = omega arith;
        ends = q.ends;
        rises = rw s next.on;
        low = next.small;
        below = rw eb (grows q.last (extension_type e) sum next.above next.small q.below);
        same = rw s (q.same ∙ (rw (slice-cons at to ds 0 h q.ends, ← ee) t));
      }

pub summed : {ds : List ℕ} {from to at sum : ℕ} → Summed ds from to at sum → to ≤ at → (sum ≡ type_bits (slice from to ds)) × (sum < 8)
unfolding type_bits
summed {ds} {from} {to} {at} {sum} q h =
    let z : at ≡ to = omega (arith, q.within) in
    let e : type_bits (slice from to ds) ≡ sum + 0 = q.same ∙ ap (λ (n : ℕ). sum + type_bits (slice n to ds)) z ∙ rw (slice_empty to ds) in
    (omega arith, most sum q.last q.low q.below)
