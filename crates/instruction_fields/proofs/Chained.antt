-- Extensions of an instruction, one after the other.
use Prim.Native.Nat.{ℕ, suc, ◌+◌, ◌*◌, ◌%◌, ◌^◌, ◌≤◌, ◌<◌}
use mathlib.Core.Path.{◌≡◌, refl, sym, ap, ◌∙◌}
use mathlib.Core.List.{List}
use mathlib.Core.Bool.{Bool, true, false, ◌&&◌}
use lib.ListN.{length, get_or}
use lib.Seq.{slice, slice-cons, slice_empty}
use lib.Dec.{ltb, eqb}
use native.Mathlib.Omega.{arith}
use borrow.Author.Tests.{lt-ltb, le-ltb, eq-eqb, ne_eqb}
use Rattle.format.specs.Dwords.{bits}
use Rattle.format.specs.Counts.{extension_type, lower_bits, rising}

-- the types up to a place are those that they should be, the last being so
pub record Rose (ds : List ℕ) (from to at last : ℕ) : Type 0 where
  pub begun : from ≤ at
  pub within : at ≤ to
  pub ends : to ≤ length ds
  pub same : rising 0 (slice from to ds) ≡ rising last (slice at to ds)

pub begin : (ds : List ℕ) (from to : ℕ) → from ≤ to → to ≤ length ds → Rose ds from to from 0
begin ds from to a b = record { begun = omega arith; within = a; ends = b; same = refl }

module _ {ds : List ℕ} {from to at last : ℕ} (q : Rose ds from to at last) (h : at < to) (e : ℕ) (ee : e ≡ get_or ds at 0) where
  first : rising last (slice at to ds) ≡ (ltb last (extension_type e) && ltb (extension_type e) 4 && eqb e (lower_bits e + bits 31 31 e * 2 ^ 31) && rising (extension_type e) (slice (suc at) to ds))
  unfolding rising
  first = rw (slice-cons at to ds 0 h q.ends, ← ee)

  pub not_risen : extension_type e ≤ last → false ≡ rising 0 (slice from to ds)
  not_risen k = sym (q.same ∙ first ∙ rw (le-ltb last (extension_type e) k))

  pub too_high : last < extension_type e → 4 ≤ extension_type e → false ≡ rising 0 (slice from to ds)
  too_high k n = sym (q.same ∙ first ∙ rw (lt-ltb last (extension_type e) k, le-ltb (extension_type e) 4 n))

  pub not_exact : last < extension_type e → extension_type e < 4 → (b : Bool) → b ≡ eqb e (lower_bits e + bits 31 31 e * 2 ^ 31) → b ≡ false → false ≡ rising 0 (slice from to ds)
  not_exact k n b x z = sym (q.same ∙ first ∙ rw (lt-ltb last (extension_type e) k, lt-ltb (extension_type e) 4 n, ← x, z))

  pub rises_on : last < extension_type e → extension_type e < 4 → (b : Bool) → b ≡ eqb e (lower_bits e + bits 31 31 e * 2 ^ 31) → b ≡ true → Rose ds from to (at + 1) (extension_type e)
  rises_on k n b x z =
      let s : at + 1 ≡ suc at = omega arith in
      record { begun = omega (arith, q.begun); within = omega arith; ends = q.ends; same = rw s (q.same ∙ first ∙ rw (lt-ltb last (extension_type e) k, lt-ltb (extension_type e) 4 n, ← x, z)) }

pub risen : {ds : List ℕ} {from to at last : ℕ} → Rose ds from to at last → to ≤ at → true ≡ rising 0 (slice from to ds)
unfolding rising
risen {ds} {from} {to} {at} {last} q h =
    let z : at ≡ to = omega (arith, q.within) in
    sym (q.same ∙ ap (λ (n : ℕ). rising last (slice n to ds)) z ∙ rw (slice_empty to ds))

-- an extension's bits
pub other_type : (e : ℕ) → e < 2 ^ 32 → (extension_type e ≡ 1 → ⊥) → true ≡ eqb e (lower_bits e + bits 31 31 e * 2 ^ 31)
unfolding lower_bits
other_type e h n = rw (ne_eqb (extension_type e) 1 n) (sym (eq-eqb e (e % 2 ^ 31 + bits 31 31 e * 2 ^ 31) (omega arith)))
