-- Laws of a chain of extension dwords.
use Prim.Native.Nat.{ℕ, suc, ◌+◌, ◌-◌, ◌<◌, ◌≤◌}
use mathlib.Core.Path.{◌≡◌, refl, sym, ◌∙◌, ap}
use mathlib.Core.Bool.{Bool, true, false}
use mathlib.Core.List.{List, [], ◌∷◌}
use Rattle.std.specs.Prelude.{Some, None}
use native.Mathlib.Numerals.{add-one}
use native.Mathlib.Omega.{arith}
use lib.ListN.{length, drop, get_or, drop_of_length-le}
use lib.Seq.{drop-cons, slice, slice_empty, slice-cons, length-slice}
use Rattle.format.specs.Dwords.{follows, Got, malformed, got, then, give, chain}
use Rattle.format.specs.Operands.{modifiers, exact_extension}
use Rattle.tokens.specs.Chains.{ends}

none_first : (at : ℕ) (l : List ℕ) → Some at ≡ ends at (chain false l)
unfolding chain
none_first at [] = ap Some (omega arith)
none_first at (x ∷ l) = ap Some (omega arith)

pub not_begun : (ds : List ℕ) (from : ℕ) {first : Bool} → first ≡ false → Some from ≡ ends from (chain first (drop from ds))
not_begun ds from e = rw e (none_first from (drop from ds))

off : (ds : List ℕ) (at : ℕ) → length ds ≤ at → None ≡ ends at (chain true (drop at ds))
unfolding chain
off ds at h = rw (drop_of_length-le ds h)

longer : (at x : ℕ) (c : Got (List ℕ)) → ends at (then c (λ l. give (x ∷ l))) ≡ ends (at + 1) c
longer at x malformed = refl
longer at x (got e r) = ap Some (omega arith)

more : (ds : List ℕ) (at : ℕ) → at < length ds → ends at (chain true (drop at ds)) ≡ ends (at + 1) (chain (follows (get_or ds at 0)) (drop (at + 1) ds))
unfolding chain
more ds at h = rw (add-one at, drop-cons ds at 0 h) (longer at (get_or ds at 0) (chain (follows (get_or ds at 0)) (drop (suc at) ds)) ∙ rw (add-one at))

-- what holds at the loop's head: the chain from here ends where the whole does
pub record Going (ds : List ℕ) (from at : ℕ) (first : Bool) : Type 0 where
  pub same : ends from (chain first (drop from ds)) ≡ ends at (chain true (drop at ds))

pub begun : (ds : List ℕ) (from : ℕ) {first : Bool} → first ≡ true → Going ds from from first
begun ds from e = record { same = ap (λ (b : Bool). ends from (chain b (drop from ds))) e }

module _ {ds : List ℕ} {from at : ℕ} {first : Bool} (g : Going ds from at first) where
  pub ran_off : length ds ≤ at → None ≡ ends from (chain first (drop from ds))
  ran_off h = off ds at h ∙ sym g.same

  module _ (h : at < length ds) {x : ℕ} (ex : x ≡ get_or ds at 0) {m : Bool} (em : m ≡ follows x) where
    step : {b : Bool} → m ≡ b → ends from (chain first (drop from ds)) ≡ ends (at + 1) (chain b (drop (at + 1) ds))
    step e = g.same ∙ more ds at h ∙ ap (λ (b : Bool). ends (at + 1) (chain b (drop (at + 1) ds))) (ap follows (sym ex) ∙ sym em ∙ e)

    pub goes_on : m ≡ true → Going ds from (at + 1) first
    goes_on e = record { same = step e }

    pub ended : m ≡ false → Some (at + 1) ≡ ends from (chain first (drop from ds))
    ended e = none_first (at + 1) (drop (at + 1) ds) ∙ sym (step e)

-- extensions between two places
module _ (ds : List ℕ) (from to : ℕ) where
  none : from ≡ to → slice from to ds ≡ []
  none e = ap (λ (k : ℕ). slice k to ds) e ∙ slice_empty to ds

  module _ (h : from ≤ to) (k : to ≤ length ds) where
    pub some_modifiers : (from ≡ to → ⊥) → (x m : ℕ) → x ≡ get_or ds from 0 → m ≡ modifiers (x ∷ []) → m ≡ modifiers (slice from to ds)
    unfolding modifiers
    some_modifiers e x m ex em = rw (slice-cons from to ds 0 (omega arith) k, ← ex) em

    several : (x : ℕ) (l : List ℕ) → (length l ≡ 0 → ⊥) → false ≡ exact_extension (x ∷ l)
    unfolding exact_extension
    several x [] z = absurd (z refl)
    several x (y ∷ l) z = refl

    pub more_extensions : (from ≡ to → ⊥) → (to - from ≡ 1 → ⊥) → false ≡ exact_extension (slice from to ds)
    more_extensions e f =
        let q : length (slice (suc from) to ds) ≡ to - suc from = length-slice (suc from) to ds k in
        several (get_or ds from 0) (slice (suc from) to ds) (λ z. omega arith) ∙ ap exact_extension (sym (slice-cons from to ds 0 (omega arith) k))
