-- The chain that a row tells.
use Prim.Native.Nat.{ℕ}
use mathlib.Core.Path.{◌≡◌, refl, sym, subst}
use mathlib.Core.List.{List}
use native.Mathlib.Omega.{arith}
use lib.ListN.{length}
use Rattle.std.specs.Prelude.{Some}
use Rattle.format.specs.Encoder.{chain_of}
use Rattle.instruction_deep.specs.Walks.{Counts, are, Unchained}
use Rattle.instruction_walk.specs.Short.{chain_in, Linked}
use Rattle.instruction_deep.proofs.Chains.{chain_fits}

-- a row without a chain
pub unlinked : (q : List ℕ) → Unchained q 0 → Counts (Linked q) (length (chain_in q)) (Some 0)
unfolding chain_of
unlinked q u =
    let l : Linked q = rw (u.bits_are, u.no_first, u.no_second, u.no_third) (chain_fits 0 0 0 0 (omega arith) (refl, refl, refl)) in
    let n : length (chain_in q) ≡ 0 = rw u.bits_are refl in
    subst (λ (k : ℕ). Counts (Linked q) k (Some 0)) (sym n) (are (omega arith) l)
