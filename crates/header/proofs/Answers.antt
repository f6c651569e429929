-- What a caller learns from the answer of the header's checks.
use Prim.Native.Nat.{ℕ}
use mathlib.Core.Path.{◌≡◌, refl}
use mathlib.Core.List.{List}
use mathlib.Core.Option.{Option, none, some}
use lib.ListN.{get_or}
use Rattle.format.specs.declared.Refusal.{Refusal}
use Rattle.format.specs.Dwords.{dwords_of}
use Rattle.format.specs.Refusals.{header}
use Rattle.format.proofs.Dwords.{impossible}
use Rattle.std.specs.Prelude.{Ok, Err}
use Rattle.header.specs.Header.{checked, header_of}

passed_none : (o : Option Refusal) (w : ℕ) {v : ℕ} → Ok v ≡ checked o w → (o ≡ none) × (v ≡ w)
passed_none none w e = (refl, (cc))
passed_none (some r) w e = impossible (cc)

refused_some : (o : Option Refusal) (w : ℕ) {r : Refusal} → Err r ≡ checked o w → o ≡ some r
refused_some none w e = impossible (cc)
refused_some (some r) w e = cc

module _ (edition four : ℕ) (chunk : List ℕ) where
  pub passed : {v : ℕ} → Ok v ≡ header_of edition four chunk → (header edition four chunk ≡ none) × (v ≡ get_or (dwords_of chunk) 0 0)
  unfolding header_of
  passed e = passed_none _ _ e

  pub refused : {r : Refusal} → Err r ≡ header_of edition four chunk → header edition four chunk ≡ some r
  unfolding header_of
  refused e = refused_some _ _ e
