-- Whether a header may have a version token, by the checks of a chunk without instructions.
use Prim.Native.Nat.{ℕ, ◌<◌, ◌≤◌}
use mathlib.Core.Path.{◌≡◌, refl, sym, ap, ◌∙◌}
use mathlib.Core.Bool.{false}
use mathlib.Core.Option.{Option, none as nothing, some as just}
use lib.ListN.{drop}
use borrow.Author.Tests.{lt-ltb, le-ltb}
use Rattle.format.specs.declared.Refusal.{Refusal}
use Rattle.format.specs.Refusals.{SHEX, first_of, header_tests}
use Rattle.format.specs.Counts.{within}
use Rattle.std.specs.Prelude.{is_ok}
use Rattle.header.specs.Header.{checked, version_of}
use Rattle.reading.specs.Confirm.{untold}

pub no_edition : (e v : ℕ) → 3 < e → false ≡ untold (first_of (header_tests e SHEX 8 v 2))
unfolding first_of
no_edition e v h = rw (lt-ltb 3 e h)

-- the checks before the version's pass
module _ (e v : ℕ) (h : e ≤ 3) where
  by_version : first_of (header_tests e SHEX 8 v 2) ≡ first_of (drop 5 (header_tests 0 SHEX 8 v 2))
  unfolding first_of within
  by_version = rw (le-ltb 3 e h)

  alike : (x : Option Refusal) → is_ok (checked x v) ≡ untold x
  alike nothing = refl
  alike (just r) = refl

  pub version_told : is_ok (version_of 8 v 2) ≡ untold (first_of (header_tests e SHEX 8 v 2))
  unfolding version_of
  version_told = alike (first_of (drop 5 (header_tests 0 SHEX 8 v 2))) ∙ ap untold (sym by_version)
