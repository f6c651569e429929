-- What the checks of a chunk's header answer.
use Rattle.std.specs.Prelude.{ℕ, ◌*◌, ◌-◌, ◌/◌, List, Bool, not, ◌||◌, get_or, drop, ltb, Result, Ok, Err}
use Rattle.std.proofs.Math.Option.{Option, none, some}
use Rattle.format.specs.declared.Refusal.{Refusal}
use Rattle.format.specs.Dwords.{dwords_of}
use Rattle.format.specs.Refusals.{SHEX, first_of, header_tests, header}

-- a refusal; or the version token
abbrev pub checked : Option Refusal → ℕ → Result ℕ Refusal
checked none version = Ok version
checked (some r) version = Err r

-- 6 to 9, of the size and the first two dwords
unfoldable pub version_of : ℕ → ℕ → ℕ → Result ℕ Refusal
version_of size version second = checked (first_of (drop 5 (header_tests 0 SHEX size version second))) version

-- 1 to 9
unfoldable pub header_of : ℕ → ℕ → List ℕ → Result ℕ Refusal
header_of edition four chunk = checked (header edition four chunk) (get_or (dwords_of chunk) 0 0)

-- 10: instruction and operand pools of 16M words, a word pool of M, for a chunk of so many bytes
unfoldable pub has_room : ℕ → ℕ → ℕ → ℕ → Bool
has_room size instructions operands words =
    let m = size / 4 - 2 in
    not (ltb instructions (16 * m) || ltb operands (16 * m) || ltb words m)
