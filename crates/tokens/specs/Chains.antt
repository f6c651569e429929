-- Where a chain of extension dwords ends.
use Rattle.std.specs.Prelude.{ℕ, ◌+◌, List, length, Option, Some, None}
use Rattle.format.specs.Dwords.{Got, malformed, got}

-- a chain that was read from a place on ends so many dwords further
abbrev pub ends : ℕ → Got (List ℕ) → Option ℕ
ends at malformed = None
ends at (got e r) = Some (at + length e)
