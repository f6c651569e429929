-- Where an operand's front stands.
use Rattle.std.specs.Prelude.{ℕ, ◌+◌, ◌<◌, ◌≤◌, ◌≡◌, Bool, ◌&&◌, List, length}
use Rattle.std.proofs.Math.Seq.{slice}
use Rattle.format.specs.Operands.{exact_dword, exact_extension}

-- a front with the dword t stands in front of a place b; x says whether it is exact
pub record Stands (ds : List ℕ) (at t b : ℕ) (x : Bool) : Type 0 where
  pub from : at < b
  pub within : b ≤ length ds
  pub good : x ≡ (exact_dword t && exact_extension (slice (at + 1) b ds))
