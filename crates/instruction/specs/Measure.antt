-- What measuring tells of a reading: its rows and words, and whether it is exact.
use Rattle.std.specs.Prelude.{ℕ, ◌+◌, ◌-◌, ◌≤◌, ◌≡◌, List, ◌++◌, Bool, true, length, drop, replicate, Option, Some, None, Result, Ok, Err}
use Rattle.std.proofs.Math.Option.{some}
use Rattle.std.proofs.Math.Seq.{slice}
use Rattle.format.specs.Framing.{code}
use Rattle.format.specs.Counts.{operand_count}
use Rattle.format.specs.Declarations.{Item, o, layout}
use Rattle.format.specs.Instructions.{Reading, ok, miscounted, inexact, read_head, split, judged}
use Rattle.format.specs.Rows.{parts_rows, parts_words, parts}
use Rattle.layouts.specs.declared.Shape.{Shape}
use Rattle.operand.specs.declared.Measured.{Measured}
use Rattle.instruction_fields.specs.Fields.{Sum, off, sum, add, sum_of, headed}
use Rattle.tokens.specs.Chains.{ends as endsOf}
use Rattle.instruction.specs.declared.Needs.{Needs}
use Rattle.instruction.specs.declared.Fault.{Fault}
use Rattle.instruction.specs.declared.Fault.TheVariants.{Miscounted, Inexact}
use Rattle.instruction.specs.declared.Operands.{Operands}
use Rattle.instruction.specs.declared.Surplus.{Surplus}
use Rattle.instruction.specs.declared.Body.{Body}

-- an instruction that needs r rows and w words
abbrev pub fine : ℕ → ℕ → Result Needs Fault
fine r w = Ok (record { rows = r; words = w })

-- what measuring an instruction answers
abbrev pub verdict : Reading → Result Needs Fault
verdict (ok i) = fine (parts_rows (parts i)) (length (parts_words (parts i)))
verdict miscounted = Err Miscounted
verdict inexact = Err Inexact

-- k operands stand between two places, whatever items follow
pub record Ran (k : ℕ) (ds : List ℕ) (from : ℕ) (p : Operands) : Type 0 where
  pub begun : from ≤ p.end
  pub within : p.end ≤ length ds
  pub fits : p.rows + p.words ≤ p.end - from
  pub adds : (m : Bool) (l : List Item) → sum_of m (replicate k o ++ l) (drop from ds) ≡ add p.rows p.words p.exact (sum_of m l (drop p.end ds))

-- or one is malformed
abbrev pub Run : ℕ → List ℕ → ℕ → Option Operands → Type 0
Run k ds from None = (m : Bool) (l : List Item) → sum_of m (replicate k o ++ l) (drop from ds) ≡ off
Run k ds from (Some p) = Ran k ds from p

abbrev pub body_of : Sum → Option Body
body_of off = None
body_of (sum r w e) = Some (record { rows = r; words = w; exact = e })

-- what measuring answers of an instruction with the token t, by its layout
abbrev pub by_layout : Bool → ℕ → List ℕ → Result Needs Fault
by_layout m t ds = verdict (judged (layout (code t)) (split m (layout (code t)) ds))

-- and in either model
abbrev pub Judged : ℕ → List ℕ → Result Needs Fault → Type 0
Judged t ds r = (m : Bool) → r ≡ by_layout m t ds

-- what follows the token t before the parts of its instruction ends at a place, and it and the token are exact
pub record Begins (t : ℕ) (ds : List ℕ) (at : ℕ) : Type 0 where
  pub ends : Some at ≡ endsOf 1 (read_head (layout (code t)) t (drop 1 ds))
  pub exact : true ≡ headed (layout (code t)) t (slice 1 at ds) (length ds - at)

-- so it is if the code has a count
abbrev pub Begun : ℕ → List ℕ → ℕ → Type 0
Begun t ds at = (n : ℕ) → operand_count (code t) ≡ some n → Begins t ds at

-- an operand that was measured, by what it has beside one row and its words
abbrev pub surplus : Option Measured → Option Surplus
surplus None = None
surplus (Some m) = Some (record { rows = m.rows - 1; skipped = m.dwords - m.words - m.rows; dwords = m.dwords; exact = m.exact })

-- k operands, each a row and words, stand between two places, if the second is not past the end
pub record Behind (k : ℕ) (ds : List ℕ) (at end : ℕ) : Type 0 where
  pub few : end ≤ at + 5
  pub run : end ≤ length ds → Ran k ds at (record { rows = k; words = end - at - k; end = end; exact = true })

-- an instruction of the token t and the shape x is fine if it has n dwords, in the model
pub record Quick (m : Bool) (t : ℕ) (x : Shape) (ds : List ℕ) (n : ℕ) : Type 0 where
  pub fits : n ≡ length ds → 1 + x.operands ≤ n
  pub fine : n ≡ length ds → fine x.operands (n - 1 - x.operands) ≡ by_layout m t ds
