-- What the calls answer, in numbers.
use Rattle.std.specs.Prelude.{ℕ, ◌≡◌, List, length, get_or, Result, Ok, Err}
use Rattle.format.specs.Encoder.{encode, encode_answer, output_after}
use Rattle.format.specs.Refusals.{number, place, answer, decode, pools_after}
use Rattle.format.specs.declared.Accepted.{Accepted}
use Rattle.format.specs.declared.Refusal.{Refusal}
use Rattle.decode.specs.Decode.{lent}
use Rattle.reading.specs.Walks as rows
use Rattle.shex.specs.declared.Reading.{Reading}
use Rattle.shex.specs.declared.Writing.{Writing}
use Rattle.shex.specs.declared.Span.{Span}
use Rattle.shex.specs.declared.Showing.{Showing}
use Rattle.shex.specs.declared.Sides.{Sides}
use Rattle.format.specs.declared.Shown.{Shown}
use Rattle.format.specs.declared.Shown.TheVariants.{Factor, Count, Nothing}
use Rattle.format.specs.Calls.{part_of, part_start, shows, offsets}

-- a reading: 0 for an accepted chunk, whose place is 0; the counts of a refusal are 0
abbrev pub in_numbers : Result Accepted Refusal → Reading
in_numbers (Ok a) = record { number = 0; place = 0; version = a.version; instructions = a.instructions; operands = a.operands; words = a.words }
in_numbers (Err r) = record { number = number r; place = place r; version = 0; instructions = 0; operands = 0; words = 0 }

-- what reading a chunk tells, and what it leaves in each pool
pub record Read (edition four : ℕ) (chunk is os ws : List ℕ) (r : Reading) (is' os' ws' : List ℕ) : Type 0 where
  pub told : r ≡ in_numbers (answer (decode edition four chunk (lent is os ws)))
  pub instructions : is' ≡ (pools_after (decode edition four chunk (lent is os ws)) (lent is os ws)).instructions
  pub operands : os' ≡ (pools_after (decode edition four chunk (lent is os ws)) (lent is os ws)).operands
  pub words : ws' ≡ (pools_after (decode edition four chunk (lent is os ws)) (lent is os ws)).words

-- a writing: 0 and the chunk's size; the size of a refusal is 0
abbrev pub size_in_numbers : Result ℕ Refusal → Writing
size_in_numbers (Ok n) = record { number = 0; size = n }
size_in_numbers (Err r) = record { number = number r; size = 0 }

-- what encoding rows tells, and what it leaves in the output
pub record Wrote (edition version i o w : ℕ) (is os ws out : List ℕ) (r : Writing) (out' : List ℕ) : Type 0 where
  pub told : r ≡ size_in_numbers (encode_answer (encode edition (rows.lent version i o w is os ws) (length out)))
  pub output : out' ≡ output_after (encode edition (rows.lent version i o w is os ws) (length out)) out

-- where a row's words are: the start of their part, and its length
abbrev pub lies : ℕ → ℕ → List ℕ → List ℕ → Span
lies row count pool words = record { start = part_start row count pool words; length = length (part_of row count pool words) }

-- what a part shows: a factor is told by its dword, so that a NaN keeps its own bits
unfoldable pub shown_in_numbers : Shown → List ℕ → Showing
shown_in_numbers (Factor f) part = record { kind = 2; dword = get_or part 0 0 }
shown_in_numbers (Count x) part = record { kind = 1; dword = x }
shown_in_numbers Nothing part = record { kind = 0; dword = 0 }

abbrev pub showing : ℕ → ℕ → List ℕ → List ℕ → Showing
showing row count pool words = shown_in_numbers (shows row count pool words) (part_of row count pool words)

-- u, v and w
abbrev pub sides : ℕ → ℕ → List ℕ → Sides
sides row count pool = record { u = (offsets row count pool).u; v = (offsets row count pool).v; w = (offsets row count pool).w }
