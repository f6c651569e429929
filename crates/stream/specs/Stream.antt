-- What the first pass over a chunk's stream tells.
use Rattle.std.specs.Prelude.{ℕ, ◌+◌, ◌*◌, ◌<◌, ◌≤◌, ◌≡◌, List, Bool, length, drop, Option as CodeOption, Some, None, Result, Ok, Err, IfSome}
use Rattle.std.specs.Option.{option_or}
use Rattle.std.proofs.Math.Option.{Option, none, some}
use Rattle.format.specs.declared.Refusal.{Refusal}
use Rattle.format.specs.declared.Refusal.TheVariants.{Layout}
use Rattle.format.specs.Framing.{Framed, frame}
use Rattle.format.specs.Refusals.{Outcome, refused, accepted, unless, first_pass, second_pass, readings}
use Rattle.format.specs.Rows.{parts_rows, parts_words, all_parts}
use Rattle.stream.specs.declared.Needs.{Needs}
use Rattle.stream.specs.declared.Walk.{Walk}

-- both passes over a chunk's dwords, under a ceiling, in model 5.1 or not
unfoldable pub passes : ℕ → Bool → List ℕ → Outcome
passes c m ds = let f = frame (length ds) (drop 2 ds) in unless (first_pass c m 2 f) (unless (second_pass c m 2 f) (accepted 0 (readings c m f)))

-- a stream of i instructions that needs o operand rows and w words
abbrev pub needs : ℕ → ℕ → ℕ → Result Needs Refusal
needs i o w = Ok (record { instructions = i; operands = o; words = w })

abbrev pub measured : Outcome → Result Needs Refusal
measured (refused r) = Err r
measured (accepted v l) = needs (length l) (parts_rows (all_parts l)) (length (parts_words (all_parts l)))

-- what both passes tell, with totals
abbrev pub told : Option Refusal → Option Refusal → ℕ → ℕ → ℕ → Result Needs Refusal
told (some r) b i o w = Err r
told none (some r) i o w = Err r
told none none i o w = needs i o w

-- a place of 14 that was met before, or what is met from here on
abbrev pub since : CodeOption ℕ → Option Refusal → Option Refusal
since None b = b
since (Some k) b = some (Layout k)

-- what is told of the rest of a stream, after a walk so far
unfoldable pub onward : ℕ → Bool → Framed → Walk → Result Needs Refusal
onward c m f s =
    told (first_pass c m s.at f) (since s.late (second_pass c m s.at f)) (s.instructions + length (readings c m f)) (s.operands + parts_rows (all_parts (readings c m f)))
    (s.words + length (parts_words (all_parts (readings c m f))))

-- the walk past an instruction that is not exact, up to a place: it goes on, and keeps the first place of 14
abbrev pub noted : Walk → ℕ → Walk
noted s to = record { at = to; instructions = s.instructions; operands = s.operands; words = s.words; late = option_or s.late (Some (4 * s.at)) }

-- a walk so far: the answer from here is the whole's
pub record Walking (c : ℕ) (m : Bool) (ds : List ℕ) (s : Walk) : Type 0 where
  pub begun : 2 ≤ s.at
  pub within : s.at ≤ length ds
  pub counted : s.instructions ≤ s.at
  pub fits : s.operands + s.words ≤ s.at
  pub early : IfSome s.late (λ k. k ≤ 4 * s.at)
  pub same : onward c m (frame (length ds) (drop s.at ds)) s ≡ measured (passes c m ds)

-- the walk past the next instruction, or the refusal
abbrev pub Steps : ℕ → Bool → List ℕ → ℕ → Result Walk Refusal → Type 0
Steps c m ds at (Ok s) = (at < s.at) × Walking c m ds s
Steps c m ds at (Err r) = Err r ≡ measured (passes c m ds)
