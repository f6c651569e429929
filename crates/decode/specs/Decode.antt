-- What reading a chunk answers, and what it leaves in the pools.
use Rattle.std.specs.Prelude.{ℕ, ◌%◌, ◌≤◌, ◌≡◌, List, true, length, get_or, Result}
use Rattle.format.specs.Rows.{instruction_rows, parts_words, parts_table, all_parts}
use Rattle.format.specs.Refusals.{Outcome, answer, after, decode, Pools, pools_after}
use Rattle.format.specs.declared.Accepted.{Accepted}
use Rattle.format.specs.declared.Refusal.{Refusal}
use Rattle.format.specs.Dwords.{dwords_of}
use Rattle.header.specs.Header.{has_room}

-- a chunk whose header has passed, and for which pools of so many words have room
pub record Entered (chunk : List ℕ) (version is os ws : ℕ) : Type 0 where
  pub header_fits : 8 ≤ length chunk
  pub whole : length chunk % 4 ≡ 0
  pub short : length chunk ≤ 1_048_576
  pub version_is : version ≡ get_or (dwords_of chunk) 0 0
  pub roomy : has_room (length chunk) is os ws ≡ true

-- the answer of an outcome, and what each pool holds afterwards
pub record Ends (o : Outcome) (is os ws : List ℕ) (a : Result Accepted Refusal) (is' os' ws' : List ℕ) : Type 0 where
  pub answered : a ≡ answer o
  pub instructions : is' ≡ after (instruction_rows 8 0 0) o is
  pub operands : os' ≡ after (λ l. parts_table 0 0 (all_parts l)) o os
  pub words : ws' ≡ after (λ l. parts_words (all_parts l)) o ws

-- the pools as they are lent
abbrev pub lent : List ℕ → List ℕ → List ℕ → Pools
lent is os ws = record { instructions = is; operands = os; words = ws }

-- what reading a chunk answers, and what it leaves in each pool
pub record Decoded (edition four : ℕ) (chunk is os ws : List ℕ) (a : Result Accepted Refusal) (is' os' ws' : List ℕ) : Type 0 where
  pub answered : a ≡ answer (decode edition four chunk (lent is os ws))
  pub instructions : is' ≡ (pools_after (decode edition four chunk (lent is os ws)) (lent is os ws)).instructions
  pub operands : os' ≡ (pools_after (decode edition four chunk (lent is os ws)) (lent is os ws)).operands
  pub words : ws' ≡ (pools_after (decode edition four chunk (lent is os ws)) (lent is os ws)).words
