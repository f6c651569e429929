-- What walking over the rows of a chunk answers.
use Rattle.std.specs.Prelude.{ℕ, ◌+◌, ◌-◌, ◌*◌, ◌/◌, ◌^◌, ◌<◌, ◌≤◌, ◌≡◌, List, Bool, cond, length, take, drop, leb, Option, Some, None}
use Rattle.std.proofs.Math.Option.{Option as Maybe, none as nothing, some as just}
use Rattle.format.specs.Instructions.{Instruction, dwords, all_dwords}
use Rattle.format.specs.Rows.{parts_rows, parts}
use Rattle.format.specs.Refusals.{Rows}
use Rattle.format.specs.Encoder.{at}
use Rattle.instruction_deep.specs.Confirm.{confirm_instruction}
use Rattle.reading.specs.Confirm.{confirm_all}
use Rattle.reading.specs.declared.Walk.{Walk}

-- a version token, counts, and the pools as they are lent
abbrev pub lent : ℕ → ℕ → ℕ → ℕ → List ℕ → List ℕ → List ℕ → Rows
lent version i o w is os ws = record { version = version; instructions = i; operands = o; words = w; pools = record { instructions = is; operands = os; words = ws } }

-- the dwords of a chunk, if there is one
abbrev pub read_of : Maybe (List ℕ) → Option ℕ
read_of nothing = None
read_of (just chunk) = Some (length chunk / 4)

-- the dwords of a chunk up to an instruction, and those from it on
abbrev pub dwords_from : ℕ → Maybe (List Instruction) → Option ℕ
dwords_from at nothing = None
dwords_from at (just l) = Some (at + length (all_dwords l))

-- the walk past an instruction of n words
abbrev pub past : Walk → ℕ → Instruction → Walk
past s n i = record { at = s.at + length (dwords i); row = s.row + parts_rows (parts i); word = s.word + n }

abbrev pub past_if : Walk → ℕ → Maybe Instruction → Option Walk
past_if s n nothing = None
past_if s n (just i) = Some (past s n i)

-- the walk past the instruction whose row is q, which is confirmed from as many words as that says
abbrev pub next_walk : ℕ → Bool → List ℕ → List ℕ → List ℕ → Walk → Option Walk
next_walk ceiling model51 q rs ws s =
    let n = at 15 q in
    cond (leb n (length ws - s.word)) (past_if s n (confirm_instruction ceiling model51 q (4 * s.at) (drop (16 * s.row) rs) (take n (drop s.word ws)) s.row s.word)) None

module _ (ceiling : ℕ) (model51 : Bool) (is rs ws : List ℕ) where
  -- what is confirmed from instruction k on, up to which a walk has come
  abbrev pub onward : ℕ → Walk → Maybe (List Instruction)
  onward k s = confirm_all ceiling model51 (length is / 16 - k) (4 * s.at) (drop (16 * k) is) (drop (16 * s.row) rs) (drop s.word ws) s.row s.word

  -- what the answer is, from there on: none, if it is past the first 1,048,576 bytes, since no chunk is so long
  abbrev pub answer : ℕ → Walk → Option ℕ
  answer k s = cond (leb s.at 262_144) (dwords_from s.at (onward k s)) None

  -- a walk so far: the answer from here is the whole's. It is not far on, since the last row told its place and its size in 32 bits each
  pub record Walking (k : ℕ) (s : Walk) (whole : Option ℕ) : Type 0 where
    pub at_most : s.at < 2 ^ 33
    pub row_within : 16 * s.row ≤ length rs
    pub word_within : s.word ≤ length ws
    pub same : answer k s ≡ whole
