-- The second pass over a stream: what is still to be written, from a place on.
use Rattle.std.specs.Prelude.{ℕ, ◌+◌, ◌*◌, ◌≤◌, ◌≡◌, List, Bool, length, drop}
use Rattle.std.proofs.Math.Option.{none}
use Rattle.format.specs.Framing.{Framed, frame}
use Rattle.format.specs.Instructions.{Instruction}
use Rattle.format.specs.Rows.{instruction_rows, parts_rows, parts_words, parts_table, all_parts}
use Rattle.format.specs.Refusals.{first_pass, second_pass, readings}
use Rattle.operand_rows.specs.Writes.{Over}
use Rattle.stream_write.specs.declared.Mark.{Mark}

-- past the header
abbrev pub start : Mark
start = record { at = 2; instructions = 0; operands = 0; words = 0 }

module _ (c : ℕ) (m : Bool) (ds : List ℕ) where
  -- the stream from a place on
  abbrev pub stream : ℕ → Framed
  stream at = frame (length ds) (drop at ds)

  -- and what is read of it
  abbrev pub rest : ℕ → List Instruction
  rest at = readings c m (stream at)

  -- the stream from a mark on is accepted, and there is room for it in pools of so many words
  pub record Writing (s : Mark) (is os ws : ℕ) : Type 0 where
    pub within : s.at ≤ length ds
    pub few : length ds ≤ 262_144
    pub counted : s.instructions ≤ s.at
    pub fits : s.operands + s.words ≤ s.at
    pub first : first_pass c m s.at (stream s.at) ≡ none
    pub second : second_pass c m s.at (stream s.at) ≡ none
    pub for_rows : 16 * (s.instructions + length (rest s.at)) ≤ is
    pub for_operands : 16 * (s.operands + parts_rows (all_parts (rest s.at))) ≤ os
    pub for_words : s.words + length (parts_words (all_parts (rest s.at))) ≤ ws

  -- its rows and words stand in each pool from the mark on
  pub record Left (s : Mark) (is os ws is' os' ws' : List ℕ) : Type 0 where
    pub rows_put : Over (16 * s.instructions) (instruction_rows (4 * s.at) s.operands s.words (rest s.at)) is is'
    pub operands_put : Over (16 * s.operands) (parts_table s.operands s.words (all_parts (rest s.at))) os os'
    pub words_put : Over s.words (parts_words (all_parts (rest s.at))) ws ws'

  -- what is left at a later mark completes what was left at an earlier one
  abbrev pub Toward : Mark → List ℕ → List ℕ → List ℕ → Mark → List ℕ → List ℕ → List ℕ → Type 0
  Toward s is os ws t is₁ os₁ ws₁ = (x y z : List ℕ) → Left t is₁ os₁ ws₁ x y z → Left s is os ws x y z

  -- midway: what is left completes the whole, in pools as long as they were
  pub record Midway (is₀ os₀ ws₀ : List ℕ) (s : Mark) (is os ws : List ℕ) : Type 0 where
    pub writing : Writing s (length is) (length os) (length ws)
    pub toward : Toward start is₀ os₀ ws₀ s is os ws
    pub rows_long : length is ≡ length is₀
    pub operands_long : length os ≡ length os₀
    pub words_long : length ws ≡ length ws₀
