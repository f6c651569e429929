-- Emitting the instructions of a chunk, one after the other: what is left to be written, and what the output holds in the end.
use Rattle.std.specs.Prelude.{ℕ, ◌+◌, ◌*◌, ◌/◌, ◌^◌, ◌<◌, ◌≤◌, ◌≡◌, List, Bool, length}
use Rattle.std.proofs.Math.Option.{some as just}
use Rattle.format.specs.Dwords.{bytes_of}
use Rattle.format.specs.Instructions.{Instruction, all_dwords}
use Rattle.output.specs.Puts.{put}
use Rattle.reading.specs.declared.Walk.{Walk}
use Rattle.operand_emit.specs.declared.Place.{Place}
use Rattle.format.specs.Encoder.{chunk_of}
use Rattle.reading.specs.Confirm.{confirm_all}
use Rattle.reading.specs.Walks.{onward}

-- a number of whole rows
abbrev pub WholeRows : ℕ → Type 0
WholeRows n = 16 * (n / 16) ≡ n

-- how far a walk by numbers has come at a place
abbrev pub walked : Place → Walk
walked p = record { at = p.at; row = p.operand / 16; word = p.word }

-- instructions are confirmed from the i-th on, there is room for them, and with them the output is the final one
pub record Left (is rs ws : List ℕ) (i : ℕ) (p : Place) (out final : List ℕ) : Type 0 where
  pub ceiling : ℕ
  pub model51 : Bool
  pub list : List Instruction
  pub whole : WholeRows (length is)
  pub operand_whole : WholeRows p.operand
  pub confirmed : onward ceiling model51 is rs ws i (walked p) ≡ just list
  pub word_within : p.word ≤ length ws
  pub room : 4 * (p.at + length (all_dwords list)) ≤ length out
  pub ends : put (4 * p.at) (bytes_of (all_dwords list)) out ≡ final

pub record Going (is rs ws : List ℕ) (i : ℕ) (p : Place) (out : List ℕ) : Type 0 where
  pub final : List ℕ
  pub left : Left is rs ws i p out final

-- before the first instruction
abbrev pub start : Place
start = record { operand = 0; word = 0; at = 2 }

-- all instructions, to the end
abbrev pub Finished : List ℕ → List ℕ → List ℕ → List ℕ → List ℕ → Type 0
Finished is rs ws out out' = (final : List ℕ) → Left is rs ws 0 start out final → out' ≡ final

-- the instructions of a chunk of so many dwords are confirmed, and there is room for it
pub record Whole (is rs ws : List ℕ) (dwords n ceiling : ℕ) (model51 : Bool) (list : List Instruction) : Type 0 where
  pub whole : WholeRows (length is)
  pub confirmed : confirm_all ceiling model51 (length is / 16) 8 is rs ws 0 0 ≡ just list
  pub dwords_are : dwords ≡ 2 + length (all_dwords list)
  pub fits : dwords < 2 ^ 32
  pub room : 4 * dwords ≤ n

pub record Ready (is rs ws : List ℕ) (dwords n : ℕ) : Type 0 where
  pub ceiling : ℕ
  pub model51 : Bool
  pub list : List Instruction
  pub whole : Whole is rs ws dwords n ceiling model51 list

-- the chunk stands in front of what was there
abbrev pub Wrote : ℕ → List ℕ → List ℕ → List ℕ → ℕ → List ℕ → List ℕ → Type 0
Wrote version is rs ws dwords out out' = (c : ℕ) (m : Bool) (l : List Instruction) → Whole is rs ws dwords (length out) c m l → out' ≡ put 0 (chunk_of version (all_dwords l)) out
