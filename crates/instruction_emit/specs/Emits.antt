-- What is written of an instruction whose row, operand rows and words were confirmed: the bytes of its dwords.
use Rattle.std.specs.Prelude.{ℕ, ◌+◌, ◌*◌, ◌/◌, ◌^◌, ◌<◌, ◌≤◌, ◌≡◌, Bool, true, false, cond, List, [], ◌∷◌, ◌++◌, length, take, eqb}
use Rattle.std.proofs.Math.Option.{some as just}
use Rattle.format.specs.Dwords.{bytes_of}
use Rattle.format.specs.Declarations.{layout}
use Rattle.format.specs.Instructions.{Instruction, dwords}
use Rattle.format.specs.Rows.{parts_rows, parts}
use Rattle.format.specs.Encoder.{at, chain_of, sized_row, token_of_row, head_of_row}
use Rattle.output.specs.Puts.{put, Headed}
use Rattle.instruction_deep.specs.Confirm.{confirm_instruction}
use Rattle.operand_emit.specs.declared.Place.{Place}

-- the row q, operand rows and words are confirmed to be those of an instruction: under some ceiling, in some model, at some
-- place; the number of the first operand row is the 16th part of the place where it begins
pub record Is (q rs ws : List ℕ) (operand word : ℕ) (i : Instruction) : Type 0 where
  pub ceiling : ℕ
  pub model51 : Bool
  pub place : ℕ
  pub confirmed : confirm_instruction ceiling model51 q place rs ws (operand / 16) word ≡ just i

-- there is an instruction, no other words, and room for its dwords from a dword on in an output of so many bytes
pub record Ready (q rs ws : List ℕ) (operand word place n : ℕ) : Type 0 where
  pub instruction : Instruction
  pub is : Is q rs ws operand word instruction
  pub words_are : length ws ≡ at 15 q
  pub room : 4 * (place + length (dwords instruction)) ≤ n

-- the dwords of an instruction stand there; what is behind it: a place where an operand row begins, and a dword of the output
pub record Stands (i : Instruction) (operand place : ℕ) (out : List ℕ) (ends : Place) (out' : List ℕ) : Type 0 where
  pub output_is : out' ≡ put (4 * place) (bytes_of (dwords i)) out
  pub operand_is : ends.operand ≡ operand + 16 * parts_rows (parts i)
  pub at_is : ends.at ≡ place + length (dwords i)

-- those of the instruction whose row, operand rows and words these are
abbrev pub Emitted : List ℕ → List ℕ → List ℕ → ℕ → ℕ → ℕ → List ℕ → Place → List ℕ → Type 0
Emitted q rs ws operand word place out ends out' = (i : Instruction) → Is q rs ws operand word i → Stands i operand place out ends out'

-- ---- the token, and what stands after it
-- a token of code, field, saturate, test and precise, without a length and bit 31
abbrev pub packed : ℕ → ℕ → ℕ → ℕ → ℕ → ℕ
packed code field saturate test precise = code + field * 2 ^ 11 + saturate * 2 ^ 13 + test * 2 ^ 18 + precise * 2 ^ 19

abbrev pub low_of : List ℕ → ℕ
low_of q = packed (at 2 q) (at 7 q) (at 4 q) (at 5 q) (at 6 q)

-- the chain of extensions of a row
abbrev pub chain_of_row : List ℕ → List ℕ
chain_of_row q = chain_of (at 8 q) (at 9 q) (at 10 q) (at 11 q)

-- the numbers of a row whose token was exact
pub record Fits (q : List ℕ) : Type 0 where
  pub token_fits : token_of_row q < 2 ^ 32
  pub kind_is : at 3 q ≡ (layout (at 2 q)).kind
  pub bits_fit : sized_row q ≡ false → at 8 q < 8
  pub offsets_fit : at 9 q < 2 ^ 12
  pub second_fits : at 10 q < 2 ^ 31

abbrev pub head_of : List ℕ → List ℕ
head_of q = token_of_row q ∷ head_of_row q

-- and room for both
pub record HeadReady (q : List ℕ) (place n : ℕ) : Type 0 where
  pub fits : Fits q
  pub room : 4 * (place + length (head_of q)) ≤ n

-- ---- what stands in front of the operands
-- a word stands before the operand of code 120, and before no other's operands
abbrev pub before : ℕ → ℕ
before c = cond (eqb c 120) 1 0

-- so many words; none of words alone
abbrev pub lead_of : List ℕ → ℕ
lead_of q = cond (eqb (at 3 q) 0) 0 (before (at 2 q))

-- the token, what stands after it, and those words
abbrev pub front_of : List ℕ → List ℕ → List ℕ
front_of q ws = cond (eqb (at 3 q) 0) [] (head_of q ++ take (before (at 2 q)) ws)

-- they can be made, and there is room for them
pub record FrontReady (q : List ℕ) (ws word place n : ℕ) : Type 0 where
  pub fits : (at 3 q ≡ 0 → ⊥) → Fits q
  pub words_there : (at 3 q ≡ 0 → ⊥) → word + before (at 2 q) ≤ ws
  pub room : (at 3 q ≡ 0 → ⊥) → 4 * (place + (length (head_of q) + before (at 2 q))) ≤ n

-- they stand there
pub record Fronted (q ws : List ℕ) (word place : ℕ) (out : List ℕ) (f : Place) (out' : List ℕ) : Type 0 where
  pub word_is : f.word ≡ word + lead_of q
  pub headed : Headed (front_of q ws) place out f.at out'

-- a row of kind 1 whose token has only a code and a length
pub record Bare (q : List ℕ) (b : Bool) : Type 0 where
  pub kind_one : b ≡ true → (at 3 q ≡ 1) × (at 4 q ≡ 0)
  pub no_flags : b ≡ true → (at 5 q ≡ 0) × (at 6 q ≡ 0)
  pub nothing_after : b ≡ true → (at 7 q ≡ 0) × (at 8 q ≡ 0)
