-- "Refusals, in order": their numbers and places, when each is given, and what the pools hold afterwards.
use Rattle.std.specs.Prelude.{ℕ, ◌+◌, ◌*◌, ◌-◌, ◌/◌, ◌%◌, ◌^◌, List, [], ◌∷◌, ◌++◌, Bool, cond, not, ◌&&◌, ◌||◌, length, get_or, drop, replicate, eqb, ltb, Result, Ok, Err}
use Rattle.std.proofs.Math.Option.{Option, none, some}
use Rattle.format.specs.declared.Refusal.{Refusal}
use Rattle.format.specs.declared.Refusal.TheVariants.{Edition, FourCc, Short, NotDwords, Long, Reserved, Model, Program, Size, Room, ZeroLength, PastEnd, OperandCount, Layout, NoReading, OutputShort}
use Rattle.format.specs.declared.Accepted.{Accepted}
use Rattle.format.specs.Dwords.{dword_of, dwords_of, bits}
use Rattle.format.specs.Framing.{Framed, whole, zero_length, past_end, instruction, frame, ceiling}
use Rattle.format.specs.Counts.{within}
use Rattle.format.specs.Instructions.{Instruction, Reading, ok, miscounted, inexact, read}
use Rattle.format.specs.Rows.{instruction_rows, parts_rows, parts_words, parts_table, all_parts}

-- a refusal's number and place
abbrev pub number_and_place : Refusal → ℕ × ℕ
number_and_place Edition = (1, 0)
number_and_place FourCc = (2, 0)
number_and_place Short = (3, 0)
number_and_place NotDwords = (4, 0)
number_and_place Long = (5, 0)
number_and_place Reserved = (6, 0)
number_and_place Model = (7, 0)
number_and_place Program = (8, 0)
number_and_place Size = (9, 0)
number_and_place Room = (10, 0)
number_and_place (ZeroLength at) = (11, at)
number_and_place (PastEnd at) = (12, at)
number_and_place (OperandCount at) = (13, at)
number_and_place (Layout at) = (14, at)
number_and_place NoReading = (15, 0)
number_and_place OutputShort = (16, 0)

abbrev pub number : Refusal → ℕ
number r = (number_and_place r).0

abbrev pub place : Refusal → ℕ
place r = (number_and_place r).1

-- FourCCs: the letters SHEX and SHDR
abbrev pub SHEX : ℕ
SHEX = dword_of 0x53 0x48 0x45 0x58

abbrev pub SHDR : ℕ
SHDR = dword_of 0x53 0x48 0x44 0x52

-- the first whose test holds
unfoldable pub first_of : List (Bool × Refusal) → Option Refusal
first_of [] = none
first_of (p ∷ l) = cond p.0 (some p.1) (first_of l)

-- 1 to 9, for an edition, a FourCC, the size and the first two dwords
abbrev pub header_tests : ℕ → ℕ → ℕ → ℕ → ℕ → List (Bool × Refusal)
header_tests edition four size version second =
    (ltb 3 edition, Edition) ∷
    (not (within four (SHEX ∷ SHDR ∷ [])), FourCc) ∷
    (ltb size 8, Short) ∷
    (not (eqb (size % 4) 0), NotDwords) ∷
    (ltb 1_048_576 size, Long) ∷
    (not (eqb (bits 8 15 version) 0), Reserved) ∷
    (not (within (bits 4 7 version) (4 ∷ 5 ∷ []) && within (version % 2 ^ 4) (0 ∷ 1 ∷ [])), Model) ∷
    (ltb 5 (bits 16 31 version), Program) ∷
    (not (eqb (second * 4) size), Size) ∷ []

unfoldable pub header : ℕ → ℕ → List ℕ → Option Refusal
header edition four chunk = let ds = dwords_of chunk in first_of (header_tests edition four (length chunk) (get_or ds 0 0) (get_or ds 1 0))

-- the three lent pools
pub record Pools : Type 0 where
  pub instructions : List ℕ
  pub operands : List ℕ
  pub words : List ℕ

-- 10: M = payload dwords; instruction or operand pool under 16M words, or word pool under M
unfoldable pub room : List ℕ → Pools → Option Refusal
room chunk p =
    let m = length chunk / 4 - 2 in
    cond (ltb (length p.instructions) (16 * m) || ltb (length p.operands) (16 * m) || ltb (length p.words) m) (some Room) none

-- for an instruction that reads so: the first; 13, the second; 14, the third
abbrev pub either : {A : Type 0} → Reading → A → A → A → A
either (ok i) a b c = a
either miscounted a b c = b
either inexact a b c = c

abbrev pub kept : Reading → List Instruction → List Instruction
kept (ok i) l = i ∷ l
kept miscounted l = l
kept inexact l = l

module _ (ceiling : ℕ) (model51 : Bool) where
  -- 11, 12, 13 for each instruction in turn, over the whole stream, of which at dwords stand before
  unfoldable pub first_pass : ℕ → Framed → Option Refusal
  first_pass at whole = none
  first_pass at zero_length = some (ZeroLength (4 * at))
  first_pass at past_end = some (PastEnd (4 * at))
  first_pass at (instruction i f) = let next = first_pass (at + length i) f in either (read ceiling model51 i) next (some (OperandCount (4 * at))) next

  -- only then 14, from the first instruction
  unfoldable pub second_pass : ℕ → Framed → Option Refusal
  second_pass at whole = none
  second_pass at zero_length = none
  second_pass at past_end = none
  second_pass at (instruction i f) = let next = second_pass (at + length i) f in either (read ceiling model51 i) next next (some (Layout (4 * at)))

  unfoldable pub readings : Framed → List Instruction
  readings whole = []
  readings zero_length = []
  readings past_end = []
  readings (instruction i f) = kept (read ceiling model51 i) (readings f)

-- what comes of a chunk: a refusal; or its version token and what was read
pub data Outcome : Type 0 where
  refused : Refusal → Outcome
  accepted : ℕ → List Instruction → Outcome

abbrev pub unless : Option Refusal → Outcome → Outcome
unless none a = a
unless (some r) a = refused r

-- model 5.1: major 5, minor 1
unfoldable pub is_model51 : ℕ → Bool
is_model51 version = eqb (bits 4 7 version) 5 && eqb (version % 2 ^ 4) 1

-- a chunk's dwords past its header, under a ceiling
unfoldable pub body : ℕ → List ℕ → Outcome
body ceiling ds =
    let version = get_or ds 0 0 in
    let m = is_model51 version in
    let f = frame (length ds) (drop 2 ds) in
    unless (first_pass ceiling m 2 f) (unless (second_pass ceiling m 2 f) (accepted version (readings ceiling m f)))

-- a chunk, whatever the pools
unfoldable pub read_chunk : ℕ → ℕ → List ℕ → Outcome
read_chunk edition four chunk = unless (header edition four chunk) (body (ceiling edition) (dwords_of chunk))

-- a chunk read into pools
unfoldable pub decode : ℕ → ℕ → List ℕ → Pools → Outcome
decode edition four chunk p = unless (header edition four chunk) (unless (room chunk p) (body (ceiling edition) (dwords_of chunk)))

-- the answer: the version token, instruction rows, operand rows and words
unfoldable pub answer : Outcome → Result Accepted Refusal
answer (refused r) = Err r
answer (accepted version l) = Ok (record { version = version; instructions = length l; operands = parts_rows (all_parts l); words = length (parts_words (all_parts l)) })

-- a pool afterwards: 1 to 10 leave it untouched; 11 to 14 fill it with zero; on success entries past those used are unchanged
unfoldable pub after : (List Instruction → List ℕ) → Outcome → List ℕ → List ℕ
after rows (refused r) pool = cond (ltb 10 (number r)) (replicate (length pool) 0) pool
after rows (accepted version l) pool = rows l ++ drop (length (rows l)) pool

-- the payload starts at byte 8
unfoldable pub pools_after : Outcome → Pools → Pools
pools_after a p = record {
  instructions = after (instruction_rows 8 0 0) a p.instructions;
  operands = after (λ l. parts_table 0 0 (all_parts l)) a p.operands;
  words = after (λ l. parts_words (all_parts l)) a p.words;
}

-- a version token, counts of instruction rows, operand rows and words, and the pools that hold them first
pub record Rows : Type 0 where
  pub version : ℕ
  pub instructions : ℕ
  pub operands : ℕ
  pub words : ℕ
  pub pools : Pools

-- what a caller has afterwards; a refusal's counts are 0
abbrev pub told : Result Accepted Refusal → Pools → Rows
told (Ok a) p = record { version = a.version; instructions = a.instructions; operands = a.operands; words = a.words; pools = p }
told (Err r) p = record { version = 0; instructions = 0; operands = 0; words = 0; pools = p }

unfoldable pub reading : Outcome → Pools → Rows
reading a p = told (answer a) (pools_after a p)
