-- The vectors that settle document 01's readings and its "Run only" cases, computed.
use Prim.Native.Nat.{ℕ, ◌*◌, ◌-◌}
use mathlib.Core.Path.{◌≡◌, refl, sym, ap, ◌∙◌}
use mathlib.Core.List.{List, [], ◌∷◌, ◌++◌, map}
use mathlib.Core.Option.{some}
use lib.ListN.{length, get_or, replicate}
use native.Mathlib.Omega.{arith}
use Rattle.std.specs.Prelude.{Result, Ok, Err}
use lib.IntN.{pos, negsuc}
use lib.Ieee.{binary32, of_bits}
use Rattle.format.specs.declared.Refusal.{Refusal}
use Rattle.format.specs.declared.Refusal.TheVariants.{Edition, NotDwords, Long, OperandCount, NoReading, OutputShort}
use Rattle.format.specs.declared.Accepted.{Accepted}
use Rattle.format.specs.declared.Shown.{Shown}
use Rattle.format.specs.declared.Shown.TheVariants.{Factor, Count, Nothing}
use Rattle.format.specs.Dwords.{bytes_of}
use Rattle.format.specs.Counts.{within}
use Rattle.format.specs.Refusals.{SHEX, first_of, header, answer, read_chunk, Pools, Rows}
use Rattle.format.specs.Refusals as chunk
use Rattle.format.specs.Editions.{entry}
use Rattle.format.specs.Calls.{reached, spanned, part_of, part_start, shown_for, shown_in, shows, signed}
use Rattle.format.specs.Encoder as encoder
use Rattle.format.specs.Encoder.{Encoding, unencoded, encoded, encode}
use Rattle.format.proofs.Cases.{refusal, rows, reading, Case, case, zeros, AllRight}

-- by the number of the reading
abbrev pub vectors : List Case
vectors =
    -- class 3 custom data of 6 dwords passes, 5 gives 14
    case 3 (0x50 ∷ 8 ∷ 0x1835 ∷ 6 ∷ 1 ∷ 2 ∷ 3 ∷ 4 ∷ []) (rows 0x50 (8 ∷ 6 ∷ 53 ∷ 5 ∷ 0 ∷ 0 ∷ 0 ∷ 3 ∷ zeros 7 ++ 4 ∷ []) [] (1 ∷ 2 ∷ 3 ∷ 4 ∷ []) (pos 0)) ∷
    case 3 (0x50 ∷ 7 ∷ 0x1835 ∷ 5 ∷ 1 ∷ 2 ∷ 3 ∷ []) (refusal 14 8) ∷
    -- version 150
    case 3 (0x150 ∷ 2 ∷ []) (refusal 6 0) ∷
    -- 1 and 2: row numbers and word places
    case 3 (0x50 ∷ 0xB ∷ 0x03000004 ∷ 0x00100000 ∷ 5 ∷ 0x06000036 ∷ 0 ∷ 0x00D00000 ∷ 7 ∷ 0x4001 ∷ 9 ∷ []) (rows 0x50 (8 ∷ 3 ∷ 4 ∷ 1 ∷ zeros 9 ++ 1 ∷ 0 ∷ 1 ∷ 20 ∷ 6 ∷ 54 ∷ 1 ∷ zeros 8 ++ 1 ∷ 2 ∷ 1 ∷ 2 ∷ []) (zeros 6 ++ 1 ∷ zeros 7 ++ 1 ∷ 2 ∷ zeros 14 ++ 1 ∷ 1 ∷ zeros 6 ++ 1 ∷ 3 ∷ 1 ∷ 0 ∷ 0 ∷ 3 ∷ 0 ∷ 0 ∷ 2 ∷ 4 ∷ 4 ∷ 1 ∷ 0 ∷ 0 ∷ 2 ∷ 1 ∷ zeros 8 ++ 1 ∷ 2 ∷ []) (5 ∷ 7 ∷ 9 ∷ []) (pos 0)) ∷
    -- 4: no long form bit for code 53
    case 3 (0x50 ∷ 6 ∷ 0x1035 ∷ 4 ∷ 0xAA ∷ 0xBB ∷ []) (rows 0x50 (8 ∷ 4 ∷ 53 ∷ 5 ∷ 0 ∷ 0 ∷ 0 ∷ 2 ∷ zeros 7 ++ 2 ∷ []) [] (170 ∷ 187 ∷ []) (pos 0)) ∷
    -- 7: no wrap-around; a length dword of any size
    case 3 (0x50 ∷ 0x40000002 ∷ []) (refusal 9 0) ∷
    case 3 (0x50 ∷ 4 ∷ 0x35 ∷ 0xFFFFFFFF ∷ []) (refusal 12 8) ∷
    -- 8: a length of 1 that stands in the next dword
    case 3 (0x50 ∷ 4 ∷ 0x80000091 ∷ 1 ∷ []) (refusal 11 12) ∷
    -- 9: a chain that runs off the end, and one that ends with it
    case 3 (0x50 ∷ 3 ∷ 0x8100003A ∷ []) (refusal 14 8) ∷
    case 3 (0x50 ∷ 3 ∷ 0x8100006B ∷ []) (refusal 14 8) ∷
    case 3 (0x50 ∷ 3 ∷ 0x81000036 ∷ []) (refusal 13 8) ∷
    case 3 (0x50 ∷ 4 ∷ 0x8200003A ∷ 3 ∷ []) (rows 0x50 (8 ∷ 2 ∷ 58 ∷ 1 ∷ zeros 4 ++ 4 ∷ 0 ∷ 0 ∷ 3 ∷ zeros 4) [] [] (pos 0)) ∷
    case 3 (0x50 ∷ 4 ∷ 0x82000036 ∷ 1 ∷ []) (refusal 13 8) ∷
    -- 10: token bits 14-17 and 23 never, 14 only for 190, whose bit 13 is of the field
    case 3 (0x50 ∷ 3 ∷ 0x0100403A ∷ []) (refusal 14 8) ∷
    case 3 (0x50 ∷ 3 ∷ 0x0180003A ∷ []) (refusal 14 8) ∷
    case 3 (0x50 ∷ 3 ∷ 0x010060BE ∷ []) (rows 0x50 (8 ∷ 1 ∷ 190 ∷ 1 ∷ 0 ∷ 0 ∷ 0 ∷ 12 ∷ zeros 8) [] [] (pos 0)) ∷
    -- 11: representations past the dimension are unused bits
    case 3 (0x50 ∷ 4 ∷ 0x02000004 ∷ 0x01400000 ∷ []) (refusal 14 8) ∷
    case 3 (0x50 ∷ 4 ∷ 0x02000004 ∷ 0x01500000 ∷ []) (refusal 13 8) ∷
    -- 12: component count 3 and mode 3 are read as none, and are 14
    case 3 (0x50 ∷ 4 ∷ 0x02000004 ∷ 0x4003 ∷ []) (refusal 14 8) ∷
    case 3 (0x50 ∷ 4 ∷ 0x02000004 ∷ 0x400E ∷ []) (refusal 14 8) ∷
    -- 13: an operand extension of no modifier; a second one; modifiers on immediates
    case 3 (0x50 ∷ 5 ∷ 0x03000004 ∷ 0x80000000 ∷ 1 ∷ []) (refusal 14 8) ∷
    case 3 (0x50 ∷ 6 ∷ 0x04000004 ∷ 0x80000000 ∷ 0x80000041 ∷ 0x41 ∷ []) (refusal 14 8) ∷
    case 3 (0x50 ∷ 6 ∷ 0x04000004 ∷ 0x80004001 ∷ 0x41 ∷ 9 ∷ []) (rows 0x50 (8 ∷ 4 ∷ 4 ∷ 1 ∷ zeros 9 ++ 1 ∷ 0 ∷ 1 ∷ []) (4 ∷ 1 ∷ 0 ∷ 1 ∷ 0 ∷ 1 ∷ zeros 8 ++ 1 ∷ 3 ∷ []) (9 ∷ []) (pos 0)) ∷
    -- 14: bounds hold for their bits alone
    case 3 (0x50 ∷ 5 ∷ 0x03005058 ∷ 0 ∷ 0 ∷ []) (rows 0x50 (8 ∷ 3 ∷ 88 ∷ 4 ∷ 0 ∷ 0 ∷ 0 ∷ 10 ∷ zeros 5 ++ 1 ∷ 0 ∷ 1 ∷ []) (zeros 14 ++ 1 ∷ 1 ∷ []) (0 ∷ []) (pos 0)) ∷
    case 3 (0x50 ∷ 5 ∷ 0x03018858 ∷ 0 ∷ 0 ∷ []) (refusal 14 8) ∷
    case 3 (0x50 ∷ 5 ∷ 0x03000058 ∷ 0 ∷ 0 ∷ []) (refusal 14 8) ∷
    -- 15: 89 in model 5.1; short and long forms at any size; the high half of lengths is free
    case 3 (0x51 ∷ 6 ∷ 0x04000859 ∷ 0 ∷ 1 ∷ 2 ∷ []) (rows 0x51 (8 ∷ 4 ∷ 89 ∷ 4 ∷ 0 ∷ 0 ∷ 0 ∷ 1 ∷ zeros 5 ++ 1 ∷ 0 ∷ 2 ∷ []) (zeros 14 ++ 1 ∷ 1 ∷ []) (1 ∷ 2 ∷ []) (pos 0)) ∷
    case 3 (0x50 ∷ 4 ∷ 0x02000859 ∷ 0 ∷ []) (rows 0x50 (8 ∷ 2 ∷ 89 ∷ 4 ∷ 0 ∷ 0 ∷ 0 ∷ 1 ∷ zeros 5 ++ 1 ∷ 0 ∷ 0 ∷ []) (zeros 14 ++ 1 ∷ 1 ∷ []) [] (pos 0)) ∷
    case 3 (0x50 ∷ 5 ∷ 0x03000091 ∷ 7 ∷ 0 ∷ []) (rows 0x50 (8 ∷ 3 ∷ 145 ∷ 4 ∷ zeros 11 ++ 2 ∷ []) [] (7 ∷ 0 ∷ []) (pos 0)) ∷
    case 3 (0x50 ∷ 6 ∷ 0x80000091 ∷ 4 ∷ 7 ∷ 0 ∷ []) (rows 0x50 (8 ∷ 4 ∷ 145 ∷ 4 ∷ zeros 4 ++ 8 ∷ zeros 6 ++ 2 ∷ []) [] (7 ∷ 0 ∷ []) (pos 0)) ∷
    case 3 (0x50 ∷ 7 ∷ 0x05000092 ∷ 1 ∷ 2 ∷ 0xABCD0001 ∷ 3 ∷ []) (rows 0x50 (8 ∷ 5 ∷ 146 ∷ 4 ∷ zeros 11 ++ 4 ∷ []) [] (1 ∷ 2 ∷ 2882338817 ∷ 3 ∷ []) (pos 0)) ∷
    -- 16: bit 31 of phases and short declarations
    case 3 (0x50 ∷ 3 ∷ 0x81000071 ∷ []) (refusal 14 8) ∷
    case 3 (0x50 ∷ 3 ∷ 0x8100006A ∷ []) (refusal 14 8) ∷
    -- 18: an unread 152
    case 1 (0x50 ∷ 3 ∷ 0x01000098 ∷ []) (rows 0x50 (8 ∷ 1 ∷ 152 ∷ zeros 12 ++ 1 ∷ []) [] (16777368 ∷ []) (pos 0)) ∷
    -- 23 and 24: 93 keeps its value; 219 is opaque
    case 3 (0x50 ∷ 3 ∷ 0x0100205D ∷ []) (rows 0x50 (8 ∷ 1 ∷ 93 ∷ 4 ∷ 0 ∷ 0 ∷ 0 ∷ 4 ∷ zeros 8) [] [] (pos 0)) ∷
    case 3 (0x50 ∷ 3 ∷ 0x010000DB ∷ []) (rows 0x50 (8 ∷ 1 ∷ 219 ∷ 2 ∷ zeros 12) [] [] (pos 0)) ∷
    -- the second instruction at editions 3 and 1: its places differ
    case 3 (0x50 ∷ 6 ∷ 0x02000075 ∷ 0 ∷ 0x02000004 ∷ 0 ∷ []) (rows 0x50 (8 ∷ 2 ∷ 117 ∷ 1 ∷ zeros 9 ++ 1 ∷ 0 ∷ 0 ∷ 16 ∷ 2 ∷ 4 ∷ 1 ∷ zeros 8 ++ 1 ∷ 1 ∷ 0 ∷ 0 ∷ []) (zeros 14 ++ 1 ∷ 1 ∷ zeros 14 ++ 1 ∷ 1 ∷ []) [] (pos 0)) ∷
    case 1 (0x50 ∷ 6 ∷ 0x02000075 ∷ 0 ∷ 0x02000004 ∷ 0 ∷ []) (rows 0x50 (8 ∷ 2 ∷ 117 ∷ zeros 12 ++ 2 ∷ 16 ∷ 2 ∷ 4 ∷ 1 ∷ zeros 9 ++ 1 ∷ 2 ∷ 0 ∷ []) (zeros 14 ++ 1 ∷ 1 ∷ []) (33554549 ∷ 0 ∷ []) (pos 0)) ∷
    []

pub vectors_right : AllRight vectors
unfolding reading
vectors_right = refl

-- an operand at depth 63 passes, one at depth 64 doesn't
unfoldable pub answered : List ℕ → Result Accepted Refusal
unfolding reading answer
answered ds = answer (read_chunk 3 SHEX (bytes_of ds))

abbrev pub nested : ℕ → List ℕ
nested n = 0 ∷ replicate n 0x00900000 ++ 0 ∷ []

pub depth : (answered (0x50 ∷ 68 ∷ 0x42000036 ∷ nested 63) ≡ Ok (record { version = 0x50; instructions = 1; operands = 65; words = 0 })) × (answered (0x50 ∷ 69 ∷ 0x43000036 ∷ nested 64) ≡ Err (OperandCount 8))
unfolding answered
depth = (refl, refl)

-- 7: 1,048,577 bytes is 4, not 5
pub one_past : (chunk : List ℕ) → length chunk ≡ 1_048_577 → header 3 SHEX chunk ≡ some NotDwords
unfolding header first_of within
one_past chunk h = rw h

pub four_past : (chunk : List ℕ) → length chunk ≡ 1_048_580 → header 3 SHEX chunk ≡ some Long
unfolding header first_of within
four_past chunk h = rw h

-- 18, 20 and "Rows": what a caller gets of one row of 16 words in the pool and its words
abbrev pub row : ℕ → ℕ → ℕ → ℕ → List ℕ
row code kind start count = 8 ∷ 2 ∷ code ∷ kind ∷ zeros 10 ++ start ∷ count ∷ []

abbrev pub words : List ℕ
words = 5 ∷ 0x3F800000 ∷ []

unfoldable pub shown : ℕ → ℕ → ℕ → ℕ → Shown
unfolding reading shows shown_in shown_for part_of spanned reached
shown code kind start count = shows 0 1 (row code kind start count) words

unfoldable pub part : ℕ → ℕ → ℕ → ℕ → ℕ × List ℕ
unfolding part_of part_start spanned reached
part number total start count = (part_start number total (row 54 1 start count) words, part_of number total (row 54 1 start count) words)

pub calls :
    (map (λ (c : ℕ). shown c 4 1 1) (152 ∷ 144 ∷ 154 ∷ 88 ∷ []) ≡ Factor (of_bits binary32 0x3F800000) ∷ Count 0x3F800000 ∷ Count 0x3F800000 ∷ Nothing ∷ []) ×
    ((shown 152 0 1 1 ≡ Nothing) × ((shown 152 4 0 2 ≡ Nothing) × (shown 152 4 1 2 ≡ Nothing)))
unfolding shown
calls = (refl, (refl, (refl, refl)))

-- a row's words; past the count, outside the pool, and spans outside the word pool, sums past 32 bits included
pub parts : (part 0 1 1 1 ≡ (1, 0x3F800000 ∷ [])) × ((part 1 1 0 1 ≡ (0, [])) × ((part 1 2 0 1 ≡ (0, [])) × ((part 0 1 1 2 ≡ (0, [])) × (part 0 1 0xFFFFFFFF 0xFFFFFFFF ≡ (0, [])))))
unfolding part
parts = (refl, (refl, (refl, (refl, refl))))

pub signs : map signed (0 ∷ 7 ∷ 8 ∷ 15 ∷ []) ≡ pos 0 ∷ pos 7 ∷ negsuc 7 ∷ negsuc 0 ∷ []
unfolding signed
signs = refl

-- 17: the encoder on the rows of P6, of which one word may be changed
abbrev pub moves : ℕ → ℕ → ℕ → Rows
moves version counted unused = record {
  version = version;
  instructions = counted;
  operands = 2;
  words = 2;
  pools = record {
    instructions = 8 ∷ 5 ∷ 54 ∷ 1 ∷ zeros 9 ++ 2 ∷ 0 ∷ 2 ∷ [];
    operands = 0 ∷ 2 ∷ 15 ∷ 0 ∷ 0 ∷ 0 ∷ 1 ∷ 0 ∷ 0 ∷ unused ∷ zeros 4 ++ 1 ∷ 2 ∷ 0 ∷ 3 ∷ 228 ∷ 0 ∷ 0 ∷ 0 ∷ 1 ∷ 0 ∷ 1 ∷ zeros 5 ++ 1 ∷ 2 ∷ [];
    words = 0 ∷ 1 ∷ 99 ∷ [];
  };
}

unfoldable pub encoding : ℕ → Rows → ℕ → Encoding
unfolding reading encode encoder.extension_of encoder.operand_dword encoder.make_index encoder.make_rest encoder.make_operand encoder.make_item encoder.make_items encoder.chain_of encoder.sized_row encoder.token_of_row encoder.head_of_row encoder.make_instruction encoder.make_all encoder.past_pool encoder.held encoder.chunk_of encoder.made encoder.same encoder.gives encoder.chunk_giving
encoding e q size = encode e q size

abbrev pub refusals : List Refusal → List Encoding
refusals l = map unencoded l

pub encodings :
    (encoding 3 (moves 0x50 1 0) 28 ≡ encoded (bytes_of (0x50 ∷ 7 ∷ 0x05000036 ∷ 0x001000F2 ∷ 0 ∷ 0x00100E46 ∷ 1 ∷ []))) ×
    (encoding 3 (moves 0x50 1 0) 27 ∷ encoding 4 (moves 0x50 1 0) 28 ∷ encoding 3 (moves 0x50 1 1) 28 ∷ encoding 3 (moves 0x50 2 0) 28 ∷ encoding 3 (moves 0x50 0xFFFFFFFF 0) 0 ∷ encoding 3 (moves 0x150 1 0) 28 ∷ [] ≡
    refusals (OutputShort ∷ Edition ∷ NoReading ∷ NoReading ∷ NoReading ∷ NoReading ∷ []))
unfolding encoding
encodings = (refl, refl)

-- two instructions of codes 117 and 4 at an edition; edition 1 does not know the first
abbrev pub pair : List ℕ
pair = bytes_of (0x50 ∷ 6 ∷ 0x02000075 ∷ 0 ∷ 0x02000004 ∷ 0 ∷ [])

unfoldable pub two : ℕ → Rows
unfolding reading chunk.reading chunk.pools_after chunk.after answer chunk.decode chunk.room
two e = chunk.reading (chunk.decode e SHEX pair pools) pools
  where
    pools : Pools
    pools = record { instructions = zeros 64; operands = zeros 64; words = zeros 4 }

-- words 12 and 14 of the second row
unfoldable places : ℕ → List ℕ
unfolding two entry
places e = let row = (entry (two e) 1).row in encoder.at 12 row ∷ encoder.at 14 row ∷ []

newer_places : places 3 ≡ 1 ∷ 0 ∷ []
unfolding places
newer_places = refl

older_places : places 1 ≡ 0 ∷ 2 ∷ []
unfolding places
older_places = refl

pub differ : (entry (two 3) 1).row ≡ (entry (two 1) 1).row → ⊥
unfolding places
differ e =
    let z : places 3 ≡ places 1 = ap (λ (row : List ℕ). encoder.at 12 row ∷ encoder.at 14 row ∷ []) e in
    let n : ◌≡◌ {A = ℕ} 1 0 = ap (λ (l : List ℕ). get_or l 0 0) (sym newer_places ∙ z ∙ older_places) in
    omega arith

-- what the pools hold afterwards, each filled with 7 before the call, and so many entries for each of M payload dwords
unfoldable pub afterwards : ℕ → ℕ → ℕ → List ℕ → List ℕ × List ℕ × List ℕ
unfolding two
afterwards e is ws ds =
    let m = length ds - 2 in
    let p : Pools = record { instructions = replicate (is * m) 7; operands = replicate (16 * m) 7; words = replicate (ws * m) 7 } in
    let q = chunk.pools_after (chunk.decode e SHEX (bytes_of ds) p) p in
    (q.instructions, q.operands, q.words)

abbrev pub sevens : ℕ → List ℕ
sevens n = replicate n 7

-- untouched after 1 and 6, after 10 for each of two pools; zero after 11, 12, 13, 14; rows, then the old entries after success
pub pools_after_lem :
    map (λ (ds : List ℕ). afterwards 3 17 1 ds)
    ((0x150 ∷ 3 ∷ 0x0100003E ∷ []) ∷ (0x50 ∷ 3 ∷ 0x0000003A ∷ []) ∷ (0x50 ∷ 3 ∷ 0x0200003E ∷ []) ∷ (0x50 ∷ 3 ∷ 0x01000036 ∷ []) ∷ (0x50 ∷ 3 ∷ 0x0100403E ∷ []) ∷ (0x50 ∷ 3 ∷ 0x0100003E ∷ []) ∷ []) ++
    afterwards 4 17 1 (0x50 ∷ 3 ∷ 0x0100003E ∷ []) ∷ afterwards 3 15 1 (0x50 ∷ 3 ∷ 0x0000003A ∷ []) ∷ afterwards 3 17 0 (0x50 ∷ 3 ∷ 0x0000003A ∷ []) ∷ [] ≡
    (sevens 17, sevens 16, sevens 1) ∷ (zeros 17, zeros 16, zeros 1) ∷ (zeros 17, zeros 16, zeros 1) ∷ (zeros 17, zeros 16, zeros 1) ∷ (zeros 17, zeros 16, zeros 1) ∷ (8 ∷ 1 ∷ 62 ∷ 1 ∷ zeros 12 ++ 7 ∷ [], sevens 16, sevens 1) ∷
    (sevens 17, sevens 16, sevens 1) ∷ (sevens 15, sevens 16, sevens 1) ∷ (sevens 17, sevens 16, []) ∷ []
unfolding afterwards
pools_after_lem = refl

-- what the output holds afterwards, and the length that is answered, for a program of no rows
abbrev pub no_rows : Rows
no_rows = record { version = 0x50; instructions = 0; operands = 0; words = 0; pools = record { instructions = []; operands = []; words = [] } }

unfoldable pub outputs : ℕ → List ℕ → List ℕ × ℕ
unfolding encoding encoder.encode_answer encoder.output_after
outputs e out = let b = encode e no_rows (length out) in (encoder.output_after b out, encoder.answered_length (encoder.encode_answer b))

pub outputs_after : outputs 3 (sevens 9) ∷ outputs 3 (sevens 8) ∷ outputs 3 (sevens 7) ∷ outputs 4 (sevens 9) ∷ [] ≡ (bytes_of (0x50 ∷ 2 ∷ []) ++ 7 ∷ [], 8) ∷ (bytes_of (0x50 ∷ 2 ∷ []), 8) ∷ (sevens 7, 0) ∷ (sevens 9, 0) ∷ []
unfolding outputs
outputs_after = refl
