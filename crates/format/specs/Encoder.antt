-- The encoder: from a version token, counts, rows and words to the chunk; 1, 15, 16; what the output holds afterwards.
use Rattle.std.specs.Prelude.{ℕ, zero, suc, ◌+◌, ◌*◌, ◌/◌, ◌%◌, ◌^◌, ◌≡◌, List, [], ◌∷◌, ◌++◌, Bool, true, false, cond, ◌&&◌, ◌||◌, length, get_or, take, drop, eqb, ltb, Result, Ok, Err}
use Rattle.std.proofs.Math.Option.{Option, none, some}
use Rattle.format.specs.declared.Refusal.{Refusal}
use Rattle.format.specs.declared.Refusal.TheVariants.{Edition, NoReading, OutputShort}
use Rattle.format.specs.Dwords.{Bytes, bytes_of}
use Rattle.format.specs.Counts.{token_with}
use Rattle.format.specs.Operands.{own, nests, repr, immediate, immediates, extension_with, dword_with}
use Rattle.format.specs.Declarations.{Item, o, d, small, s, tail, list, layout, chained}
use Rattle.format.specs.Rows.{instruction_rows, parts_words, parts_table, all_parts}
use Rattle.format.specs.Refusals.{Outcome, refused, accepted, SHEX, read_chunk, decode, answer, Rows, reading, is_model51, Pools}

infixr 60 ◌⨾◌
-- dwords made from rows and words, and the rows and words left; whether they are right is asked when the chunk is made
pub record Made : Type 0 where
  pub dwords : List ℕ
  pub rows : List ℕ
  pub words : List ℕ

abbrev pub Maker : Type 0
Maker = List ℕ → List ℕ → Made

-- one after the other
abbrev pub ◌⨾◌ : Maker → Maker → Maker
◌⨾◌ p q rs ws =
    let a = p rs ws in
    let b = q a.rows a.words in
    record { dwords = a.dwords ++ b.dwords; rows = b.rows; words = b.words }

abbrev pub these : List ℕ → Maker
these l rs ws = record { dwords = l; rows = rs; words = ws }

-- the next n words
abbrev pub words : ℕ → Maker
words n rs ws = record { dwords = take n ws; rows = rs; words = drop n ws }

-- word k of a row
abbrev pub at : ℕ → List ℕ → ℕ
at k row = get_or row k 0

-- the extension of some modifiers
unfoldable pub extension_of : ℕ → List ℕ
extension_of zero = []
extension_of (suc n) = let m = suc n in extension_with (m % 4) (m / 16) (m / 4 % 2) ∷ []

unfoldable pub operand_dword : List ℕ → ℕ
operand_dword q = dword_with (at 1 q) (at 2 q) (at 0 q) (at 6 q) (at 7 q) (length (extension_of (at 3 q)))

unfoldable pub make_index : Maker → ℕ → Maker
make_index operand r = words (own r) ⨾ cond (nests r) operand (these [])

unfoldable pub make_rest : Maker → ℕ → Maker
make_rest operand t = cond (immediate t) (words (immediates t)) (make_index operand (repr 0 t) ⨾ make_index operand (repr 1 t) ⨾ make_index operand (repr 2 t))

unfoldable pub make_operand : ℕ → Maker
make_operand zero = these []
make_operand (suc k) = λ rs ws.
    let q = take 16 rs in
    (these (operand_dword q ∷ extension_of (at 3 q)) ⨾ make_rest (make_operand k) (operand_dword q)) (drop 16 rs) ws

module _ (model51 : Bool) where
  unfoldable pub make_item : Item → Maker
  make_item o = make_operand 64
  make_item d = words 1
  make_item small = words 1
  make_item s = words (cond model51 1 0)
  make_item tail = λ rs ws. words (length ws) rs ws
  make_item (list b) = λ rs ws. words (1 + at 0 ws % 2 ^ b) rs ws

  unfoldable pub make_items : List Item → Maker
  make_items [] = these []
  make_items (i ∷ l) = make_item i ⨾ make_items l

-- a chain, by extension bits n and words 9 to 11; each dword but the last says that another follows
unfoldable pub chain_of : ℕ → ℕ → ℕ → ℕ → List ℕ
chain_of n u a b =
    take (n % 2) ((1 + u * 2 ^ 9 + cond (ltb 1 n) (2 ^ 31) 0) ∷ []) ++ take (n / 2 % 2) ((a + n / 4 * 2 ^ 31) ∷ []) ++ take (n / 4) (b ∷ [])

-- the length is in the next dword
unfoldable pub sized_row : List ℕ → Bool
sized_row q = eqb (at 2 q) 53 || (eqb (at 2 q) 145 || eqb (at 2 q) 146) && ltb 0 (at 8 q)

-- the token; the length dword, or the chain of kinds 1 and 2
unfoldable pub token_of_row : List ℕ → ℕ
token_of_row q =
    let n = cond (sized_row q) 0 (at 1 q) in
    token_with (at 2 q) (record { field = at 7 q; saturate = at 4 q; test = at 5 q; precise = at 6 q; length = n; extended = cond (ltb 0 (at 8 q)) 1 0 })

unfoldable pub head_of_row : List ℕ → List ℕ
head_of_row q = cond (sized_row q) (at 1 q ∷ []) (cond (chained (layout (at 2 q))) (chain_of (at 8 q) (at 9 q) (at 10 q) (at 11 q)) [])

-- an instruction from its row, operand rows and its own words; the words of an unread one are its dwords
unfoldable pub make_instruction : Bool → List ℕ → Maker
make_instruction model51 q = cond (eqb (at 3 q) 0) (make_item model51 tail) (these (token_of_row q ∷ head_of_row q) ⨾ make_items model51 (layout (at 2 q)).items)

-- n instructions from their rows, operand rows and words
unfoldable pub make_all : ℕ → Bool → List ℕ → List ℕ → List ℕ → List ℕ
make_all zero model51 is rs ws = []
make_all (suc n) model51 is rs ws =
    let q = take 16 is in
    let made = make_instruction model51 q rs (take (at 15 q) ws) in
    made.dwords ++ make_all n model51 (drop 16 is) made.rows (drop (at 15 q) ws)

-- counts past a pool
unfoldable pub past_pool : Rows → Bool
past_pool q =
    ltb (length q.pools.instructions) (16 * q.instructions) || ltb (length q.pools.operands) (16 * q.operands) ||
    ltb (length q.pools.words) q.words

-- the rows and words themselves
unfoldable pub held : Rows → Pools
held q = record {
  instructions = take (16 * q.instructions) q.pools.instructions;
  operands = take (16 * q.operands) q.pools.operands;
  words = take q.words q.pools.words;
}

-- the chunk of a version token and dwords: the lengths and the 2 header dwords add up to it
unfoldable pub chunk_of : ℕ → List ℕ → List ℕ
chunk_of version ds = bytes_of (version ∷ (2 + length ds) ∷ ds)

-- the chunk made from rows and words
unfoldable pub made : ℕ → Pools → List ℕ
made version p = chunk_of version (make_all (length p.instructions / 16) (is_model51 version) p.instructions p.operands p.words)

unfoldable pub same : List ℕ → List ℕ → Bool
same [] [] = true
same [] (y ∷ l) = false
same (x ∷ k) [] = false
same (x ∷ k) (y ∷ l) = eqb x y && same k l

-- an outcome has exactly this version token, rows and words
unfoldable pub gives : ℕ → Pools → Outcome → Bool
gives version p (refused r) = false
gives version p (accepted v l) =
    eqb v version && same (instruction_rows 8 0 0 l) p.instructions && same (parts_table 0 0 (all_parts l)) p.operands && same (parts_words (all_parts l)) p.words

-- a chunk that, read at an edition into some pools, gives this version token, these counts, rows and words
pub record Gives (edition : ℕ) (q : Rows) (chunk : List ℕ) : Type 0 where
  pub bytes : Bytes chunk
  pub four : ℕ
  pub pools : Pools
  pub answered : answer (decode edition four chunk pools) ≡ Ok (record { version = q.version; instructions = q.instructions; operands = q.operands; words = q.words })
  pub holds : held (reading (decode edition four chunk pools) pools) ≡ held q

-- a refusal, or the chunk
pub data Encoding : Type 0 where
  unencoded : Refusal → Encoding
  encoded : List ℕ → Encoding

-- the chunk that gives these rows at an edition, if there is one: the chunk made from them, if it is read to them
unfoldable pub chunk_giving : ℕ → Rows → Option (List ℕ)
chunk_giving edition q =
    let b = made q.version (held q) in
    cond (past_pool q) none (cond (gives q.version (held q) (read_chunk edition SHEX b)) (some b) none)

-- 15 without a chunk; 16, by the output's size
abbrev pub into : ℕ → Option (List ℕ) → Encoding
into size none = unencoded NoReading
into size (some b) = cond (ltb size (length b)) (unencoded OutputShort) (encoded b)

-- 1; then 15, counts past a pool included; then 16
unfoldable pub encode : ℕ → Rows → ℕ → Encoding
encode edition q size = cond (ltb 3 edition) (unencoded Edition) (into size (chunk_giving edition q))

-- the answer: the chunk's size
unfoldable pub encode_answer : Encoding → Result ℕ Refusal
encode_answer (unencoded r) = Err r
encode_answer (encoded b) = Ok (length b)

-- the length that an answer tells: 0 for refusals
abbrev pub answered_length : Result ℕ Refusal → ℕ
answered_length (Ok n) = n
answered_length (Err r) = 0

-- refusals leave the output untouched; success changes only the first so many bytes
unfoldable pub output_after : Encoding → List ℕ → List ℕ
output_after (unencoded r) output = output
output_after (encoded b) output = b ++ drop (length b) output
