-- What walking over the rows and words of an instruction answers.
use Rattle.std.specs.Prelude.{ℕ, ◌+◌, ◌-◌, ◌*◌, ◌/◌, ◌%◌, ◌^◌, ◌≤◌, ◌≡◌, List, ◌++◌, Bool, true, cond, length, drop, replicate, Option, Some, None}
use Rattle.std.proofs.Math.Option.{Option as Maybe, none as nothing, some as just}
use Rattle.format.specs.Dwords.{bits}
use Rattle.format.specs.Framing.{code, long, sized, length_of}
use Rattle.format.specs.Counts.{Fields, token_with, rising, of_type, type_bits}
use Rattle.format.specs.Declarations.{Item, o, Layout, layout, in_bounds}
use Rattle.format.specs.Operands as op
use Rattle.format.specs.Operands.{Tree}
use Rattle.format.specs.Instructions.{Instruction, fields_of, extensions, dwords}
use Rattle.format.specs.Rows.{parts_rows, parts_words, top_level, parts}
use Rattle.format.specs.Encoder.{at, chain_of, token_of_row, head_of_row}
use Rattle.instruction_fields.specs.Fields.{classed}
use Rattle.instruction_deep.specs.Confirm.{confirm_items, linked, head_taken}
use Rattle.instruction_deep.specs.declared.standing.Pools.{Pools}
use Rattle.instruction_deep.specs.declared.Walked.{Walked}
use Rattle.instruction_deep.specs.declared.Parts.{Parts}

-- the operand rows and the words of an instruction
abbrev pub rows_in : Pools → List ℕ
rows_in p = drop (16 * p.row) p.operands.now

abbrev pub words_in : Pools → List ℕ
words_in p = drop p.word p.words.now

-- so many operand rows and dwords
abbrev pub some_walked : ℕ → ℕ → Option Walked
some_walked r n = Some (record { rows = r; dwords = n })

-- the sizes of the instruction
abbrev pub walked_instruction : Maybe Instruction → Option Walked
walked_instruction nothing = None
walked_instruction (just i) = some_walked (parts_rows (parts i)) (length (dwords i))

-- parts that end before an operand row and a word, of so many dwords
abbrev pub some_parts : ℕ → ℕ → ℕ → Option Parts
some_parts r w n = Some (record { row = r; word = w; dwords = n })

-- what items come to: rows, words, dwords and top-level operands; or their rows and words are not there
pub data Sum : Type 0 where
  off : Sum
  sum : ℕ → ℕ → ℕ → ℕ → Sum

abbrev pub add : ℕ → ℕ → ℕ → ℕ → Sum → Sum
add r w d k off = off
add r w d k (sum r₁ w₁ d₁ k₁) = sum (r + r₁) (w + w₁) (d + d₁) (k + k₁)

abbrev pub total : Maybe (List Tree) → Sum
total nothing = off
total (just ps) = sum (parts_rows ps) (length (parts_words ps)) (length (op.parts_dwords ps)) (top_level ps)

-- items from row r and word w of two pools on
unfoldable pub sum_at : Bool → List Item → List ℕ → List ℕ → ℕ → ℕ → Sum
sum_at m l rs ws r w = total (confirm_items m l (drop (16 * r) rs) (drop w ws) r w)

-- items of k operands stand between two places, whatever items follow; or not
pub data Takes (m : Bool) (items : List Item) (k : ℕ) (rs ws : List ℕ) (r w : ℕ) : Option Parts → Type 0 where
  takes : {p : Parts} → r ≤ p.row → p.row ≤ r + (length rs / 16 - r) → w ≤ p.word → p.word ≤ length ws → p.dwords ≤ 2 * (p.row - r) + (p.word - w) →
      ((l : List Item) → sum_at m (items ++ l) rs ws r w ≡ add (p.row - r) (p.word - w) p.dwords k (sum_at m l rs ws p.row p.word)) → Takes m items k rs ws r w (Some p)
  lacks : ((l : List Item) → sum_at m (items ++ l) rs ws r w ≡ off) → Takes m items k rs ws r w None

-- the same of items that are words as they are
abbrev pub onward : ℕ → ℕ → Option ℕ → Option Parts
onward r w None = None
onward r w (Some w₁) = some_parts r w₁ (w₁ - w)

abbrev pub PassesIn : Bool → List Item → List ℕ → ℕ → Option ℕ → Type 0
PassesIn m items ws w p = (rs : List ℕ) (r : ℕ) → Takes m items 0 rs ws r w (onward r w p)

-- k operands
abbrev pub Runs : ℕ → List ℕ → List ℕ → ℕ → ℕ → Option Parts → Type 0
Runs k rs ws r w p = (m : Bool) → Takes m (replicate k o) k rs ws r w p

-- words 8 to 11 of a row without a chain
pub record Unchained (q : List ℕ) (n : ℕ) : Type 0 where
  pub bits_are : at 8 q ≡ n
  pub no_first : at 9 q ≡ 0
  pub no_second : at 10 q ≡ 0
  pub no_third : at 11 q ≡ 0

-- a chain of these words is what the reader takes, and it tells them
pub record Chained (f : Bool) (n u a b : ℕ) : Type 0 where
  pub risen : rising 0 (chain_of n u a b) ≡ true
  pub taken : linked f (chain_of n u a b) ≡ true
  pub bits_are : n ≡ type_bits (chain_of n u a b)
  pub first_is : u ≡ bits 9 20 (of_type 1 (chain_of n u a b))
  pub second_is : a ≡ of_type 2 (chain_of n u a b) % 2 ^ 31
  pub third_is : b ≡ of_type 3 (chain_of n u a b) % 2 ^ 31

-- words 8 to 11 of a row are those of what stands after the token
pub record Headed (q : List ℕ) (x : Layout) (t : ℕ) (e : List ℕ) : Type 0 where
  pub risen : rising 0 (extensions x e) ≡ true
  pub taken : head_taken x t e ≡ true
  pub bits_are : at 8 q ≡ type_bits (extensions x e) + cond (long t) 8 0
  pub first_is : at 9 q ≡ bits 9 20 (of_type 1 (extensions x e))
  pub second_is : at 10 q ≡ of_type 2 (extensions x e) % 2 ^ 31
  pub third_is : at 11 q ≡ of_type 3 (extensions x e) % 2 ^ 31

-- it holds, and so many dwords stand there; or it does not
pub data Counts (P : Type 0) (n : ℕ) : Option ℕ → Type 0 where
  are : n ≤ 3 → P → Counts P n (Some n)
  none_are : (P → ⊥) → Counts P n None

-- words 4 to 7 of a row are these fields
pub record Fielded (q : List ℕ) (f : Fields) : Type 0 where
  pub saturate_is : at 4 q ≡ f.saturate
  pub test_is : at 5 q ≡ f.test
  pub precise_is : at 6 q ≡ f.precise
  pub field_is : at 7 q ≡ f.field

-- a row's number of dwords, and the token's where the length is not in the next dword
pub record Sized (n t k : ℕ) : Type 0 where
  pub row_is : n ≡ k
  pub token_is : cond (sized t) n (bits 24 30 t) ≡ k

-- the token t, what stands after it and n dwords of parts are exact, and words 1, 2 and 4 to 11 of the row are theirs
pub record Exact (q : List ℕ) (x : Layout) (t : ℕ) (e : List ℕ) (n : ℕ) : Type 0 where
  pub token : t ≡ token_with (code t) (fields_of x t)
  pub bounds : in_bounds x.field t ≡ true
  pub class : classed x.kind t n ≡ true
  pub size : length_of t e ≡ 1 + length e + n
  pub dwords_are : at 1 q ≡ 1 + length e + n
  pub code_is : at 2 q ≡ code t
  pub fields_are : Fielded q (fields_of x t)
  pub head : Headed q x t e

-- with the token and what stands after it that the row tells
abbrev pub Pieces : List ℕ → ℕ → Type 0
Pieces q n = Exact q (layout (at 2 q)) (token_of_row q) (head_of_row q) n

-- the words of a row that tell its place, its kind, and its operand rows and words
pub record Placed (q : List ℕ) (place kind r k w n : ℕ) : Type 0 where
  pub place_is : at 0 q ≡ place
  pub kind_is : at 3 q ≡ kind
  pub row_is : at 12 q ≡ r
  pub operands_are : at 13 q ≡ k
  pub word_is : at 14 q ≡ w
  pub words_are : at 15 q ≡ n

-- the other words of an unread row of n dwords and the code c
pub record Bare (q : List ℕ) (n c : ℕ) : Type 0 where
  pub dwords_are : at 1 q ≡ n
  pub code_is : at 2 q ≡ c
  pub no_fields : Fielded q (record { field = 0; saturate = 0; test = 0; precise = 0; length = 0; extended = 0 })
  pub no_chain : Unchained q 0
