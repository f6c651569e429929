-- What is written of an instruction: its row, the rows of its operands and its words.
use Rattle.std.specs.Prelude.{ℕ, ◌+◌, ◌-◌, ◌*◌, ◌%◌, ◌^◌, ◌<◌, ◌≤◌, ◌≡◌, true, false, cond, List, [], ◌∷◌, ◌++◌, length, drop, replicate}
use Rattle.std.proofs.Math.Seq.{slice}
use Rattle.format.specs.Dwords.{bits, Got, got, Reader}
use Rattle.format.specs.Framing.{code, long}
use Rattle.format.specs.Counts.{of_type, type_bits, rising}
use Rattle.format.specs.Declarations.{Layout, o}
use Rattle.format.specs.Operands as op
use Rattle.format.specs.Operands.{Tree}
use Rattle.format.specs.Instructions.{Instruction, Reading, ok, read_items, fields_of, extensions}
use Rattle.format.specs.Rows.{parts_rows, parts_words, parts_table, parts, instruction_row}
use Rattle.layouts.specs.declared.Shape.{Shape}
use Rattle.layouts.specs.Shapes.{Sound, meant}
use Rattle.layouts.specs.declared.Kind.TheVariants.{Counted}
use Rattle.layouts.specs.Table.{plain_shape, width_of}
use Rattle.operand_rows.specs.declared.Sums.{Sums}
use Rattle.instruction_write.specs.declared.Place.{Place}
use Rattle.instruction_write.specs.declared.Row.{Row}
use Rattle.instruction_write.specs.declared.Sizes.{Sizes}

-- the sixteen numbers of a row
abbrev pub listed : Row → List ℕ
listed r =
    r.offset ∷ r.dwords ∷ r.code ∷ r.kind ∷ r.saturate ∷ r.test ∷ r.precise ∷ r.field ∷
    r.extensions ∷ r.offsets ∷ r.second ∷ r.third ∷ r.row ∷ r.operands ∷ r.word ∷ r.words ∷ []

-- the bit of a type
abbrev pub type_bit : ℕ → ℕ
type_bit k = 2 ^ (k - 1)

abbrev pub long_bit : ℕ → ℕ
long_bit t = cond (long t) 8 0

-- the row of a token t with the dwords e after it: byte offset, dwords, first operand row, operands, first word, words
unfoldable pub row_for : Layout → ℕ → List ℕ → ℕ → ℕ → ℕ → ℕ → ℕ → ℕ → List ℕ
row_for x t e at n r k w m =
    let f = fields_of x t in
    let es = extensions x e in
    at ∷ n ∷ code t ∷ x.kind ∷ f.saturate ∷ f.test ∷ f.precise ∷ f.field ∷
    (type_bits es + long_bit t) ∷ bits 9 20 (of_type 1 es) ∷ (of_type 2 es % 2 ^ 31) ∷ (of_type 3 es % 2 ^ 31) ∷ r ∷ k ∷ w ∷ m ∷ []

-- the row of an instruction that is not read
abbrev pub plain_row : ℕ → ℕ → ℕ → ℕ → ℕ → List ℕ
plain_row n c at r w = at ∷ n ∷ c ∷ 0 ∷ 0 ∷ 0 ∷ 0 ∷ 0 ∷ 0 ∷ 0 ∷ 0 ∷ 0 ∷ r ∷ 0 ∷ w ∷ n ∷ []

-- the row of an instruction of a code, of so many dwords, operands and words, without what its token and its extensions tell
abbrev pub bare : Place → ℕ → ℕ → ℕ → ℕ → ℕ → Row
bare p n c k m ws =
    record {
      offset = p.offset;
      dwords = n;
      code = c;
      kind = k;
      saturate = 0;
      test = 0;
      precise = 0;
      field = 0;
      extensions = 0;
      offsets = 0;
      second = 0;
      third = 0;
      row = p.row;
      operands = m;
      word = p.word;
      words = ws;
    }

-- the shape of a code of n operands
abbrev pub counted_shape : ℕ → ℕ → Shape
counted_shape c n = plain_shape Counted (width_of c) n true

-- a row can be made: what stands after the token is exact, and the numbers fit
pub record RowReady (s : Shape) (ds : List ℕ) (end words : ℕ) : Type 0 where
  pub sound : Sound s
  pub from : 1 ≤ end
  pub within : end ≤ length ds
  pub rises : rising 0 (extensions (meant s) (slice 1 end ds)) ≡ true
  pub few : length ds < 2 ^ 32
  pub words_fit : words < 2 ^ 32

-- there is room for n dwords and a row
pub record UnreadRoom (n is ws : ℕ) : Type 0 where
  pub few : n < 2 ^ 32
  pub for_row : 16 ≤ is
  pub for_words : n ≤ ws

-- they stand in front of what was there
pub record Unread (ds : List ℕ) (c at row word : ℕ) (is ws : List ℕ) (a : Sizes) (is' ws' : List ℕ) : Type 0 where
  pub rows_are : a.rows ≡ 0
  pub words_are : a.words ≡ length ds
  pub row_put : is' ≡ plain_row (length ds) c at row word ++ drop 16 is
  pub words_put : ws' ≡ ds ++ drop (length ds) ws

-- so many operands
abbrev pub operands_of : ℕ → Reader (List Tree)
operands_of k = read_items false (replicate k o)

-- trees were read of n dwords, and there is room for them in pools of so many numbers, whose first stand at row and word
pub record Room (g : Got (List Tree)) (n at ops ws row word : ℕ) : Type 0 where
  pub trees : List Tree
  pub rest : List ℕ
  pub is : g ≡ got trees rest
  pub within : at ≤ n
  pub for_rows : 16 * parts_rows trees ≤ ops
  pub for_words : length (parts_words trees) ≤ ws
  pub row_fits : row + parts_rows trees < 2 ^ 32
  pub word_fits : word + length (parts_words trees) < 2 ^ 32
  pub few : n < 2 ^ 32

-- their rows and words stand in front of what was there
pub record Put (ps : List Tree) (row word : ℕ) (ops ws : List ℕ) (rows words : ℕ) (ops' ws' : List ℕ) : Type 0 where
  pub rows_are : rows ≡ parts_rows ps
  pub words_are : words ≡ length (parts_words ps)
  pub rows_put : ops' ≡ parts_table row word ps ++ drop (16 * parts_rows ps) ops
  pub words_put : ws' ≡ parts_words ps ++ drop (length (parts_words ps)) ws

abbrev pub WroteRun : Got (List Tree) → ℕ → ℕ → List ℕ → List ℕ → Sums → List ℕ → List ℕ → Type 0
WroteRun g row word ops ws a ops' ws' = (ps : List Tree) (r : List ℕ) → g ≡ got ps r → Put ps row word ops ws a.rows a.words ops' ws' × (a.dwords ≡ length (op.parts_dwords ps))

-- all items of an instruction were read, and there is room for them
pub record BodyRoom (g : Got (List Tree)) (n at ops ws row word : ℕ) : Type 0 where
  pub room : Room g n at ops ws row word
  pub whole : room.rest ≡ []

abbrev pub WroteBody : Got (List Tree) → ℕ → ℕ → List ℕ → List ℕ → Sizes → List ℕ → List ℕ → Type 0
WroteBody g row word ops ws a ops' ws' = (ps : List Tree) → g ≡ got ps [] → Put ps row word ops ws a.rows a.words ops' ws'

-- an instruction was accepted, and there is room for it
pub record Ready (g : Reading) (ds : List ℕ) (rows ops ws at row word : ℕ) : Type 0 where
  pub some : 0 < length ds
  pub instruction : Instruction
  pub is : g ≡ ok instruction
  pub for_row : 16 ≤ rows
  pub for_rows : 16 * parts_rows (parts instruction) ≤ ops
  pub for_words : length (parts_words (parts instruction)) ≤ ws
  pub at_fits : at + 4 * length ds < 2 ^ 32
  pub row_fits : row + parts_rows (parts instruction) < 2 ^ 32
  pub word_fits : word + length (parts_words (parts instruction)) < 2 ^ 32

-- its row, its operands' rows and its words stand in front of what was there
pub record Stored (i : Instruction) (at row word : ℕ) (is ops ws : List ℕ) (a : Sizes) (is' ops' ws' : List ℕ) : Type 0 where
  pub row_put : is' ≡ instruction_row at row word i ++ drop 16 is
  pub put : Put (parts i) row word ops ws a.rows a.words ops' ws'

abbrev pub Written : Reading → ℕ → ℕ → ℕ → List ℕ → List ℕ → List ℕ → Sizes → List ℕ → List ℕ → List ℕ → Type 0
Written g at row word is ops ws a is' ops' ws' = (i : Instruction) → g ≡ ok i → Stored i at row word is ops ws a is' ops' ws'
