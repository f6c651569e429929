-- An instruction, read from its own dwords and no others; what checks 13 and 14 say of it.
use Rattle.std.specs.Prelude.{ℕ, ◌%◌, ◌^◌, List, [], ◌∷◌, ◌++◌, Bool, cond, not, ◌&&◌, ◌||◌, length, eqb, ltb}
use Rattle.format.specs.Dwords.{bits, follows, Got, malformed, got, Reader, then, ◌>>=◌, give, fail, dword, some, none_left, chain}
use Rattle.format.specs.Framing.{code, code_of, long, sized}
use Rattle.format.specs.Counts.{within, Fields, token_with, rising}
use Rattle.format.specs.Declarations.{Item, o, d, small, s, tail, list, Layout, layout, chained, field_in, in_bounds}
use Rattle.format.specs.Operands as op
use Rattle.format.specs.Operands.{Tree, none, plain}

-- an instruction as it was read: unread; or its token, the length dword or extension chain after it, and its parts
pub data Instruction : Type 0 where
  unread : List ℕ → Instruction
  pieces : ℕ → List ℕ → List Tree → Instruction

-- what comes of an instruction: its pieces; or 13; or 14
pub data Reading : Type 0 where
  ok : Instruction → Reading
  miscounted inexact : Reading

-- the length dword, or with bit 31 the chain of kinds 1 and 2
unfoldable pub read_head : Layout → ℕ → Reader (List ℕ)
read_head x t = cond (sized t) (some 1) (chain (chained x && follows t))

abbrev pub as_part : Reader (List ℕ) → Reader Tree
as_part p ds = then (p ds) (λ x. give (plain x none))

module _ (model51 : Bool) where
  unfoldable pub read_item : Item → Reader Tree
  read_item o = op.operand 64
  read_item d = as_part (some 1)
  read_item small = do
    x ← dword
    cond (ltb x 65_536) (give (plain (x ∷ []) none)) fail
  read_item s = as_part (some (cond model51 1 0))
  read_item tail = λ ds. got (plain ds none) []
  read_item (list b) = do
    n ← dword
    x ← some (n % 2 ^ b)
    give (plain (n ∷ x) none)

  unfoldable pub read_items : List Item → Reader (List Tree)
  read_items [] = give []
  read_items (i ∷ l) = do
    p ← read_item i
    ps ← read_items l
    give (p ∷ ps)

  -- all the dwords of an instruction, by the layout of its code
  unfoldable pub split : Layout → Reader Instruction
  split x = do
    t ← dword
    e ← read_head x t
    ps ← read_items x.items
    none_left (pieces t e ps)

-- an instruction that does not split so: 13 if it has a count, above 0; otherwise 14
unfoldable pub fault : Layout → Reading
fault x = cond (eqb x.kind 1 && ltb 1 (length x.items)) miscounted inexact

-- saturate (not 190) and precise: kinds 1 to 3; test: 3 5 8 13 31 63; the length, if it is here; bit 31: kinds 1 and 2, and the long form
unfoldable pub fields_of : Layout → ℕ → Fields
fields_of x t = record {
  field = field_in x.field t;
  saturate = cond (ltb x.kind 4 && not (eqb (code t) 190)) (bits 13 13 t) 0;
  test = cond (within (code t) (3 ∷ 5 ∷ 8 ∷ 13 ∷ 31 ∷ 63 ∷ [])) (bits 18 18 t) 0;
  precise = cond (ltb x.kind 4) (bits 19 22 t) 0;
  length = cond (sized t) 0 (bits 24 30 t);
  extended = cond (chained x || long t) (bits 31 31 t) 0;
}

-- the extension chain of kinds 1 and 2
unfoldable pub extensions : Layout → List ℕ → List ℕ
extensions x e = cond (chained x) e []

-- custom data of class 3 has a multiple of 4 dwords after the two
unfoldable pub exact_class : Layout → ℕ → List Tree → Bool
exact_class x t ps = not (eqb x.kind 5 && eqb (bits 11 15 t) 3) || eqb (length (op.parts_dwords ps) % 4) 0

-- the token is its fields and nothing else, and so on: dwords exactly those of the layout
unfoldable pub exact_pieces : Layout → ℕ → List ℕ → List Tree → Bool
exact_pieces x t e ps = eqb t (token_with (code t) (fields_of x t)) && rising 0 (extensions x e) && in_bounds x.field t && exact_class x t ps && op.exact_parts ps

unfoldable pub checked : Layout → Instruction → Reading
checked x (unread ds) = ok (unread ds)
checked x (pieces t e ps) = cond (exact_pieces x t e ps) (ok (pieces t e ps)) inexact

unfoldable pub judged : Layout → Got Instruction → Reading
judged x malformed = fault x
judged x (got i r) = checked x i

-- under a ceiling, in model 5.1 or not: a code not known is unread
unfoldable pub read : ℕ → Bool → List ℕ → Reading
read ceiling model51 ds = let x = layout (code_of ds) in cond (ltb (code_of ds) ceiling) (judged x (split model51 x ds)) (ok (unread ds))

-- the dwords of an instruction, as they were read
unfoldable pub dwords : Instruction → List ℕ
dwords (unread ds) = ds
dwords (pieces t e ps) = t ∷ e ++ op.parts_dwords ps

unfoldable pub all_dwords : List Instruction → List ℕ
all_dwords [] = []
all_dwords (i ∷ l) = dwords i ++ all_dwords l
