-- "Operands".
use Rattle.std.specs.Prelude.{ℕ, zero, suc, ◌+◌, ◌*◌, ◌%◌, ◌^◌, List, [], ◌∷◌, ◌++◌, Bool, true, false, cond, ◌&&◌, ◌||◌, get_or, eqb, ltb, leb}
use Rattle.format.specs.Dwords.{bits_from, bits, follows, Reader, ◌>>=◌, give, fail, dword, some, chain}

-- type: bits 12-19
abbrev pub type_of : ℕ → ℕ
type_of t = bits 12 19 t

-- dimension: bits 20-21
abbrev pub dimension : ℕ → ℕ
dimension t = bits 20 21 t

-- types 4 and 5 hold immediate dwords
unfoldable pub immediate : ℕ → Bool
immediate t = eqb (type_of t) 4 || eqb (type_of t) 5

-- form 0 none, 1 one, 2 mask, 3 swizzle, 4 scalar, by component count (0-1) and mode (2-3); count 3 and mode 3 are read as none
unfoldable pub form : ℕ → ℕ
form t = cond (eqb (t % 2 ^ 2) 1) 1 (cond (eqb (t % 2 ^ 2) 2 && ltb (bits 2 3 t) 3) (2 + bits 2 3 t) 0)

-- mask 4-7, swizzle 4-11, scalar 4-5
unfoldable pub selection : ℕ → ℕ
selection t = bits_from 4 (get_or (0 ∷ 0 ∷ 4 ∷ 8 ∷ 2 ∷ []) (form t) 0) t

-- 0, 1 or 4 immediate dwords for none, one, four components
unfoldable pub immediates : ℕ → ℕ
immediates t = get_or (0 ∷ 1 ∷ 4 ∷ 4 ∷ 4 ∷ []) (form t) 0

-- representations: 22-24, 25-27, 28-30, as many as the dimension says
unfoldable pub reprs : ℕ → ℕ
reprs t = bits_from 22 (3 * dimension t) t

-- the representation of index i; 8, which none has, past the dimension
unfoldable pub repr : ℕ → ℕ → ℕ
repr i t = cond (ltb i (dimension t)) (bits_from (22 + 3 * i) 3 t) 8

-- 0: one dword. 1: two. 2: an operand. 3: one dword, operand. 4: two dwords, operand
unfoldable pub own : ℕ → ℕ
own r = get_or (1 ∷ 2 ∷ 0 ∷ 1 ∷ 2 ∷ []) r 0

unfoldable pub nests : ℕ → Bool
nests r = leb 2 r && ltb r 5

-- 5-7: malformed
unfoldable pub known : ℕ → Bool
known r = ltb r 5 || eqb r 8

-- what was read: nothing; dwords as they are, with what follows; an operand: its dword, extensions, immediates and three indices
pub data Tree : Type 0 where
  none : Tree
  plain : List ℕ → Tree → Tree
  node : ℕ → List ℕ → List ℕ → Tree → Tree → Tree → Tree

-- an index of representation r, whose operand is read by p
unfoldable pub read_index : Reader Tree → ℕ → Reader Tree
read_index p r = cond (known r) (do
  own ← some (own r)
  child ← cond (nests r) p (give none)
  give (plain own child)) fail

-- immediates; a dimension above 0 is malformed
unfoldable pub read_immediates : ℕ → List ℕ → Reader Tree
read_immediates t e = cond (eqb (dimension t) 0) (do
  m ← some (immediates t)
  give (node t e m none none none)) fail

unfoldable pub read_indices : Reader Tree → ℕ → List ℕ → Reader Tree
read_indices p t e = do
  a ← read_index p (repr 0 t)
  b ← read_index p (repr 1 t)
  c ← read_index p (repr 2 t)
  give (node t e [] a b c)

-- an operand with so many depths left: 64 at depth 0; one at depth 64 is malformed
unfoldable pub operand : ℕ → Reader Tree
operand zero = fail
operand (suc k) = do
  t ← dword
  e ← chain (follows t)
  cond (immediate t) (read_immediates t e) (read_indices (operand k) t e)

-- the dwords of a tree, as they were read
unfoldable pub dwords : Tree → List ℕ
dwords none = []
dwords (plain x c) = x ++ dwords c
dwords (node t e m a b c) = t ∷ e ++ m ++ dwords a ++ dwords b ++ dwords c

-- an extension of type 1: bits 6-13 0 to 3 (negate 1, abs 2), 14-16 precision, 17 non-uniform, the rest zero
abbrev pub extension_with : ℕ → ℕ → ℕ → ℕ
extension_with signs precision nonUniform = 1 + signs * 2 ^ 6 + precision * 2 ^ 14 + nonUniform * 2 ^ 17

-- modifiers: 1 negate, 2 abs, 4 non-uniform, precision times 16
unfoldable pub modifiers : List ℕ → ℕ
modifiers [] = 0
modifiers (x ∷ l) = bits 6 7 x + bits 17 17 x * 4 + bits 14 16 x * 16

-- one extension of type 1, present exactly when some modifier is non-zero
unfoldable pub exact_extension : List ℕ → Bool
exact_extension [] = true
exact_extension (x ∷ []) = ltb 0 (modifiers (x ∷ [])) && eqb x (extension_with (bits 6 7 x) (bits 14 16 x) (bits 17 17 x))
exact_extension (x ∷ y ∷ l) = false

-- an operand's dword from its parts: bits 0-3 by its form; extended is bit 31
abbrev pub dword_with : ℕ → ℕ → ℕ → ℕ → ℕ → ℕ → ℕ
dword_with form selection type dimension reprs extended = get_or (0 ∷ 1 ∷ 2 ∷ 6 ∷ 10 ∷ []) form 0 + selection * 2 ^ 4 + type * 2 ^ 12 + dimension * 2 ^ 20 + reprs * 2 ^ 22 + extended * 2 ^ 31

-- unused bits zero
unfoldable pub exact_dword : ℕ → Bool
exact_dword t = eqb t (dword_with (form t) (selection t) (type_of t) (dimension t) (reprs t) (bits 31 31 t))

unfoldable pub exact : Tree → Bool
exact none = true
exact (plain x c) = exact c
exact (node t e m a b c) = exact_dword t && exact_extension e && exact a && exact b && exact c

-- the same of several
unfoldable pub parts_dwords : List Tree → List ℕ
parts_dwords [] = []
parts_dwords (x ∷ l) = dwords x ++ parts_dwords l

unfoldable pub exact_parts : List Tree → Bool
exact_parts [] = true
exact_parts (x ∷ l) = exact x && exact_parts l
