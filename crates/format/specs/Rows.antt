-- "Rows": what an accepted chunk puts into the three pools. A row is 16 numbers; r operand rows and w words stand before it.
use Rattle.std.specs.Prelude.{ℕ, ◌+◌, ◌*◌, ◌%◌, ◌^◌, List, [], ◌∷◌, ◌++◌, Bool, cond, length, ltb}
use Rattle.format.specs.Dwords.{bits}
use Rattle.format.specs.Framing.{code, code_of, long}
use Rattle.format.specs.Counts.{of_type, type_bits}
use Rattle.format.specs.Operands as op
use Rattle.format.specs.Operands.{Tree, none, plain, node}
use Rattle.format.specs.Declarations.{layout}
use Rattle.format.specs.Instructions.{Instruction, unread, pieces, fields_of, extensions, dwords}

-- words: immediates, index dwords and other dwords as read
unfoldable pub tree_words : Tree → List ℕ
tree_words none = []
tree_words (plain x c) = x ++ tree_words c
tree_words (node t e m a b c) = m ++ tree_words a ++ tree_words b ++ tree_words c

-- rows in a tree
unfoldable pub tree_rows : Tree → ℕ
tree_rows none = 0
tree_rows (plain x c) = tree_rows c
tree_rows (node t e m a b c) = 1 + tree_rows a + tree_rows b + tree_rows c

-- a place, if it is used; unused fields are 0
abbrev pub placed : Bool → ℕ → ℕ
placed used p = cond used p 0

-- the word place of an index of representation i, used with a dword of its own; its child row, used with a child
abbrev pub word_place : ℕ → ℕ → ℕ
word_place i p = placed (ltb 0 (op.own i)) p

abbrev pub child_row : ℕ → ℕ → ℕ
child_row i p = placed (op.nests i) p

-- type, form, selection, modifiers; first immediate, their number, dimension, representations; three word places; three child rows; rows
-- in its tree; dwords taken
unfoldable pub operand_row : ℕ → ℕ → ℕ → List ℕ → List ℕ → Tree → Tree → Tree → List ℕ
operand_row r w t e m a b c =
    let w₁ = w + length m + length (tree_words a) in
    op.type_of t ∷ op.form t ∷ op.selection t ∷ op.modifiers e ∷ placed (ltb 0 (length m)) w ∷ length m ∷ op.dimension t ∷ op.reprs t ∷
    word_place (op.repr 0 t) (w + length m) ∷ word_place (op.repr 1 t) w₁ ∷ word_place (op.repr 2 t) (w₁ + length (tree_words b)) ∷
    child_row (op.repr 0 t) (r + 1) ∷ child_row (op.repr 1 t) (r + 1 + tree_rows a) ∷ child_row (op.repr 2 t) (r + 1 + tree_rows a + tree_rows b) ∷
    tree_rows (node t e m a b c) ∷ length (op.dwords (node t e m a b c)) ∷ []

-- an operand's row precedes its children's
unfoldable pub tree_table : ℕ → ℕ → Tree → List ℕ
tree_table r w none = []
tree_table r w (plain x c) = tree_table r (w + length x) c
tree_table r w (node t e m a b c) =
    let w₁ = w + length m + length (tree_words a) in
    operand_row r w t e m a b c ++
    tree_table (r + 1) (w + length m) a ++ tree_table (r + 1 + tree_rows a) w₁ b ++ tree_table (r + 1 + tree_rows a + tree_rows b) (w₁ + length (tree_words b)) c

-- the same of several parts
unfoldable pub parts_words : List Tree → List ℕ
parts_words [] = []
parts_words (x ∷ l) = tree_words x ++ parts_words l

unfoldable pub parts_rows : List Tree → ℕ
parts_rows [] = 0
parts_rows (x ∷ l) = tree_rows x + parts_rows l

unfoldable pub parts_table : ℕ → ℕ → List Tree → List ℕ
parts_table r w [] = []
parts_table r w (x ∷ l) = tree_table r w x ++ parts_table (r + tree_rows x) (w + length (tree_words x)) l

-- top-level operands
unfoldable pub top_level : List Tree → ℕ
top_level [] = 0
top_level (none ∷ l) = top_level l
top_level (plain x c ∷ l) = top_level l
top_level (node t e m a b c ∷ l) = 1 + top_level l

-- an instruction's parts: all the dwords of an unread one
unfoldable pub parts : Instruction → List Tree
parts (unread ds) = plain ds none ∷ []
parts (pieces t e ps) = ps

-- words 4-11 and 13 of an unread row are 0
unfoldable pub unread_row : ℕ → ℕ → ℕ → List ℕ → List ℕ
unread_row at r w ds = at ∷ length ds ∷ code_of ds ∷ 0 ∷ 0 ∷ 0 ∷ 0 ∷ 0 ∷ 0 ∷ 0 ∷ 0 ∷ 0 ∷ r ∷ 0 ∷ w ∷ length ds ∷ []

-- byte offset, dwords, code, kind; saturate, test, precise, field; extension bits (1, 2, 4 for types; 8 long form), u + 16v + 256w, type 2
-- dword, type 3 dword (bit 31 removed); first operand row, top-level operands, first word, word count
unfoldable pub instruction_row : ℕ → ℕ → ℕ → Instruction → List ℕ
instruction_row at r w (unread ds) = unread_row at r w ds
instruction_row at r w (pieces t e ps) =
    let x = layout (code t) in
    let f = fields_of x t in
    let es = extensions x e in
    at ∷ length (dwords (pieces t e ps)) ∷ code t ∷ x.kind ∷ f.saturate ∷ f.test ∷ f.precise ∷ f.field ∷
    (type_bits es + cond (long t) 8 0) ∷ bits 9 20 (of_type 1 es) ∷ (of_type 2 es % 2 ^ 31) ∷ (of_type 3 es % 2 ^ 31) ∷
    r ∷ top_level ps ∷ w ∷ length (parts_words ps) ∷ []

-- rows go into what is left of each pool, in reading order
unfoldable pub instruction_rows : ℕ → ℕ → ℕ → List Instruction → List ℕ
instruction_rows at r w [] = []
instruction_rows at r w (i ∷ l) =
    instruction_row at r w i ++ instruction_rows (at + 4 * length (dwords i)) (r + parts_rows (parts i)) (w + length (parts_words (parts i))) l

-- all parts, whose rows and words fill the other two pools
unfoldable pub all_parts : List Instruction → List Tree
all_parts [] = []
all_parts (i ∷ l) = parts i ++ all_parts l
