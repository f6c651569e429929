-- "Declarations (kind 4), phases, custom data"; and with them the layout of every code.
use Rattle.std.specs.Prelude.{ℕ, ◌*◌, ◌-◌, ◌^◌, List, [], ◌∷◌, ◌++◌, Bool, true, cond, ◌&&◌, replicate, eqb, leb, ltb}
use Rattle.std.proofs.Math.Option.{Option, none, some}
use Rattle.format.specs.Dwords.{bits}
use Rattle.format.specs.Counts.{◌‥◌, within, operand_count}

-- o: operand; d: dword; small: d under 65,536; s: one more d in model 5.1; list n: d and as many more as its low n bits say; tail: those left
pub data Item : Type 0 where
  o d small s tail : Item
  list : ℕ → Item

-- allowed field bits: none; a to b; 11 to b, of which those from 11 to k hold lo to hi
pub data Field : Type 0 where
  no : Field
  from : ℕ → ℕ → Field
  bounded : ℕ → ℕ → ℕ → ℕ → Field

-- the codes of one d and no o
abbrev pub one_dword : List ℕ
one_dword = 94 ∷ 104 ∷ 144 ∷ 152 ∷ 153 ∷ 154 ∷ 206 ∷ []

-- code, bits, then
abbrev pub declarations : List (List ℕ × Field × List Item)
declarations =
    (88 ∷ [], bounded 22 15 1 10, o ∷ small ∷ s ∷ []) ∷ (156 ∷ [], bounded 23 15 1 10, o ∷ small ∷ s ∷ []) ∷
    (89 ∷ [], from 11 11, o ∷ s ∷ s ∷ []) ∷ (90 ∷ [], bounded 14 14 0 2, o ∷ s ∷ []) ∷ (91 ∷ [], no, o ∷ d ∷ []) ∷
    (92 ∷ 93 ∷ 147 ∷ 148 ∷ [], from 11 16, []) ∷ (95 ∷ 101 ∷ [], no, o ∷ []) ∷ (96 ∷ 97 ∷ 102 ∷ 103 ∷ [], no, o ∷ d ∷ []) ∷
    (98 ∷ [], bounded 14 14 0 7, o ∷ []) ∷ (99 ∷ 100 ∷ [], bounded 14 14 0 7, o ∷ d ∷ []) ∷ (one_dword, no, d ∷ []) ∷
    (105 ∷ 155 ∷ [], no, d ∷ d ∷ d ∷ []) ∷ (106 ∷ [], from 11 19, []) ∷ (149 ∷ [], from 11 12, []) ∷ (150 ∷ 151 ∷ [], bounded 13 13 0 4, []) ∷
    (157 ∷ [], from 16 23, o ∷ s ∷ []) ∷ (158 ∷ [], from 16 23, o ∷ d ∷ s ∷ []) ∷
    (159 ∷ [], no, o ∷ d ∷ []) ∷ (160 ∷ [], no, o ∷ d ∷ d ∷ []) ∷ (161 ∷ [], no, o ∷ s ∷ []) ∷ (162 ∷ [], no, o ∷ d ∷ s ∷ []) ∷
    (120 ∷ [], no, d ∷ o ∷ []) ∷ (145 ∷ [], no, d ∷ list 32 ∷ []) ∷ (146 ∷ [], from 11 11, d ∷ d ∷ list 16 ∷ []) ∷ []

-- the field: these bits, all others cleared, divided by 2,048
unfoldable pub field_in : Field → ℕ → ℕ
field_in no t = 0
field_in (from a b) t = bits a b t * 2 ^ (a - 11)
field_in (bounded b k lo hi) t = bits 11 b t

unfoldable pub in_bounds : Field → ℕ → Bool
in_bounds no t = true
in_bounds (from a b) t = true
in_bounds (bounded b k lo hi) t = leb lo (bits 11 k t) && leb (bits 11 k t) hi

-- a code's kind, 1 to 5; its field bits; what follows its token and what belongs to the token
pub record Layout : Type 0 where
  pub kind : ℕ
  pub field : Field
  pub items : List Item

-- kind 1: counted, with field bits for 61, 111 and 190; kind 2: opaque, known codes with neither count nor layout; both keep a tail
abbrev pub by_count : ℕ → Option ℕ → Layout
by_count c none = record { kind = 2; field = no; items = tail ∷ [] }
by_count c (some n) = record { kind = 1; field = cond (within c (61 ∷ 111 ∷ [])) (from 11 12) (cond (eqb c 190) (from 11 14) no); items = replicate n o ++ tail ∷ [] }

-- a row of the table, or else
unfoldable pub in_table : List (List ℕ × Field × List Item) → ℕ → Layout → Layout
in_table [] c x = x
in_table (row ∷ rows) c x = cond (within c row.0) (record { kind = 4; field = row.1; items = row.2 }) (in_table rows c x)

-- kind 3: 113-116; kind 5: 53, class in 11-15
unfoldable pub layout : ℕ → Layout
layout c =
    cond (within c (113 ‥ 116)) (record { kind = 3; field = no; items = [] })
    (cond (eqb c 53) (record { kind = 5; field = from 11 15; items = tail ∷ [] }) (in_table declarations c (by_count c (operand_count c))))

-- kinds 1 and 2 have extension chains
abbrev pub chained : Layout → Bool
chained x = ltb x.kind 3
