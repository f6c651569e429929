-- "Operand counts": the table, what a token says beside its code, and extension chains.
use Rattle.std.specs.Prelude.{ℕ, zero, suc, ◌+◌, ◌*◌, ◌-◌, ◌%◌, ◌^◌, List, [], ◌∷◌, ◌++◌, Bool, true, false, cond, ◌&&◌, ◌||◌, eqb, ltb}
use Rattle.std.proofs.Math.Option.{Option, none, some}
use Rattle.format.specs.Dwords.{bits}

infix 70 ◌‥◌
-- n numbers from a on
unfoldable pub numbers : ℕ → ℕ → List ℕ
numbers zero a = []
numbers (suc n) a = a ∷ numbers n (suc a)

-- a to b
abbrev pub ◌‥◌ : ℕ → ℕ → List ℕ
a ‥ b = numbers (b + 1 - a) a

unfoldable pub within : ℕ → List ℕ → Bool
within c [] = false
within c (x ∷ l) = eqb c x || within c l

-- the codes of 0, 1, 2, 3, 4, 5 and 6 operands
abbrev pub operand_counts : List (List ℕ)
operand_counts =
    (2 ∷ 7 ∷ 9 ∷ 10 ∷ 18 ‥ 23 ++ 48 ∷ 58 ∷ 62 ∷ 190 ∷ []) ∷
    (3 ∷ 4 ∷ 6 ∷ 8 ∷ 13 ∷ 31 ∷ 44 ∷ 63 ∷ 76 ∷ 117 ‥ 119 ++ 143 ∷ []) ∷
    (5 ∷ 11 ∷ 12 ∷ 25 ‥ 28 ++ 40 ∷ 43 ∷ 47 ∷ 54 ∷ 59 ∷ 64 ‥ 68 ++ 75 ∷ 86 ∷ 111 ∷ 121 ‥ 125 ++ 129 ‥ 131 ++ 134 ‥ 137 ++ 141 ∷ 178 ∷ 179 ∷ 199 ∷ 201 ∷ 202 ∷ 205 ∷ 212 ∷ 214 ‥ 217) ∷
    (0 ∷ 1 ∷ 14 ‥ 17 ++ 24 ∷ 29 ∷ 30 ∷ 32 ‥ 34 ++ 36 ∷ 37 ∷ 39 ∷ 41 ∷ 42 ∷ 45 ∷ 49 ∷ 51 ∷ 52 ∷ 56 ∷ 57 ∷ 60 ∷ 61 ∷ 77 ∷ 79 ∷ 80 ∷ 83 ‥ 85 ++ 87 ∷ 110 ∷ 163 ‥ 166 ++ 169 ‥ 171 ++ 173 ‥ 177 ++ 191 ‥ 198 ++ 203 ∷ 204 ∷ 210 ∷ []) ∷
    (35 ∷ 38 ∷ 46 ∷ 50 ∷ 55 ∷ 69 ∷ 78 ∷ 81 ∷ 82 ∷ 108 ∷ 109 ∷ 132 ∷ 133 ∷ 138 ∷ 139 ∷ 167 ∷ 168 ∷ 172 ∷ 180 ‥ 184 ++ 186 ‥ 189 ++ 200 ∷ 211 ∷ 213 ∷ []) ∷
    (70 ‥ 72 ++ 74 ∷ 126 ∷ 127 ∷ 140 ∷ 142 ∷ 185 ∷ []) ∷
    (73 ∷ 128 ∷ []) ∷ []

-- the line that a code stands in, the first being n
unfoldable pub line_of : ℕ → List (List ℕ) → ℕ → Option ℕ
line_of n [] c = none
line_of n (l ∷ ls) c = cond (within c l) (some n) (line_of (suc n) ls c)

-- a code's operand count, if it has one
unfoldable pub operand_count : ℕ → Option ℕ
operand_count c = line_of 0 operand_counts c

-- the parts of a token beside its code; extended is bit 31
pub record Fields : Type 0 where
  pub field : ℕ
  pub saturate : ℕ
  pub test : ℕ
  pub precise : ℕ
  pub length : ℕ
  pub extended : ℕ

-- the token that has them: the field from bit 11, 13 saturate, 18 test, 19-22 precise, 24-30 length, 31
abbrev pub token_with : ℕ → Fields → ℕ
token_with c f = c + f.field * 2 ^ 11 + f.saturate * 2 ^ 13 + f.test * 2 ^ 18 + f.precise * 2 ^ 19 + f.length * 2 ^ 24 + f.extended * 2 ^ 31

-- an extension's type: bits 0-5
abbrev pub extension_type : ℕ → ℕ
extension_type e = e % 2 ^ 6

-- its bits below 31. Type 1: u, v and w in 9-12, 13-16, 17-20, other bits zero; types 2 and 3 keep bits 0-30
unfoldable pub lower_bits : ℕ → ℕ
lower_bits e = cond (eqb (extension_type e) 1) (1 + bits 9 20 e * 2 ^ 9) (e % 2 ^ 31)

-- types 1, 2, 3, rising from above k, each at most once
unfoldable pub rising : ℕ → List ℕ → Bool
rising k [] = true
rising k (e ∷ l) = ltb k (extension_type e) && ltb (extension_type e) 4 && eqb e (lower_bits e + bits 31 31 e * 2 ^ 31) && rising (extension_type e) l

-- the extension of type k, 0 if there is none
unfoldable pub of_type : ℕ → List ℕ → ℕ
of_type k [] = 0
of_type k (e ∷ l) = cond (eqb (extension_type e) k) e (of_type k l)

-- extension bits: 1, 2, 4 for types 1, 2, 3
unfoldable pub type_bits : List ℕ → ℕ
type_bits [] = 0
type_bits (e ∷ l) = 2 ^ (extension_type e - 1) + type_bits l
