-- What is written of an operand by itself: its row and its words.
use Rattle.std.specs.Prelude.{ℕ, ◌+◌, ◌-◌, ◌^◌, ◌<◌, ◌≤◌, ◌≡◌, List, [], ◌∷◌, ◌++◌, length, take, drop, ltb}
use Rattle.format.specs.Operands.{type_of, form, selection, immediates, dimension, reprs, repr}
use Rattle.format.specs.Rows.{placed, word_place, child_row}
use Rattle.operand_rows.specs.declared.Row.{Row}
use Rattle.operand_rows.specs.declared.Sums.{Sums}

-- the sixteen numbers of a row
abbrev pub listed : Row → List ℕ
listed r =
    r.kind ∷ r.form ∷ r.selection ∷ r.modifiers ∷ r.imm ∷ r.imms ∷ r.dimension ∷ r.reprs ∷
    r.w0 ∷ r.w1 ∷ r.w2 ∷ r.c0 ∷ r.c1 ∷ r.c2 ∷ r.rows ∷ r.dwords ∷ []

-- the row of an operand's dword t with the modifiers x; its indices have their words at w₀, w₁, w₂ and their children at the rows r₀, r₁, r₂;
-- the rows of its tree, and its dwords
unfoldable pub row_for : ℕ → ℕ → ℕ → ℕ → ℕ → ℕ → ℕ → ℕ → ℕ → ℕ → List ℕ
row_for t x w₀ w₁ w₂ r₀ r₁ r₂ rows ds =
    type_of t ∷ form t ∷ selection t ∷ x ∷ 0 ∷ 0 ∷ dimension t ∷ reprs t ∷
    word_place (repr 0 t) w₀ ∷ word_place (repr 1 t) w₁ ∷ word_place (repr 2 t) w₂ ∷
    child_row (repr 0 t) r₀ ∷ child_row (repr 1 t) r₁ ∷ child_row (repr 2 t) r₂ ∷ rows ∷ ds ∷ []

-- with no operand in it, and without the numbers of its immediates or indices; its dwords
abbrev pub lone : ℕ → ℕ → ℕ → Row
lone t x ds =
    record {
      kind = type_of t;
      form = form t;
      selection = selection t;
      modifiers = x;
      imm = 0;
      imms = 0;
      dimension = 0;
      reprs = 0;
      w0 = 0;
      w1 = 0;
      w2 = 0;
      c0 = 0;
      c1 = 0;
      c2 = 0;
      rows = 1;
      dwords = ds;
    }

-- with no operand in it: m immediates at i, d indices of one dword
abbrev pub lone_row : ℕ → ℕ → ℕ → ℕ → ℕ → ℕ → ℕ → ℕ → ℕ → List ℕ
lone_row t x i m d w₀ w₁ w₂ ds =
    type_of t ∷ form t ∷ selection t ∷ x ∷ i ∷ m ∷ d ∷ 0 ∷ w₀ ∷ w₁ ∷ w₂ ∷ 0 ∷ 0 ∷ 0 ∷ 1 ∷ ds ∷ []

-- with immediates from word w on
unfoldable pub leaf_row : ℕ → ℕ → ℕ → ℕ → List ℕ
leaf_row t x w ds = lone_row t x (placed (ltb 0 (immediates t)) w) (immediates t) 0 0 0 0 ds

-- with indices of one dword from word w on
unfoldable pub flat_row : ℕ → ℕ → ℕ → ℕ → List ℕ
flat_row t x w ds = lone_row t x 0 0 (dimension t) (placed (ltb 0 (dimension t)) w) (placed (ltb 1 (dimension t)) (w + 1)) (placed (ltb 2 (dimension t)) (w + 2)) ds

-- the numbers of a row fit: sums after the first, the second and all indices
pub record Fits (row word : ℕ) (a b c : Sums) : Type 0 where
  pub words₁ : a.words ≤ b.words
  pub words₂ : b.words ≤ c.words
  pub rows₀ : 1 ≤ a.rows
  pub rows₁ : a.rows ≤ b.rows
  pub rows₂ : b.rows ≤ c.rows
  pub word_fits : word + c.words < 2 ^ 32
  pub row_fits : row + c.rows < 2 ^ 32
  pub dwords_fit : c.dwords < 2 ^ 32

-- there is room for one row and the n dwords from a place b on
pub record Lone (l at b n ops ws word : ℕ) : Type 0 where
  pub from : at < b
  pub within : b + n ≤ l
  pub for_rows : 16 ≤ ops
  pub for_words : n ≤ ws
  pub word_fits : word + n < 2 ^ 32
  pub dwords_fit : b - at + n < 2 ^ 32

-- they stand in front of what was there
pub record Stored (ds : List ℕ) (at b n : ℕ) (r ops ws : List ℕ) (a : Sums) (ops' ws' : List ℕ) : Type 0 where
  pub rows_are : a.rows ≡ 1
  pub words_are : a.words ≡ n
  pub dwords_are : a.dwords ≡ b - at + n
  pub rows_put : ops' ≡ r ++ drop 16 ops
  pub words_put : ws' ≡ take n (drop b ds) ++ drop n ws

-- l stands in a list from a place on, over what was there
abbrev pub Over : ℕ → List ℕ → List ℕ → List ℕ → Type 0
Over a l xs xs' = xs' ≡ take a xs ++ l ++ drop (a + length l) xs

-- there is room for o dwords behind what is counted
pub record OwnRoom (n at o ws : ℕ) (b : Sums) : Type 0 where
  pub within : at + b.dwords + o ≤ n
  pub for_words : b.words + o ≤ ws

-- they stand there
pub record Owned (ds : List ℕ) (at o : ℕ) (b : Sums) (ws : List ℕ) (a : Sums) (ws' : List ℕ) : Type 0 where
  pub rows_are : a.rows ≡ b.rows
  pub words_are : a.words ≡ b.words + o
  pub dwords_are : a.dwords ≡ b.dwords + o
  pub words_put : Over b.words (take o (drop (at + b.dwords) ds)) ws ws'
