-- The rows that go a short way, and what is told of them.
use Rattle.std.specs.Prelude.{◌≡◌, ℕ, suc, ◌+◌, ◌-◌, ◌*◌, ◌/◌, ◌^◌, ◌<◌, ◌≤◌, List, [], ◌∷◌, length, drop, ◌≢◌, nat_lt, slice_index}
use Rattle.format.specs.Rows.{placed}
use Rattle.format.specs.Encoder.{at, extension_of}
use Rattle.operand_deep.specs.Confirm.{confirm}
use Rattle.operand_deep.specs.Walks.{sized, walked, there, row_at}
use Rattle.operand_walk.specs.declared.Ran.{Ran}
use Rattle.operand_walk.specs.declared.Passed.{Passed}

-- ---- an operand that stands alone, by its row, which is in front
-- its only row, with no rows for a second and a third index
pub record Common (q : List ℕ) : Type 0 where
  pub second : at 12 q ≡ 0
  pub third : at 13 q ≡ 0
  pub rows : at 14 q ≡ 1

-- and a form, a selection and signs that a dword and an extension hold
pub record Plain (q : List ℕ) : Type 0 where
  pub common : Common q
  pub selection : at 2 q < slice_index (1 ∷ 1 ∷ 16 ∷ 256 ∷ 4 ∷ []) (at 1 q)
  pub signs : at 3 q < 4

-- a type that a dword holds, and no immediates
pub record Kind (q : List ℕ) : Type 0 where
  pub type : at 0 q < 2 ^ 8
  pub kind : at 0 q / 2 ≡ 2 → ⊥
  pub no_place : at 4 q ≡ 0
  pub no_immediates : at 5 q ≡ 0

-- and indices, of which the first has a word at w
pub record Starts (q : List ℕ) (w : ℕ) : Type 0 where
  pub kinds : Kind q
  pub first : at 8 q ≡ w
  pub dword : w < 2 ^ 32

-- no indices, and no words for them
pub record NoIndices (q : List ℕ) : Type 0 where
  pub indices : (at 6 q ≡ 0) × (at 7 q ≡ 0)
  pub words : (at 8 q ≡ 0) × (at 9 q ≡ 0)
  pub others : (at 10 q ≡ 0) × (at 11 q ≡ 0)

-- n words, which stand at w
pub record Lone (q : List ℕ) (w n : ℕ) : Type 0 where
  pub few : n ≤ 4
  pub size : at 15 q ≡ 1 + n + length (extension_of (at 3 q))
  pub walks : (left : ℕ) (rs ws : List ℕ) (r : ℕ) → q ≡ row_at r rs → w + n ≤ length ws → sized 1 n (at 15 q) ≡ walked (there (confirm (suc left)) rs ws r w)

-- n words, which stand at w, and y extensions
pub record Stands (q : List ℕ) (w n y : ℕ) : Type 0 where
  pub lone : Lone q w n
  pub dwords_are : at 15 q ≡ 1 + n + y

-- one index of a dword, which stands at w, and no immediates
pub record OneIndex (q : List ℕ) (w : ℕ) : Type 0 where
  pub no_place : at 4 q ≡ 0
  pub no_immediates : at 5 q ≡ 0
  pub dimension : at 6 q ≡ 1
  pub reprs : at 7 q ≡ 0
  pub first : at 8 q ≡ w
  pub second : at 9 q ≡ 0
  pub third : at 10 q ≡ 0
  pub child : at 11 q ≡ 0

-- of d indices the first has no operand, and the third, if there is one, has a dword, which stands at w
pub record ThirdIndex (q : List ℕ) (w d : ℕ) : Type 0 where
  pub third : at 10 q ≡ placed (nat_lt 2 d) w
  pub child : at 11 q ≡ 0

abbrev pub OneOrFour : ℕ → Type 0
OneOrFour m = (m ≢ 1) → m ≡ 4

abbrev pub TwoOrThree : ℕ → Type 0
TwoOrThree d = (d ≢ 2) → d ≡ 3

-- ---- operands one after the other
-- k operands from row r and word w of two pools on: their rows, the word behind them, and their dwords
pub data Run (left : ℕ) (rs ws : List ℕ) (r w : ℕ) : ℕ → ℕ → ℕ → ℕ → Type 0 where
  empty : Run left rs ws r w 0 0 w 0
  next : {k p v n b a : ℕ} → Run left rs ws r w k p v n → sized b a (at 15 (drop (16 * (r + p)) rs)) ≡ walked (there (confirm left) rs ws (r + p) v) → Run left rs ws r w (k + 1) (p + b) (v + a) (n + at 15 (drop (16 * (r + p)) rs))

-- k operands, in all words that end at `end`; x tells how many of them have two rows, and their dwords that are neither words nor an operand's first
pub record IsRun (rs : List ℕ) (r w k end : ℕ) (x : Ran) : Type 0 where
  pub past : ℕ
  pub words_from : w ≤ past
  pub words_to : past ≤ end
  pub few : x.dwords ≤ 2 * k
  pub two_rows : x.rows ≤ k
  pub runs : (left : ℕ) (ws : List ℕ) → length ws ≡ end → Run (suc (suc left)) rs ws r w k (k + x.rows) past (k + (past - w) + x.dwords)

-- i operands have been walked, up to the word v, if that is a dword; x is as in IsRun
pub record Running (rs : List ℕ) (r w i v : ℕ) (x : Ran) : Type 0 where
  pub two_rows : x.rows ≤ i
  pub words_from : w ≤ v
  pub words_to : v ≤ w + 4 * i
  pub few : x.dwords ≤ 2 * i
  pub runs : v < 2 ^ 32 → (left : ℕ) (ws : List ℕ) → v ≤ length ws → Run (suc (suc left)) rs ws r w i (i + x.rows) v (i + (v - w) + x.dwords)

-- of k operands so many are walked, which have one row each, and no dwords but words and an operand's first
pub record IsPassed (rs : List ℕ) (r w k : ℕ) (p : Passed) : Type 0 where
  pub within : p.count ≤ k
  pub running : Running rs r w p.count p.word (record { rows = 0; dwords = 0 })

-- ---- an operand of two rows, whose last index is the operand of the second row
-- o dwords before the operand of an index: its representation is 2 or 3, times a unit, and x tells the place of the dword, if there is one
pub record Before (reprs unit x place o : ℕ) : Type 0 where
  pub reprs_are : reprs ≡ (2 + o) * unit
  pub place_is : x ≡ placed (nat_lt 0 o) place

-- row r has d indices from a word w on. The last has o dwords and an operand in the next row, the others have a dword each
pub data Places (q : List ℕ) (r w o : ℕ) : ℕ → Type 0 where
  first : at 6 q ≡ 1 → (at 9 q ≡ 0) × (at 10 q ≡ 0) → (at 12 q ≡ 0) × (at 13 q ≡ 0) → at 11 q ≡ r + 1 → Before (at 7 q) 1 (at 8 q) w o → Places q r w o 1
  second : at 6 q ≡ 2 → (at 10 q ≡ 0) × (at 11 q ≡ 0) → at 13 q ≡ 0 → at 12 q ≡ r + 1 → at 8 q ≡ w → Before (at 7 q) 8 (at 9 q) (w + 1) o → Places q r w o 2
  third : at 6 q ≡ 3 → (at 11 q ≡ 0) × (at 12 q ≡ 0) → at 13 q ≡ r + 1 → at 8 q ≡ w → at 9 q ≡ w + 1 → Before (at 7 q) 64 (at 10 q) (w + 2) o → Places q r w o 3

-- the first of two rows, with n dwords beside its extension
pub record Leading (q : List ℕ) (n : ℕ) : Type 0 where
  pub kinds : Kind q
  pub selection : at 2 q < slice_index (1 ∷ 1 ∷ 16 ∷ 256 ∷ 4 ∷ []) (at 1 q)
  pub signs : at 3 q < 4
  pub rows : at 14 q ≡ 2
  pub size : at 15 q ≡ n + length (extension_of (at 3 q))

-- row r and the next, c, with n words, which stand at w
pub record Pointed (q c : List ℕ) (r w n : ℕ) : Type 0 where
  pub size : at 15 q ≡ 2 + n + length (extension_of (at 3 q))
  pub walks : (left : ℕ) (rs ws : List ℕ) → q ≡ row_at r rs → c ≡ row_at (r + 1) rs → w + n ≤ length ws → sized 2 n (at 15 q) ≡ walked (there (confirm (suc (suc left))) rs ws r w)
