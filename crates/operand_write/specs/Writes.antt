-- What is written of an operand: its rows and its words.
use Rattle.std.specs.Prelude.{ℕ, ◌+◌, ◌*◌, ◌^◌, ◌<◌, ◌≤◌, ◌≡◌, List, ◌++◌, length, drop}
use Rattle.std.proofs.Math.Seq.{slice}
use Rattle.format.specs.Dwords.{Got, got}
use Rattle.format.specs.Operands.{Tree, modifiers, dwords}
use Rattle.format.specs.Rows.{tree_rows, tree_words, tree_table}
use Rattle.operand_rows.specs.Writes.{Over}
use Rattle.operand_rows.specs.declared.Sums.{Sums}

-- an operand's extensions stand in front of a place b, with the modifiers x
pub record Front (ds : List ℕ) (at b x : ℕ) : Type 0 where
  pub from : at < b
  pub within : b ≤ length ds
  pub modified : x ≡ modifiers (slice (at + 1) b ds)

-- a tree was read, and there is room for it in pools of so many numbers, whose first stand at row and word
pub record Room (g : Got Tree) (ops ws row word : ℕ) : Type 0 where
  pub tree : Tree
  pub rest : List ℕ
  pub is : g ≡ got tree rest
  pub for_rows : 16 * tree_rows tree ≤ ops
  pub for_words : length (tree_words tree) ≤ ws
  pub row_fits : row + tree_rows tree < 2 ^ 32
  pub word_fits : word + length (tree_words tree) < 2 ^ 32
  pub dwords_fit : length (dwords tree) < 2 ^ 32

-- its rows and its words stand in front of what was there
pub record Put (t : Tree) (row word : ℕ) (ops ws : List ℕ) (a : Sums) (ops' ws' : List ℕ) : Type 0 where
  pub rows_are : a.rows ≡ tree_rows t
  pub words_are : a.words ≡ length (tree_words t)
  pub dwords_are : a.dwords ≡ length (dwords t)
  pub rows_put : ops' ≡ tree_table row word t ++ drop (16 * tree_rows t) ops
  pub words_put : ws' ≡ tree_words t ++ drop (length (tree_words t)) ws

abbrev pub Wrote : Got Tree → ℕ → ℕ → List ℕ → List ℕ → Sums → List ℕ → List ℕ → Type 0
Wrote g row word ops ws a ops' ws' = (t : Tree) (r : List ℕ) → g ≡ got t r → Put t row word ops ws a ops' ws'

-- an index was read, and there is room for it behind what is counted
pub record Ready (g : Got Tree) (n at ops ws row word : ℕ) (b : Sums) : Type 0 where
  pub tree : Tree
  pub rest : List ℕ
  pub is : g ≡ got tree rest
  pub within : at + b.dwords ≤ n
  pub for_rows : 16 * (b.rows + tree_rows tree) ≤ ops
  pub for_words : b.words + length (tree_words tree) ≤ ws
  pub row_fits : row + b.rows + tree_rows tree < 2 ^ 32
  pub word_fits : word + b.words + length (tree_words tree) < 2 ^ 32
  pub dwords_fit : b.dwords + length (dwords tree) < 2 ^ 32

-- its rows and its words stand behind what is counted
pub record Next (t : Tree) (row word : ℕ) (b : Sums) (ops ws : List ℕ) (a : Sums) (ops' ws' : List ℕ) : Type 0 where
  pub rows_are : a.rows ≡ b.rows + tree_rows t
  pub words_are : a.words ≡ b.words + length (tree_words t)
  pub dwords_are : a.dwords ≡ b.dwords + length (dwords t)
  pub rows_put : Over (16 * b.rows) (tree_table (row + b.rows) (word + b.words) t) ops ops'
  pub words_put : Over b.words (tree_words t) ws ws'

abbrev pub WroteNext : Got Tree → ℕ → ℕ → Sums → List ℕ → List ℕ → Sums → List ℕ → List ℕ → Type 0
WroteNext g row word b ops ws a ops' ws' = (t : Tree) (r : List ℕ) → g ≡ got t r → Next t row word b ops ws a ops' ws'
