-- What an answer of walking tells of the rows and words.
use Prim.Native.Nat.{ℕ, ◌+◌, ◌-◌, ◌*◌, ◌≤◌}
use mathlib.Core.Path.{◌≡◌, refl, ap, ◌∙◌}
use mathlib.Core.Bool.{true}
use mathlib.Core.List.{List, [], ◌∷◌, ◌++◌}
use mathlib.Core.Option.{Option as Maybe, none as nothing, some as just}
use native.Mathlib.Omega.{arith}
use lib.ListN.{length, drop, length-append, length-drop}
use Rattle.std.proofs.Common.{Some, None}
use Rattle.format.specs.Dwords.{Reader}
use Rattle.format.specs.Operands as op
use Rattle.format.specs.Operands.{Tree, none, plain, node, read_index, operand, dwords}
use Rattle.format.specs.Rows.{tree_words, tree_rows, tree_table}
use Rattle.format.proofs.Dwords.{impossible}
use Rattle.format.proofs.Rows.{four_lengths, table_length}
use Rattle.format.proofs.Made.{exact_node}
use Rattle.operand_deep.specs.Confirm.{confirm_index, confirm}
use Rattle.operand_deep.specs.Walks.{walked, reached, there}
use Rattle.operand_deep.specs.declared.Walked.{Walked}
use Rattle.operand_deep.specs.declared.Step.{Step}
use Rattle.operand_deep.specs.declared.Place.{Place}
use Rattle.operand_deep.proofs.Every.{Every, unmet, met}
use Rattle.operand_deep.proofs.Sound.{Held, sound_index, sound_all}

-- ---- an exact tree has at most an extension for each row
one_at_most : (e : List ℕ) → op.exact_extension e ≡ true → length e ≤ 1
unfolding op.exact_extension
one_at_most [] h = omega arith
one_at_most (x ∷ []) h = omega arith
one_at_most (x ∷ y ∷ e) h = impossible (cc)

few_of : (x : Tree) → op.exact x ≡ true → length (dwords x) ≤ 2 * tree_rows x + length (tree_words x)
unfolding op.exact dwords tree_rows tree_words
few_of none h = omega arith
few_of (plain x c) h = omega (arith, length-append x (dwords c), length-append x (tree_words c), few_of c h)
few_of (node t e m a b c) h =
    let x = exact_node t e m a b c h in
    omega (arith, four_lengths m (tree_words a) (tree_words b) (tree_words c), four_lengths (e ++ m) (dwords a) (dwords b) (dwords c), length-append e m, one_at_most e x.extension, few_of a x.first, few_of b x.second, few_of c x.third)

-- a tree stands at row r and word w of two pools, with these rows, words and dwords
pub record Found (o : Maybe Tree) (rs ws : List ℕ) (r w : ℕ) (x : Walked) : Type 0 where
  pub tree : Tree
  pub is : o ≡ just tree
  pub rows_are : tree_rows tree ≡ x.rows
  pub words_are : length (tree_words tree) ≡ x.words
  pub dwords_are : length (dwords tree) ≡ x.dwords
  pub rows_fit : 16 * (r + x.rows) ≤ length rs
  pub words_fit : x.words ≤ length ws - w
  pub few : x.dwords ≤ 2 * x.rows + x.words

found_of : (read : Reader Tree) (rs ws : List ℕ) (r w : ℕ) (o : Maybe Tree) → 16 * r ≤ length rs → Every (Held read (drop (16 * r) rs) (drop w ws) r w) o → {x : Walked} → Some x ≡ walked o → Found o rs ws r w x
found_of read rs ws r w nothing l unmet e = impossible (cc)
found_of read rs ws r w (just t) l (met h) {x} e =
    let a = ap length h.rows ∙ length-append (tree_table r w t) _ in
    let b = ap length h.words ∙ length-append (tree_words t) _ in
    let f : record { rows = tree_rows t; words = length (tree_words t); dwords = length (dwords t) } ≡ x = cc in
    rw (← f)
    record {
      tree = t;
      is = refl;
      rows_are = refl;
      words_are = refl;
      dwords_are = refl;
      rows_fit = omega (arith, a, length-drop (16 * r) rs, table_length r w t);
      words_fit = omega (arith, b, length-drop w ws);
      few = few_of t h.exact;
    }

pub walk_found : (k : ℕ) (rs ws : List ℕ) (r w : ℕ) → 16 * r ≤ length rs → {x : Walked} → Some x ≡ walked (there (confirm k) rs ws r w) → Found (there (confirm k) rs ws r w) rs ws r w x
walk_found k rs ws r w l e = found_of (operand k) rs ws r w _ l (sound_all k _ _ r w) e

pub walk_lost : (o : Maybe Tree) → None ≡ walked o → o ≡ nothing
walk_lost nothing e = refl
walk_lost (just x) e = impossible (cc)

-- an index stands at a place of two pools, with so many dwords and another place behind it
pub record Reached (o : Maybe Tree) (rs ws : List ℕ) (p : Place) (s : Step) : Type 0 where
  pub tree : Tree
  pub is : o ≡ just tree
  pub row_is : p.row + tree_rows tree ≡ s.end.row
  pub word_is : p.word + length (tree_words tree) ≡ s.end.word
  pub dwords_are : length (dwords tree) ≡ s.dwords
  pub rows_fit : 16 * s.end.row ≤ length rs
  pub few : s.dwords ≤ length rs + length ws

reached_of : (read : Reader Tree) (rs ws : List ℕ) (p : Place) (o : Maybe Tree) → 16 * p.row ≤ length rs → Every (Held read (drop (16 * p.row) rs) (drop p.word ws) p.row p.word) o → {s : Step} → Some s ≡ reached p o → Reached o rs ws p s
reached_of read rs ws p nothing l unmet e = impossible (cc)
reached_of read rs ws p (just t) l (met h) {s} e =
    let f = found_of read rs ws p.row p.word (just t) l (met h) refl in
    let g : record { end = record { row = p.row + tree_rows t; word = p.word + length (tree_words t) }; dwords = length (dwords t) } ≡ s = cc in
    rw (← g)
    record {
      tree = t;
      is = refl;
      row_is = refl;
      word_is = refl;
      dwords_are = refl;
      rows_fit = f.rows_fit;
      few = omega (arith, f.rows_fit, f.words_fit, f.few);
    }

pub index_reached : (k i : ℕ) (rs ws : List ℕ) (p : Place) → 16 * p.row ≤ length rs → {s : Step} → Some s ≡ reached p (there (confirm_index (confirm k) i) rs ws p.row p.word) → Reached (there (confirm_index (confirm k) i) rs ws p.row p.word) rs ws p s
index_reached k i rs ws p l e = reached_of (read_index (operand k) i) rs ws p _ l (sound_index (confirm k) (operand k) (sound_all k) i _ _ p.row p.word) e

pub index_lost : (p : Place) (o : Maybe Tree) → None ≡ reached p o → o ≡ nothing
index_lost p nothing e = refl
index_lost p (just x) e = impossible (cc)
