-- What an answer of measuring tells of the reading.
use Prim.Native.Nat.{ℕ, ◌+◌, ◌≤◌}
use mathlib.Core.Path.{◌≡◌, refl, ◌∙◌, ap}
use mathlib.Core.Bool.{Bool}
use mathlib.Core.List.{List}
use native.Mathlib.Omega.{arith}
use lib.ListN.{length, drop}
use Rattle.format.specs.Dwords.{Got, malformed, got}
use Rattle.format.specs.Operands.{Tree, operand, dwords, exact}
use Rattle.format.specs.Rows.{tree_rows, tree_words}
use Rattle.format.proofs.Dwords.{met, Makes, impossible}
use Rattle.format.proofs.Operands.{makes_operand}
use Rattle.format.proofs.Rows.{tree_fits}
use Rattle.tokens.proofs.Places.{left_at, read_within}
use Rattle.std.specs.Prelude.{Some, None}
use Rattle.operand.specs.Measures.{measured}
use Rattle.operand.specs.declared.Measured.{Measured}

-- at a place a tree was read that needs r rows and w words and takes d dwords
pub record Seen (g : Got Tree) (ds : List ℕ) (at r w d : ℕ) (x : Bool) : Type 0 where
  pub tree : Tree
  pub is : g ≡ got tree (drop (at + d) ds)
  pub rows_are : tree_rows tree ≡ r
  pub words_are : length (tree_words tree) ≡ w
  pub dwords_are : length (dwords tree) ≡ d
  pub exact_is : exact tree ≡ x
  pub fewer : r + w ≤ d
  pub within : at + d ≤ length ds

pub seen : (g : Got Tree) (ds : List ℕ) (at : ℕ) → Makes dwords (drop at ds) g → at ≤ length ds → (m : Measured) → Some m ≡ measured g → Seen g ds at m.rows m.words m.dwords m.exact
seen malformed ds at k h m e = impossible (cc)
seen (got t s) ds at (met p) h m e =
    let er : tree_rows t ≡ m.rows = cc in
    let ew : length (tree_words t) ≡ m.words = cc in
    let ed : length (dwords t) ≡ m.dwords = cc in
    record {
      tree = t;
      is = ap (got t) (left_at ds (dwords t) s at p ∙ ap (λ (k : ℕ). drop (at + k) ds) ed);
      rows_are = er;
      words_are = ew;
      dwords_are = ed;
      exact_is = cc;
      fewer = omega (arith, tree_fits t);
      within = omega (arith, read_within ds (dwords t) s at p h);
    }

pub lost : (g : Got Tree) → None ≡ measured g → g ≡ malformed
lost malformed e = refl
lost (got t r) e = cc

pub operand_seen : (k : ℕ) (ds : List ℕ) (at : ℕ) → at ≤ length ds → (m : Measured) → Some m ≡ measured (operand k (drop at ds)) → Seen (operand k (drop at ds)) ds at m.rows m.words m.dwords m.exact
operand_seen k ds at h m e = seen (operand k (drop at ds)) ds at (makes_operand k (drop at ds)) h m e
