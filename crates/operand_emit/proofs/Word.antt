-- An operand of one index of one dword: no operand stands in it, and it has one word.
use Prim.Native.Nat.{ℕ, ◌+◌}
use mathlib.Core.Path.{◌≡◌, refl, ap, ◌∙◌}
use mathlib.Core.Bool.{false, ◌&&◌}
use mathlib.Core.List.{List, [], ◌++◌, append-nil}
use mathlib.Core.Option.{some as just}
use native.Mathlib.Omega.{arith}
use lib.ListN.{length, take, length-append}
use lib.Seq.{length-take-le}
use lib.Dec.{leb}
use borrow.Author.Tests.{leb-true, le-ltb, lt-ltb}
use Rattle.format.specs.Dwords.{bits_from}
use Rattle.format.specs.Operands.{Tree, node, dimension, reprs, repr, own, nests, known}
use Rattle.format.specs.Rows.{tree_words, tree_rows}
use Rattle.format.proofs.Dwords.{both}
use Rattle.operand_deep.specs.Confirm.{Confirmer, confirm_index}
use Rattle.operand_deep.proofs.Every.{Every, unmet, met, every_if, every_of}

pub record Word (x : Tree) : Type 0 where
  pub one_row : tree_rows x ≡ 1
  pub one_word : length (tree_words x) ≡ 1

-- ---- an index that no operand stands in
pub record Plain (n : ℕ) (x : Tree) : Type 0 where
  pub no_rows : tree_rows x ≡ 0
  pub count_is : length (tree_words x) ≡ n

every_plain : (p : Confirmer) (i : ℕ) (rs ws : List ℕ) (r w : ℕ) → nests i ≡ false → Every (Plain (own i)) (confirm_index p i rs ws r w)
unfolding confirm_index tree_rows tree_words
every_plain p i rs ws r w h = every_if (known i && leb (own i) (length ws)) _ _
    (λ z. rw h (met (record { no_rows = refl; count_is = ap length (append-nil (take (own i) ws)) ∙ length-take-le (own i) ws (leb-true (own i) (length ws) (both (known i) _ z).1) })))
    (λ z. unmet)

pub plain_if : (p : Confirmer) (i : ℕ) (rs ws : List ℕ) (r w : ℕ) {x : Tree} → confirm_index p i rs ws r w ≡ just x → nests i ≡ false → Plain (own i) x
plain_if p i rs ws r w e h = every_of e (every_plain p i rs ws r w h)

-- ---- an operand of three indices that were confirmed, of which the first alone is there
module _ (t : ℕ) (d : dimension t ≡ 1) (h : reprs t ≡ 0) where
  first : repr 0 t ≡ 0
  unfolding repr reprs
  first = let z : bits_from 22 3 t ≡ 0 = rw d at h in rw (lt-ltb 0 (dimension t) (omega (arith, d))) z

  second : repr 1 t ≡ 8
  unfolding repr
  second = rw (le-ltb 1 (dimension t) (omega (arith, d))) refl

  third : repr 2 t ≡ 8
  unfolding repr
  third = rw (le-ltb 2 (dimension t) (omega (arith, d))) refl

  pub word_of : (e : List ℕ) (a b c : Tree) → (nests (repr 0 t) ≡ false → Plain (own (repr 0 t)) a) → (nests (repr 1 t) ≡ false → Plain (own (repr 1 t)) b) → (nests (repr 2 t) ≡ false → Plain (own (repr 2 t)) c) →
      Word (node t e [] a b c)
  unfolding tree_rows tree_words nests own
  word_of e a b c ea eb ec =
      let x = ea (ap nests first) in
      let y = eb (ap nests second) in
      let u = ec (ap nests third) in
      let s : own (repr 0 t) + own (repr 1 t) + own (repr 2 t) ≡ 1 = rw (first, second, third) refl in
      record {
        one_row = omega (arith, x.no_rows, y.no_rows, u.no_rows);
        one_word = length-append (tree_words a ++ tree_words b) (tree_words c) ∙ omega (arith, length-append (tree_words a) (tree_words b), x.count_is, y.count_is, u.count_is, s);
      }
