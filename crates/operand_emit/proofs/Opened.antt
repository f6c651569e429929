-- What a confirmed operand is made of, and what its row says.
use Prim.Native.Nat.{ℕ, zero, suc, ◌+◌, ◌-◌, ◌*◌, ◌%◌, ◌^◌, ◌<◌, ◌≤◌}
use mathlib.Core.Path.{◌≡◌, refl, sym, ap, ◌∙◌}
use mathlib.Core.Bool.{Bool, true, false, cond, ◌&&◌}
use mathlib.Core.List.{List, [], ◌∷◌, ◌++◌, append_assoc}
use mathlib.Core.Option.{Option, none as nothing, some as just}
use native.Mathlib.Numerals.{sub-one}
use native.Mathlib.Omega.{arith}
use lib.ListN.{length, take, drop, length-append}
use lib.Dec.{leb, eqb, ltb}
use borrow.Author.Tests.{leb-true, ltb-true, eqb-true}
use Rattle.format.specs.Dwords.{bits}
use Rattle.format.specs.Operands as op
use Rattle.format.specs.Operands.{Tree, none, plain, node, immediate, immediates, repr, dwords}
use Rattle.format.specs.Rows.{tree_words, tree_rows, operand_row}
use Rattle.format.specs.Encoder.{at, extension_of, operand_dword, same}
use Rattle.format.proofs.Dwords.{impossible, both}
use Rattle.operand_deep.specs.Confirm.{Confirmer, behind, confirm_index, confirmed, confirm_immediates, confirm_indices, confirm_front, confirm}
use Rattle.operand_deep.proofs.Every.{Every, unmet, met, every_then, every_if, every_of}
use Rattle.format.proofs.Encoder.{same_eq}
use Rattle.format.proofs.Rows.{four_lengths}
use Rattle.operand_deep.proofs.Fields.{exact_below}
use Rattle.operand_emit.specs.Emits.{head_of, Fits}
use Rattle.operand_emit.proofs.Word.{Word, plain_if, word_of}

pub every_self : {A : Type 0} (o : Option A) → Every (λ a. o ≡ just a) o
every_self nothing = unmet
every_self (just a) = met refl

-- ---- a tree of no rows is its words
words_only : (x : Tree) → tree_rows x ≡ 0 → dwords x ≡ tree_words x
unfolding tree_rows tree_words dwords
words_only none h = refl
words_only (plain x c) h = ap (λ (l : List ℕ). x ++ l) (words_only c h)
words_only (node t e m a b c) h = impossible (omega arith)

head_within : (t : ℕ) (e m : List ℕ) (a b c : Tree) → length (t ∷ e) ≤ length (dwords (node t e m a b c))
unfolding dwords
head_within t e m a b c = omega (arith, four_lengths (e ++ m) (dwords a) (dwords b) (dwords c), length-append e m)

flat : (e m a b c : List ℕ) → e ++ m ++ a ++ b ++ c ≡ e ++ (m ++ a ++ b ++ c)
flat e m a b c = simp append_assoc

one_row : (t : ℕ) (e m : List ℕ) (a b c : Tree) → tree_rows (node t e m a b c) ≡ 1 → dwords (node t e m a b c) ≡ t ∷ e ++ tree_words (node t e m a b c)
unfolding tree_rows tree_words dwords
one_row t e m a b c h =
    rw (words_only a (omega arith), words_only b (omega arith), words_only c (omega arith))
    (ap (λ (l : List ℕ). t ∷ l) (flat e m (tree_words a) (tree_words b) (tree_words c)))

-- ---- the numbers of a row
form_small : (t : ℕ) → op.form t < 5
unfolding op.form
form_small t = go (eqb (t % 2 ^ 2) 1) (eqb (t % 2 ^ 2) 2) (ltb (bits 2 3 t) 3) refl
  where
    go : (a b c : Bool) → ltb (bits 2 3 t) 3 ≡ c → cond a 1 (cond (b && c) (2 + bits 2 3 t) 0) < 5
    go true b c h = omega arith
    go false true true h = omega (arith, ltb-true (bits 2 3 t) 3 h)
    go false true false h = omega arith
    go false false c h = omega arith

modifiers_small : (e : List ℕ) → op.modifiers e < 2 ^ 7
unfolding op.modifiers
modifiers_small [] = omega arith
modifiers_small (x ∷ l) = omega arith

fits_of : (q : List ℕ) (r w : ℕ) (m : List ℕ) (a b c : Tree) → op.exact_dword (operand_dword q) ≡ true → q ≡ operand_row r w (operand_dword q) (extension_of (at 3 q)) m a b c → Fits q
unfolding operand_row
fits_of q r w m a b c x s =
    record {
      form_fits = rw (ap (at 1) s) (form_small (operand_dword q));
      modifiers_fit = rw (ap (at 3) s) (modifiers_small (extension_of (at 3 q)));
      dword_fits = exact_below (operand_dword q) x;
    }

-- ---- an operand's indices, each confirmed behind the one before
pub record Indices (p : Confirmer) (rs ws : List ℕ) (r w : ℕ) (x : Tree) : Type 0 where
  pub first : Tree
  pub second : Tree
  pub third : Tree
  pub first_is : confirm_index p (repr 0 (operand_dword (take 16 rs))) (drop 16 rs) ws (r + 1) w ≡ just first
  pub second_is : behind first (confirm_index p (repr 1 (operand_dword (take 16 rs)))) (drop 16 rs) ws (r + 1) w ≡ just second
  pub third_is : behind first (behind second (confirm_index p (repr 2 (operand_dword (take 16 rs))))) (drop 16 rs) ws (r + 1) w ≡ just third
  pub is : x ≡ node (operand_dword (take 16 rs)) (extension_of (at 3 (take 16 rs))) [] first second third

-- a confirmed operand: its row, and what it is made of
pub record Opened (p : Confirmer) (rs ws : List ℕ) (r w : ℕ) (x : Tree) : Type 0 where
  pub row_there : 16 ≤ length rs
  pub fits : Fits (take 16 rs)
  pub rows_are : at 14 (take 16 rs) ≡ tree_rows x
  pub dwords_are : at 15 (take 16 rs) ≡ length (dwords x)
  pub head_fits : length (head_of (take 16 rs)) ≤ length (dwords x)
  pub lone : tree_rows x ≡ 1 → dwords x ≡ head_of (take 16 rs) ++ tree_words x
  pub word : at 6 (take 16 rs) ≡ 1 → at 7 (take 16 rs) ≡ 0 → Word x
  pub indices : (tree_rows x ≡ 1 → ⊥) → Indices p rs ws r w x

module _ (p : Confirmer) (rs ws : List ℕ) (r w : ℕ) where
  abbrev Q : List ℕ
  Q = take 16 rs

  module _ (l : leb 16 (length rs) ≡ true) (x : op.exact_dword (operand_dword Q) ≡ true) where
    opened : (m : List ℕ) (a b c : Tree) → Q ≡ operand_row r w (operand_dword Q) (extension_of (at 3 Q)) m a b c →
        ((tree_rows (node (operand_dword Q) (extension_of (at 3 Q)) m a b c) ≡ 1 → ⊥) → Indices p rs ws r w (node (operand_dword Q) (extension_of (at 3 Q)) m a b c)) →
        (op.dimension (operand_dword Q) ≡ 1 → op.reprs (operand_dword Q) ≡ 0 → Word (node (operand_dword Q) (extension_of (at 3 Q)) m a b c)) →
        Opened p rs ws r w (node (operand_dword Q) (extension_of (at 3 Q)) m a b c)
    unfolding operand_row
    opened m a b c s f k =
        record {
          row_there = leb-true 16 (length rs) l;
          fits = fits_of Q r w m a b c x s;
          rows_are = ap (at 14) s;
          dwords_are = ap (at 15) s;
          head_fits = head_within (operand_dword Q) (extension_of (at 3 Q)) m a b c;
          lone = one_row (operand_dword Q) (extension_of (at 3 Q)) m a b c;
          word = λ d z. k (sym (ap (at 6) s) ∙ d) (sym (ap (at 7) s) ∙ z);
          indices = f;
        }

    every_opened : (m : List ℕ) (a b c : Tree) →
        ((tree_rows (node (operand_dword Q) (extension_of (at 3 Q)) m a b c) ≡ 1 → ⊥) → Indices p rs ws r w (node (operand_dword Q) (extension_of (at 3 Q)) m a b c)) →
        (op.dimension (operand_dword Q) ≡ 1 → op.reprs (operand_dword Q) ≡ 0 → Word (node (operand_dword Q) (extension_of (at 3 Q)) m a b c)) →
        Every (Opened p rs ws r w) (confirmed Q r w (operand_dword Q) (extension_of (at 3 Q)) m a b c)
    unfolding confirmed
    every_opened m a b c f k = every_if (same Q _) _ _ (λ s. met (opened m a b c (same_eq Q _ s) f k)) (λ s. unmet)

    leaf_rows : (m : List ℕ) → tree_rows (node (operand_dword Q) (extension_of (at 3 Q)) m none none none) ≡ 1
    unfolding tree_rows
    leaf_rows m = refl

    no_index : {n : ℕ} → n ≡ 0 → n ≡ 1 → ⊥
    no_index e d = impossible (omega (arith, e, d))

    opened_leaf : Every (Opened p rs ws r w) (confirm_immediates Q (operand_dword Q) (extension_of (at 3 Q)) ws r w)
    unfolding confirm_immediates
    opened_leaf = every_if (eqb (op.dimension (operand_dword Q)) 0 && leb (immediates (operand_dword Q)) (length ws)) _ _
        (λ z. every_opened (take (immediates (operand_dword Q)) ws) none none none (λ n. absurd (n (leaf_rows (take (immediates (operand_dword Q)) ws)))) (λ d. absurd (no_index (eqb-true (op.dimension (operand_dword Q)) 0 (both _ _ z).0) d)))
        (λ z. unmet)

    opened_indices : Every (Opened p rs ws r w) (confirm_indices p Q (operand_dword Q) (extension_of (at 3 Q)) (drop 16 rs) ws r w)
    unfolding confirm_indices
    opened_indices =
        every_then (every_self (confirm_index p (repr 0 (operand_dword Q)) (drop 16 rs) ws (r + 1) w)) (λ a ea.
        every_then (every_self (behind a (confirm_index p (repr 1 (operand_dword Q))) (drop 16 rs) ws (r + 1) w)) (λ b eb.
        every_then (every_self (behind a (behind b (confirm_index p (repr 2 (operand_dword Q)))) (drop 16 rs) ws (r + 1) w)) (λ c ec.
        every_opened [] a b c (λ n. record { first = a; second = b; third = c; first_is = ea; second_is = eb; third_is = ec; is = refl }) (λ d h. word_of (operand_dword Q) d h (extension_of (at 3 Q)) a b c
        (plain_if p (repr 0 (operand_dword Q)) (drop 16 rs) ws (r + 1) w ea)
        (plain_if p (repr 1 (operand_dword Q)) (drop (16 * tree_rows a) (drop 16 rs)) (drop (length (tree_words a)) ws) (r + 1 + tree_rows a) (w + length (tree_words a)) eb)
        (plain_if p (repr 2 (operand_dword Q)) (drop (16 * tree_rows b) (drop (16 * tree_rows a) (drop 16 rs))) (drop (length (tree_words b)) (drop (length (tree_words a)) ws)) (r + 1 + tree_rows a + tree_rows b) (w + length (tree_words a) + length (tree_words b)) ec)))))

opened_all : (k : ℕ) (rs ws : List ℕ) (r w : ℕ) → Every (Opened (confirm (k - 1)) rs ws r w) (confirm k rs ws r w)
unfolding confirm confirm_front
opened_all zero rs ws r w = unmet
opened_all (suc k) rs ws r w =
    rw (sub-one (suc k))
    (every_if (leb 16 (length rs)) _ _ (λ l.
    every_if (op.exact_dword (operand_dword (take 16 rs)) && op.exact_extension (extension_of (at 3 (take 16 rs)))) _ _ (λ z.
    let x = (both (op.exact_dword (operand_dword (take 16 rs))) _ z).0 in
    every_if (immediate (operand_dword (take 16 rs))) _ _ (λ i. opened_leaf (confirm k) rs ws r w l x) (λ i. opened_indices (confirm k) rs ws r w l x))
    (λ z. unmet))
    (λ l. unmet))

pub opens : (k : ℕ) (rs ws : List ℕ) (r w : ℕ) (x : Tree) → confirm k rs ws r w ≡ just x → Opened (confirm (k - 1)) rs ws r w x
opens k rs ws r w x e = every_of e (opened_all k rs ws r w)

pub some_left : (k : ℕ) (rs ws : List ℕ) (r w : ℕ) (x : Tree) → confirm k rs ws r w ≡ just x → 0 < k
unfolding confirm
some_left zero rs ws r w x e = impossible (cc)
some_left (suc k) rs ws r w x e = omega arith
