-- Whatever operand is read and exact is confirmed where its rows and words stand in front.
use Prim.Native.Nat.{ℕ, zero, suc, ◌+◌, ◌*◌}
use mathlib.Core.Path.{◌≡◌, refl, subst}
use mathlib.Core.Bool.{Bool, true, false, cond}
use mathlib.Core.List.{List, [], ◌++◌, append_assoc}
use mathlib.Core.Option.{some as just}
use native.Mathlib.Nat.{add-zero}
use native.Mathlib.Omega.{arith}
use lib.ListN.{length, length-append}
use lib.Seq.{take_at, drop_at}
use lib.Dec.{leb, eqb}
use borrow.Author.Tests.{le-leb}
use Rattle.format.specs.Dwords.{follows, got, Reader}
use Rattle.format.specs.Dwords as reader
use Rattle.format.specs.Operands as op
use Rattle.format.specs.Operands.{Tree, none, plain, node, immediate, immediates, dimension, repr, own, nests, known, read_index, read_immediates, read_indices, operand}
use Rattle.format.specs.Rows.{tree_words, tree_rows, operand_row, tree_table}
use Rattle.format.proofs.Dwords.{All, unmet, met, all_then, all_if, makes_dword, some_length, Linked, chain_linked}
use Rattle.format.proofs.Rows.{operand_row_length, table_length}
use Rattle.format.proofs.Made.{dword_again, row_extension, flat3, flat4, exact_node, nils}
use Rattle.format.proofs.Encoder.{same_refl}
use Rattle.operand_deep.specs.Confirm.{Confirmer, confirm_index, confirmed, confirm_immediates, confirm_indices, confirm_front, confirm}

-- a tree is confirmed, whatever follows its rows and words
abbrev Whole : Confirmer → Tree → Type 0
Whole p x = op.exact x ≡ true → (r w : ℕ) (R W : List ℕ) → p (tree_table r w x ++ R) (tree_words x ++ W) r w ≡ just x

enough : (n : ℕ) (x l : List ℕ) → length x ≡ n → leb n (length (x ++ l)) ≡ true
enough n x l e = le-leb n (length (x ++ l)) (omega (arith, length-append x l))

-- ---- an index
module _ (p : Reader Tree) (q : Confirmer) (hp : (ds : List ℕ) → All (λ x r. Whole q x) (p ds)) where
  abbrev child : Bool → Confirmer
  child b rs ws r w = cond b (q rs ws r w) (just none)

  whole_child : (b : Bool) (ds : List ℕ) → All (λ x r. Whole (child b) x) (cond b p (reader.give none) ds)
  whole_child true ds = hp ds
  whole_child false ds = met (λ e r w R W. refl)

  index_step : (i : ℕ) (x : List ℕ) (c : Tree) → known i ≡ true → length x ≡ own i → Whole (child (nests i)) c → Whole (confirm_index q i) (plain x c)
  unfolding confirm_index tree_table tree_words op.exact
  index_step i x c k e f h r w R W =
      rw (append_assoc x (tree_words c) W, k, enough (own i) x (tree_words c ++ W) e, take_at x (tree_words c ++ W) (own i) e, drop_at x (tree_words c ++ W) (own i) e, e, f h r (w + own i) R W)

  pub whole_index : (i : ℕ) (ds : List ℕ) → All (λ x r. Whole (confirm_index q i) x) (read_index p i ds)
  unfolding read_index
  whole_index i ds = all_if (known i) _ _ ds
      (λ k. all_then (some_length (own i) ds) (λ x ds₁ e₁.
      all_then (whole_child (nests i) ds₁) (λ c ds₂ f.
      met (index_step i x c k e₁.1 f))))
      (λ k. unmet)

-- ---- an operand
-- once its row is taken, the rest of an operand is confirmed from what follows
abbrev Rest : ℕ → ℕ → List ℕ → List ℕ → Tree → Tree → Tree → Type 0
Rest k t e m a b c = (r w : ℕ) (R W : List ℕ) →
    cond (immediate t) (confirm_immediates (operand_row r w t e m a b c) t e ((m ++ tree_words a ++ tree_words b ++ tree_words c) ++ W) r w)
    (confirm_indices (confirm k) (operand_row r w t e m a b c) t e ((tree_table (r + 1) (w + length m) a ++ tree_table (r + 1 + tree_rows a) (w + length m + length (tree_words a)) b ++ tree_table (r + 1 + tree_rows a + tree_rows b) (w + length m + length (tree_words a) + length (tree_words b)) c) ++ R) ((m ++ tree_words a ++ tree_words b ++ tree_words c) ++ W) r w)
    ≡ just (node t e m a b c)

operand_step : (k t : ℕ) (e m : List ℕ) (a b c : Tree) → Linked (follows t) e → (op.exact (node t e m a b c) ≡ true → Rest k t e m a b c) → Whole (confirm (suc k)) (node t e m a b c)
unfolding confirm confirm_front tree_table tree_words
operand_step k t e m a b c ch f h r w R W =
    let x = exact_node t e m a b c h in
    let q : List ℕ = operand_row r w t e m a b c in
    let n : length q ≡ 16 = operand_row_length r w t e m a b c in
    rw (flat4 q _ _ _ R, enough 16 q _ n, take_at q _ 16 n, drop_at q _ 16 n, dword_again r w t e m a b c ch x.extension x.token, row_extension r w t e m a b c x.extension, x.token, x.extension)
    (f h r w R W)

immediates_rest : (k t : ℕ) (e m : List ℕ) → immediate t ≡ true → eqb (dimension t) 0 ≡ true → length m ≡ immediates t → Rest k t e m none none none
unfolding confirm_immediates confirmed tree_words
immediates_rest k t e m i z l r w R W =
    rw (i, nils m, z, enough (immediates t) m W l, take_at m W (immediates t) l, same_refl (operand_row r w t e m none none none))

indices_rest : (k t : ℕ) (e : List ℕ) (a b c : Tree) → immediate t ≡ false →
    Whole (confirm_index (confirm k) (repr 0 t)) a → Whole (confirm_index (confirm k) (repr 1 t)) b → Whole (confirm_index (confirm k) (repr 2 t)) c →
    op.exact a ≡ true → op.exact b ≡ true → op.exact c ≡ true → Rest k t e [] a b c
unfolding confirm_indices confirmed
indices_rest k t e a b c i fa fb fc xa xb xc r w R W =
    let r₁ : ℕ = r + 1 + tree_rows a in
    let w₁ : ℕ = w + length (tree_words a) in
    let r₂ : ℕ = r₁ + tree_rows b in
    let w₂ : ℕ = w₁ + length (tree_words b) in
    let A : List ℕ = tree_table (r + 1) w a in
    let B : List ℕ = tree_table r₁ w₁ b in
    let C : List ℕ = tree_table r₂ w₂ c in
    rw (
      i,
      add-zero w,
      flat3 A B C R,
      flat3 (tree_words a) (tree_words b) (tree_words c) W,
      fa xa (r + 1) w (B ++ (C ++ R)) (tree_words b ++ (tree_words c ++ W)),
      drop_at A (B ++ (C ++ R)) (16 * tree_rows a) (table_length (r + 1) w a),
      drop_at (tree_words a) (tree_words b ++ (tree_words c ++ W)) (length (tree_words a)) refl,
      fb xb r₁ w₁ (C ++ R) (tree_words c ++ W),
      drop_at B (C ++ R) (16 * tree_rows b) (table_length r₁ w₁ b),
      drop_at (tree_words b) (tree_words c ++ W) (length (tree_words b)) refl,
      fc xc r₂ w₂ R W,
      same_refl (operand_row r w t e [] a b c),
    )

whole : (k : ℕ) (ds : List ℕ) → All (λ x r. Whole (confirm k) x) (operand k ds)
unfolding operand read_immediates read_indices
whole zero ds = unmet
whole (suc k) ds =
    all_then (makes_dword ds) (λ t ds₁ u.
    all_then (chain_linked (follows t) ds₁) (λ e ds₂ ch.
    all_if (immediate t) _ _ ds₂
    (λ i. all_if (eqb (dimension t) 0) _ _ ds₂ (λ z. all_then (some_length (immediates t) ds₂) (λ m ds₃ l. met (operand_step k t e m none none none ch.1 (λ h. immediates_rest k t e m i z l.1)))) (λ z. unmet))
    (λ i.
    all_then (whole_index (operand k) (confirm k) (whole k) (repr 0 t) ds₂) (λ a ds₃ fa.
    all_then (whole_index (operand k) (confirm k) (whole k) (repr 1 t) ds₃) (λ b ds₄ fb.
    all_then (whole_index (operand k) (confirm k) (whole k) (repr 2 t) ds₄) (λ c ds₅ fc.
    met (operand_step k t e [] a b c ch.1 (λ h. let x = exact_node t e [] a b c h in indices_rest k t e a b c i fa fb fc x.first x.second x.third))))))))

of_got : {A : Type 0} {P : A → List ℕ → Type 0} {a : A} {r : List ℕ} → All P (got a r) → P a r
of_got (met p) = p

-- what is read and exact
pub complete : (k : ℕ) (ds : List ℕ) (x : Tree) (l : List ℕ) → operand k ds ≡ got x l → op.exact x ≡ true → (r w : ℕ) (rs ws : List ℕ) → confirm k (tree_table r w x ++ rs) (tree_words x ++ ws) r w ≡ just x
complete k ds x l e h r w rs ws = of_got (subst (All (λ x r. Whole (confirm k) x)) e (whole k ds)) h r w rs ws
