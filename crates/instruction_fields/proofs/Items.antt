-- The items of an instruction, one after the other: what is told from here is what is told of the first, and of the others.
use Prim.Native.Nat.{ℕ, zero, suc, ◌+◌, ◌%◌, ◌^◌, ◌≤◌, ◌<◌}
use mathlib.Core.Path.{◌≡◌, refl, sym, ap, ◌∙◌}
use mathlib.Core.List.{List, [], ◌∷◌, ◌++◌, append-nil}
use mathlib.Core.Bool.{Bool, true, false, cond, ◌&&◌, and_assoc}
use lib.ListN.{length, take, drop, replicate, length-append}
use lib.Seq.{length-take-le}
use native.Mathlib.Omega.{arith}
use borrow.Author.Tests.{lt-ltb, le-ltb}
use Rattle.tokens.proofs.Places.{first_whole, first_short}
use Rattle.format.specs.Dwords.{Got, malformed, got, then, dword, some, none_left}
use Rattle.format.specs.Declarations.{Item, d, small, s, tail, list}
use Rattle.format.specs.Operands as op
use Rattle.format.specs.Operands.{Tree, none, plain}
use Rattle.format.specs.Instructions.{read_item, read_items}
use Rattle.format.specs.Rows.{tree_rows, tree_words, parts_rows, parts_words}
use Rattle.format.proofs.Dwords.{impossible}
use Rattle.instruction_fields.specs.Fields.{Sum, off, sum, add, total, sum_of}

-- the first item's part, and what the others come to
cons_total : (x : Tree) (g : Got (List Tree)) → total (then (then g (λ ps r. got (x ∷ ps) r)) (λ ps. none_left ps)) ≡ add (tree_rows x) (length (tree_words x)) (op.exact x) (total (then g (λ ps. none_left ps)))
unfolding none_left parts_rows parts_words op.exact_parts
cons_total x malformed = refl
cons_total x (got ps []) = ap (λ (n : ℕ). sum (tree_rows x + parts_rows ps) n (op.exact x && op.exact_parts ps)) (length-append (tree_words x) (parts_words ps))
cons_total x (got ps (y ∷ r)) = refl

pub item_step : (m : Bool) (i : Item) (l : List Item) (ds : List ℕ) (x : Tree) (r : List ℕ) → read_item m i ds ≡ got x r → sum_of m (i ∷ l) ds ≡ add (tree_rows x) (length (tree_words x)) (op.exact x) (sum_of m l r)
unfolding sum_of read_items
item_step m i l ds x r e = rw e (cons_total x (read_items m l r))

pub item_off : (m : Bool) (i : Item) (l : List Item) (ds : List ℕ) → read_item m i ds ≡ malformed → sum_of m (i ∷ l) ds ≡ off
unfolding sum_of read_items
item_off m i l ds e = rw e

-- dwords as they are are words, and exact
plain_add : (x : List ℕ) (a : Sum) → add (tree_rows (plain x none)) (length (tree_words (plain x none))) (op.exact (plain x none)) a ≡ add 0 (length x) true a
unfolding tree_rows tree_words op.exact
plain_add x off = refl
plain_add x (sum r w e) = ap (λ (k : List ℕ). sum (0 + r) (length k + w) e) (append-nil x)

pub add_add : (r w r₁ w₁ : ℕ) (e e₁ : Bool) (a : Sum) → add r w e (add r₁ w₁ e₁ a) ≡ add (r + r₁) (w + w₁) (e && e₁) a
add_add r w r₁ w₁ e e₁ off = refl
add_add r w r₁ w₁ e e₁ (sum r₂ w₂ e₂) =
    let x : r + (r₁ + r₂) ≡ r + r₁ + r₂ = omega arith in
    let y : w + (w₁ + w₂) ≡ w + w₁ + w₂ = omega arith in
    λ i. sum (x i) (y i) (sym (and_assoc e e₁ e₂) i)

pub add-zero : (a : Sum) → add 0 0 true a ≡ a
add-zero off = refl
add-zero (sum r w e) = let x : 0 + r ≡ r = omega arith in let y : 0 + w ≡ w = omega arith in λ i. sum (x i) (y i) e

pub plain_step : (m : Bool) (i : Item) (l : List Item) (ds x r : List ℕ) → read_item m i ds ≡ got (plain x none) r → sum_of m (i ∷ l) ds ≡ add 0 (length x) true (sum_of m l r)
plain_step m i l ds x r e = item_step m i l ds (plain x none) r e ∙ plain_add x (sum_of m l r)

-- ---- runs of dwords, from what is left
module _ (m : Bool) (l : List Item) where
  one_more : (k : ℕ) (a : Sum) → add 0 1 true (add 0 k true a) ≡ add 0 (suc k) true a
  one_more k a = let e : 1 + k ≡ suc k = omega arith in add_add 0 1 0 k true true a ∙ ap (λ (n : ℕ). add 0 n true a) e

  pub one_dword_lem : (k : List Item) (x : ℕ) (ds : List ℕ) → sum_of m (d ∷ k) (x ∷ ds) ≡ add 0 1 true (sum_of m k ds)
  one_dword_lem k x ds = plain_step m d k (x ∷ ds) (x ∷ []) ds (unfold read_item some in refl)

  pub dwords_whole : (k : ℕ) (ds : List ℕ) → k ≤ length ds → sum_of m (replicate k d ++ l) ds ≡ add 0 k true (sum_of m l (drop k ds))
  dwords_whole zero ds h = sym (add-zero _)
  dwords_whole (suc k) [] h = impossible (omega arith)
  dwords_whole (suc k) (x ∷ ds) h = one_dword_lem (replicate k d ++ l) x ds ∙ ap (add 0 1 true) (dwords_whole k ds (omega arith)) ∙ one_more k (sum_of m l (drop k ds))

  pub dwords_short : (k : ℕ) (ds : List ℕ) → length ds < k → sum_of m (replicate k d ++ l) ds ≡ off
  dwords_short zero ds h = impossible (omega arith)
  dwords_short (suc k) [] h = item_off m d (replicate k d ++ l) [] (unfold read_item some in refl)
  dwords_short (suc k) (x ∷ ds) h = one_dword_lem (replicate k d ++ l) x ds ∙ ap (add 0 1 true) (dwords_short k ds (omega arith))

-- one more dword each in model 5.1, none otherwise
pub extras : (m : Bool) (l : List Item) (k : ℕ) (ds : List ℕ) → sum_of m (replicate k s ++ l) ds ≡ sum_of m (replicate (cond m k 0) d ++ l) ds
extras true l zero ds = refl
extras true l (suc k) [] = item_off true s (replicate k s ++ l) [] (unfold read_item some in refl) ∙ sym (item_off true d (replicate k d ++ l) [] (unfold read_item some in refl))
extras true l (suc k) (x ∷ ds) =
    plain_step true s (replicate k s ++ l) (x ∷ ds) (x ∷ []) ds (unfold read_item some in refl) ∙ ap (add 0 1 true) (extras true l k ds) ∙ sym (one_dword_lem true l (replicate k d ++ l) x ds)
extras false l zero ds = refl
extras false l (suc k) ds = plain_step false s (replicate k s ++ l) ds [] ds (unfold read_item some in refl) ∙ add-zero _ ∙ extras false l k ds

-- a dword under 65,536
module _ (m : Bool) (l : List Item) (x : ℕ) (ds : List ℕ) where
  pub small_whole : x < 65_536 → sum_of m (small ∷ l) (x ∷ ds) ≡ add 0 1 true (sum_of m l ds)
  small_whole h = plain_step m small l (x ∷ ds) (x ∷ []) ds (unfold read_item dword in rw (lt-ltb x 65_536 h))

  pub small_large : 65_536 ≤ x → sum_of m (small ∷ l) (x ∷ ds) ≡ off
  small_large h = item_off m small l (x ∷ ds) (unfold read_item dword in rw (le-ltb x 65_536 h))

  -- a dword and as many more as its low bits say
  pub list_whole : (b : ℕ) → x % 2 ^ b ≤ length ds → sum_of m (list b ∷ l) (x ∷ ds) ≡ add 0 (1 + x % 2 ^ b) true (sum_of m l (drop (x % 2 ^ b) ds))
  list_whole b h =
      plain_step m (list b) l (x ∷ ds) (x ∷ take (x % 2 ^ b) ds) (drop (x % 2 ^ b) ds) (unfold read_item dword in rw (first_whole (x % 2 ^ b) ds h)) ∙
      ap (λ (n : ℕ). add 0 n true (sum_of m l (drop (x % 2 ^ b) ds))) (let e = length-take-le (x % 2 ^ b) ds h in omega (arith, e))

  pub list_short : (b : ℕ) → length ds < x % 2 ^ b → sum_of m (list b ∷ l) (x ∷ ds) ≡ off
  list_short b h = item_off m (list b) l (x ∷ ds) (unfold read_item dword in rw (first_short (x % 2 ^ b) ds h))

pub small_none : (m : Bool) (l : List Item) → sum_of m (small ∷ l) [] ≡ off
small_none m l = item_off m small l [] (unfold read_item dword in refl)

pub list_none : (m : Bool) (l : List Item) (b : ℕ) → sum_of m (list b ∷ l) [] ≡ off
list_none m l b = item_off m (list b) l [] (unfold read_item dword in refl)

-- the end
pub nothing_left : (m : Bool) → sum_of m [] [] ≡ sum 0 0 true
unfolding sum_of read_items none_left parts_rows parts_words op.exact_parts
nothing_left m = refl

pub all_left : (m : Bool) (ds : List ℕ) → sum_of m (tail ∷ []) ds ≡ sum 0 (length ds) true
all_left m ds =
    let z : length ds + 0 ≡ length ds = omega arith in
    plain_step m tail [] ds ds [] (unfold read_item in refl) ∙ ap (add 0 (length ds) true) (nothing_left m) ∙ ap (λ (n : ℕ). sum 0 n true) z

pub something_left : (m : Bool) (x : ℕ) (ds : List ℕ) → sum_of m [] (x ∷ ds) ≡ off
unfolding sum_of read_items none_left
something_left m x ds = refl
