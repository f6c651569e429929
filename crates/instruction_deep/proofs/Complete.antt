-- Whatever instruction is read, and is as long as its dwords say, is confirmed where its row, the rows of its operands and its words stand.
use Prim.Native.Nat.{ℕ, ◌%◌, ◌^◌, ◌+◌, ◌*◌}
use mathlib.Core.Path.{◌≡◌, refl, sym, ap, ◌∙◌, subst}
use mathlib.Core.Bool.{Bool, true, false, cond, ◌&&◌}
use mathlib.Core.List.{List, [], ◌∷◌, ◌++◌, append_assoc, append-nil}
use mathlib.Core.Option.{some as just}
use native.Mathlib.Omega.{arith}
use lib.ListN.{length, get_or, length-append}
use lib.Seq.{take_at, drop_at}
use lib.Dec.{ltb, eqb}
use borrow.Author.Tests.{le-leb, lt-ltb, eq-eqb}
use Rattle.format.specs.Dwords.{bits, follows, Got, malformed, got, dword}
use Rattle.format.specs.Framing.{code, code_of, sized, long, length_of}
use Rattle.format.specs.Declarations.{Item, o, d, small, s, tail, list, Layout, layout, chained}
use Rattle.format.specs.Operands as op
use Rattle.format.specs.Operands.{Tree, none, plain}
use Rattle.format.specs.Instructions.{Instruction, unread, pieces, ok, read_item, read_items, split, exact_class, exact_pieces, checked, judged, read, dwords}
use Rattle.format.specs.Rows.{tree_words, tree_rows, tree_table, parts_words, parts_table, parts, unread_row, instruction_row}
use Rattle.format.proofs.Dwords.{impossible, both, All, unmet, met, all_then, all_if, all_weaken, all_both, makes_dword, some_length, none_left_lem, Linked, end, link}
use Rattle.format.proofs.Instructions.{Kept, kept, kept14, kept_if, kept_fault, kept_ok, makes_items, makes_split}
use Rattle.format.proofs.Rows.{table_length}
use Rattle.format.proofs.Refusals.{Reads, nil, cons}
use Rattle.format.proofs.Made.{no_words}
use Rattle.format.proofs.Remade.{Head, head_fact, row_token, row_head, row_kind, exact_pieces_lem}
use Rattle.instruction_fields.specs.Fields.{headed}
use Rattle.operand_deep.specs.Confirm.{Confirmer}
use Rattle.format.proofs.Encoder.{same_refl}
use Rattle.operand_deep.proofs.Complete as operand
use Rattle.instruction_deep.specs.Confirm.{confirm_words, confirm_item, confirm_items, linked, head_taken, confirm_pieces, confirm_known, confirm_unread, confirm_instruction}

-- ---- parts, from words that are theirs alone: where no dword was left, no word is
abbrev ItemWhole : Confirmer → Tree → List ℕ → Type 0
ItemWhole p x left = op.exact x ≡ true → (r w : ℕ) (R W : List ℕ) → (left ≡ [] → W ≡ []) → p (tree_table r w x ++ R) (tree_words x ++ W) r w ≡ just x

words_whole : (n : ℕ) (b : Bool) (x R W : List ℕ) (r w : ℕ) → length x ≡ n → b ≡ true → confirm_words n b R (x ++ [] ++ W) r w ≡ just (plain x none)
words_whole n b x R W r w e h = rw (append-nil x, le-leb n (length (x ++ W)) (omega (arith, length-append x W)), h, take_at x W n e)

tail_length : (x W : List ℕ) → W ≡ [] → length x ≡ length (x ++ [] ++ W)
tail_length x W e = rw (e, append-nil x, append-nil x)

-- whatever is read has a property that follows from being read
all_of : {A : Type 0} {P : A → List ℕ → Type 0} (g : Got A) → ((a : A) (r : List ℕ) → g ≡ got a r → P a r) → All P g
all_of malformed f = unmet
all_of (got a r) f = met (f a r refl)

item_whole : (m : Bool) (i : Item) (ds : List ℕ) → All (λ x left. ItemWhole (confirm_item m i) x left) (read_item m i ds)
unfolding read_item confirm_item tree_table tree_words
item_whole m o ds = all_of (op.operand 64 ds) (λ x left f h r w R W z. operand.complete 64 ds x left f h r w R W)
item_whole m d ds = all_then (some_length 1 ds) (λ x left l. met (λ h r w R W z. words_whole 1 true x R W r w l.1 refl))
item_whole m small ds = all_then (makes_dword ds) (λ x left u. all_if (ltb x 65_536) _ _ left (λ y. met (λ h r w R W z. words_whole 1 (ltb x 65_536) (x ∷ []) R W r w refl y)) (λ y. unmet))
item_whole m s ds = all_then (some_length (cond m 1 0) ds) (λ x left l. met (λ h r w R W z. words_whole (cond m 1 0) true x R W r w l.1 refl))
item_whole m tail ds = met (λ h r w R W z. words_whole _ true ds R W r w (tail_length ds W (z refl)) refl)
item_whole m (list b) ds = all_then (makes_dword ds) (λ n left₁ u. all_then (some_length (n % 2 ^ b) left₁) (λ x left l. met (λ h r w R W z. words_whole (1 + n % 2 ^ b) true (n ∷ x) R W r w (omega (arith, l.1)) refl)))

abbrev PartsWhole : Bool → List Item → List Tree → Type 0
PartsWhole m l ps = op.exact_parts ps ≡ true → (r w : ℕ) (R : List ℕ) → confirm_items m l (parts_table r w ps ++ R) (parts_words ps) r w ≡ just ps

no_items : (m : Bool) → PartsWhole m [] []
unfolding confirm_items
no_items m h r w R = refl

parts_step : (m : Bool) (i : Item) (l : List Item) (x : Tree) (ps : List Tree) (left left₁ : List ℕ) → ItemWhole (confirm_item m i) x left → PartsWhole m l ps → op.parts_dwords ps ++ left₁ ≡ left → PartsWhole m (i ∷ l) (x ∷ ps)
unfolding confirm_items parts_table parts_words op.exact_parts
parts_step m i l x ps left left₁ f g e h r w R =
    let b = both (op.exact x) (op.exact_parts ps) h in
    let r₁ : ℕ = r + tree_rows x in
    let w₁ : ℕ = w + length (tree_words x) in
    rw (
      append_assoc (tree_table r w x) (parts_table r₁ w₁ ps) R,
      f b.0 r w (parts_table r₁ w₁ ps ++ R) (parts_words ps) (λ z. no_words ps left₁ (e ∙ z)),
      drop_at (tree_table r w x) (parts_table r₁ w₁ ps ++ R) (16 * tree_rows x) (table_length r w x),
      drop_at (tree_words x) (parts_words ps) (length (tree_words x)) refl,
      g b.1 r₁ w₁ R,
    )

items_whole : (m : Bool) (l : List Item) (ds : List ℕ) → All (λ ps r. PartsWhole m l ps) (read_items m l ds)
unfolding read_items
items_whole m [] ds = met (no_items m)
items_whole m (i ∷ l) ds =
    all_then (item_whole m i ds) (λ x left f. all_then (all_both (items_whole m l left) (makes_items m l left)) (λ ps left₁ g. met (parts_step m i l x ps left left₁ f g.0 g.1)))

-- ---- what stands after a token
linked_whole : {b : Bool} {e : List ℕ} → Linked b e → linked b e ≡ true
unfolding linked
linked_whole end = refl
linked_whole (link k) = linked_whole k

head_taken_lem : (x : Layout) (t : ℕ) (e : List ℕ) → Head x t e → head_taken x t e ≡ true
unfolding head_taken
head_taken_lem x t e h = go (sized t) refl
  where
    go : (b : Bool) → sized t ≡ b → cond b (eqb (length e) 1) (linked (chained x && follows t) e) ≡ true
    go true z = eq-eqb (length e) 1 (h.one z)
    go false z = linked_whole (h.linked z)

first_dword : (e after : List ℕ) → length e ≡ 1 → get_or (e ++ after) 0 0 ≡ get_or e 0 0
first_dword [] after h = impossible (omega arith)
first_dword (x ∷ e) after h = refl

head_length : (x : Layout) (t : ℕ) (e after : List ℕ) → Head x t e → length_of t (e ++ after) ≡ length_of t e
unfolding length_of
head_length x t e after h = go (sized t) refl
  where
    go : (b : Bool) → sized t ≡ b → cond b (get_or (e ++ after) 0 0) (bits 24 30 t) ≡ cond b (get_or e 0 0) (bits 24 30 t)
    go true z = first_dword e after (h.one z)
    go false z = refl

exact_head : (x : Layout) (t : ℕ) (e : List ℕ) (ps : List Tree) → exact_pieces x t e ps ≡ true → headed x t e (length (op.parts_dwords ps)) ≡ true
unfolding exact_pieces exact_class headed
exact_head x t e ps h = (both _ (op.exact_parts ps) h).0

-- ---- an instruction
module _ (c : ℕ) (m : Bool) where
  abbrev Whole : Instruction → Type 0
  Whole j = (place r w : ℕ) (R : List ℕ) → confirm_instruction c m (instruction_row place r w j) place (parts_table r w (parts j) ++ R) (parts_words (parts j)) r w ≡ just j

  unread_whole : (t : ℕ) (i : List ℕ) → length (t ∷ i) ≡ length_of t i → ltb (code t) c ≡ false → Whole (unread (t ∷ i))
  unfolding confirm_instruction confirm_unread instruction_row unread_row code_of parts parts_table parts_words tree_table tree_words
  unread_whole t i n k place r w R =
      rw (append-nil, append-nil i, k, lt-ltb 0 (length (t ∷ i)) (omega arith), eq-eqb (length_of t i) (length (t ∷ i)) (sym n), same_refl _)

  pieces_whole : (t : ℕ) (e : List ℕ) (ps : List Tree) → ltb (code t) c ≡ true → Head (layout (code t)) t e → PartsWhole m (layout (code t)).items ps →
      length (dwords (pieces t e ps)) ≡ length_of t (e ++ op.parts_dwords ps) → exact_pieces (layout (code t)) t e ps ≡ true → Whole (pieces t e ps)
  unfolding confirm_instruction confirm_known confirm_pieces parts
  pieces_whole t e ps u h f n k place r w R =
      let x = exact_pieces_lem t e ps k in
      let y = (row_kind place r w t e ps).1 in
      rw (
        y,
        u,
        y,
        row_token place r w t e ps (e ++ op.parts_dwords ps) h n x.token,
        row_head place r w t e ps (op.parts_dwords ps) h n x.chain,
        f x.parts r w R,
        exact_head (layout (code t)) t e ps k,
        head_taken_lem (layout (code t)) t e h,
        eq-eqb (length_of t e) (length (dwords (pieces t e ps))) (sym (n ∙ head_length (layout (code t)) t e (op.parts_dwords ps) h)),
        same_refl (instruction_row place r w (pieces t e ps)),
      )

  -- what splitting says of the pieces
  data Split (t : ℕ) : Instruction → Type 0 where
    parted : {e : List ℕ} {ps : List Tree} → Head (layout (code t)) t e → PartsWhole m (layout (code t)).items ps → Split t (pieces t e ps)

  split_whole : (t : ℕ) (i : List ℕ) → All (λ j r. Split t j) (split m (layout (code t)) (t ∷ i))
  unfolding split dword
  split_whole t i =
      all_then (head_fact (layout (code t)) t i) (λ e ds₁ f.
      all_then (items_whole m (layout (code t)).items ds₁) (λ ps ds₂ g.
      all_weaken (λ j r z. subst (Split t) (sym z.0) (parted f g)) (none_left_lem (pieces t e ps) ds₂)))

  checked_whole : (t : ℕ) (i : List ℕ) {j : Instruction} → length (t ∷ i) ≡ length_of t i → ltb (code t) c ≡ true → Split t j → dwords j ≡ t ∷ i → Kept Whole (checked (layout (code t)) j)
  unfolding checked dwords
  checked_whole t i n u (parted {e = e} {ps = ps} h f) z =
      let z₁ : e ++ op.parts_dwords ps ≡ i = cc in
      kept_if (exact_pieces (layout (code t)) t e ps) _ _ (λ k. kept (pieces_whole t e ps u h f (ap length z ∙ n ∙ ap (length_of t) (sym z₁)) k)) (λ k. kept14)

  judged_whole : (t : ℕ) (i : List ℕ) {g : Got Instruction} → length (t ∷ i) ≡ length_of t i → ltb (code t) c ≡ true → All (λ j r. Split t j × (dwords j ≡ t ∷ i)) g → Kept Whole (judged (layout (code t)) g)
  unfolding judged
  judged_whole t i n u unmet = kept_fault (layout (code t))
  judged_whole t i n u (met p) = checked_whole t i n u p.0 p.1

  read_whole : (t : ℕ) (i : List ℕ) → length (t ∷ i) ≡ length_of t i → Kept Whole (read c m (t ∷ i))
  unfolding read code_of
  read_whole t i n =
      kept_if (ltb (code t) c) _ _ (λ k. judged_whole t i n k (all_both (split_whole t i) (makes_split m (layout (code t)) (t ∷ i)))) (λ k. kept (unread_whole t i n k))

  pub complete : (t : ℕ) (i : List ℕ) (j : Instruction) → length (t ∷ i) ≡ length_of t i → read c m (t ∷ i) ≡ ok j →
      (place r w : ℕ) (R : List ℕ) → confirm_instruction c m (instruction_row place r w j) place (parts_table r w (parts j) ++ R) (parts_words (parts j)) r w ≡ just j
  complete t i j n e = kept_ok (read_whole t i n) e

-- ---- in an accepted payload an instruction's own dwords say how long it is: a length of 1 after its token would be a token of no length
no_length : (l : List ℕ) → length_of 1 l ≡ 0
unfolding length_of sized long
no_length l = refl

pub own_length : {c : ℕ} {m : Bool} {l : List Instruction} (t : ℕ) (i left : List ℕ) → Reads c m left l → length (t ∷ i) ≡ length_of t (i ++ left) → length (t ∷ i) ≡ length_of t i
unfolding length_of
own_length t (x ∷ i) left k n = n
own_length t [] left nil n = n
own_length t [] left (cons u i after n₁ y e k) n = go (sized t) (rw (← y) at n)
  where
    go : (b : Bool) → 1 ≡ cond b u (bits 24 30 t) → 1 ≡ cond b 0 (bits 24 30 t)
    go true z = impossible (omega (arith, rw (← z) at n₁, no_length (i ++ after)))
    go false z = z
