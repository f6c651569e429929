-- An accepted payload is made again from its rows and words.
use Prim.Native.Nat.{ℕ, ◌+◌, ◌*◌, ◌%◌, ◌^◌}
use mathlib.Core.Path.{◌≡◌, refl, sym, ap, ◌∙◌, subst}
use mathlib.Core.List.{List, [], ◌∷◌, ◌++◌, append_assoc, append-nil}
use mathlib.Core.Bool.{Bool, true, false, cond, ◌&&◌, ◌||◌}
use mathlib.Core.Option.{Option, none as nothing, some}
use lib.ListN.{length, get_or}
use lib.Seq.{take_at, drop_at, take-length, drop-length}
use lib.Dec.{ltb, eqb}
use native.Mathlib.Omega.{arith}
use native.Mathlib.Nat.{add-zero}
use borrow.Author.Tests.{eqb-true}
use Rattle.format.specs.Dwords.{bits, follows, Got, dword}
use Rattle.format.specs.Framing.{code, code_of, long, sized, length_of}
use Rattle.format.specs.Counts.{numbers, within, line_of, operand_count, token_with, rising, of_type, type_bits}
use Rattle.format.specs.Declarations.{Item, tail, Field, no, from, in_table, declarations, by_count, in_bounds, Layout, layout, chained}
use Rattle.format.specs.Operands as op
use Rattle.format.specs.Operands.{Tree}
use Rattle.format.specs.Instructions.{Instruction, unread, pieces, read_head, split, fields_of, extensions, exact_class, exact_pieces, checked, judged, read, dwords, all_dwords}
use Rattle.format.specs.Rows.{tree_words, tree_table, parts_words, parts_rows, parts_table, parts, unread_row, instruction_row, instruction_rows, all_parts}
use Rattle.format.specs.Encoder.{these, at, make_item, chain_of, sized_row, token_of_row, head_of_row, make_instruction, make_all}
use Rattle.format.proofs.Dwords.{impossible, both, All, unmet, met, all_then, all_if, all_weaken, all_both, some_length, none_left_lem, Linked, end, link, chain_linked}
use Rattle.format.proofs.Chains.{bit31, chain_again, chain_shown}
use Rattle.format.proofs.Instructions.{Kept, kept, kept14, kept_if, kept_fault, kept_ok, makes_split}
use Rattle.format.proofs.Rows.{row_length, table_append, words_append}
use Rattle.format.proofs.Refusals.{Reads, nil, cons}
use Rattle.format.proofs.Made.{PartsAgain, items_again}

-- ---- codes whose length may be in the next dword have no chain
or_else : (a b : Bool) → (a || b) ≡ true → a ≡ false → b ≡ true
or_else true b e f = impossible (cc)
or_else false b e f = e

chainless_145 : (c : ℕ) (b : Bool) → eqb c 145 ≡ b → (eqb c 145 || eqb c 146) ≡ true → chained (layout c) ≡ false
unfolding layout in_table within numbers operand_count line_of
chainless_145 c true e f = rw (eqb-true c 145 e)
chainless_145 c false e f = rw (eqb-true c 146 (or_else (eqb c 145) (eqb c 146) f e))

chainless_53 : (c : ℕ) → eqb c 53 ≡ true → chained (layout c) ≡ false
unfolding layout in_table within numbers operand_count line_of
chainless_53 c e = rw (eqb-true c 53 e)

long_chainless : (t : ℕ) → long t ≡ true → chained (layout (code t)) ≡ false
unfolding long
long_chainless t e = chainless_145 (code t) _ refl (both _ (follows t) e).0

long_follows : (t : ℕ) → long t ≡ true → follows t ≡ true
unfolding long
long_follows t e = (both (eqb (code t) 145 || eqb (code t) 146) (follows t) e).1

unsized_short : (t : ℕ) → sized t ≡ false → long t ≡ false
unfolding sized
unsized_short t e = go (eqb (code t) 53) (long t) e
  where
    go : (a b : Bool) → (a || b) ≡ false → b ≡ false
    go true b e = impossible (cc)
    go false b e = e

-- and the kinds of known codes are 1 to 5
module _ (P : ℕ → Type 0) (p1 : P 1) (p2 : P 2) (p3 : P 3) (p4 : P 4) (p5 : P 5) where
  in_table_lem : (l : List (List ℕ × Field × List Item)) (c : ℕ) (x : Layout) → P x.kind → P (in_table l c x).kind
  unfolding in_table
  in_table_lem [] c x h = h
  in_table_lem (row ∷ l) c x h = go (within c row.0) (in_table_lem l c x h)
    where
      go : (b : Bool) → P (in_table l c x).kind → P (cond b (record { kind = 4; field = row.1; items = row.2 }) (in_table l c x)).kind
      go true h = p4
      go false h = h

  pub every_kind : (c : ℕ) → P (layout c).kind
  unfolding layout
  every_kind c = go (within c (numbers 4 113)) (eqb c 53)
    where
      counted : (n : Option ℕ) → P (by_count c n).kind
      counted nothing = p2
      counted (some n) = p1

      tabled : Layout
      tabled = in_table declarations c (by_count c (operand_count c))

      go : (a b : Bool) → P (cond a (record { kind = 3; field = no; items = [] }) (cond b (record { kind = 5; field = from 11 15; items = tail ∷ [] }) tabled)).kind
      go true b = p3
      go false true = p5
      go false false = in_table_lem declarations c (by_count c (operand_count c)) (counted (operand_count c))

pub kind_positive : (c : ℕ) → eqb (layout c).kind 0 ≡ false
kind_positive c = every_kind (λ k. eqb k 0 ≡ false) refl refl refl refl refl c

-- ---- what stands after a token
pub record Head (x : Layout) (t : ℕ) (e : List ℕ) : Type 0 where
  pub one : sized t ≡ true → length e ≡ 1
  pub linked : sized t ≡ false → Linked (chained x && follows t) e

pub head_fact : (x : Layout) (t : ℕ) (ds : List ℕ) → All (λ e r. Head x t e) (read_head x t ds)
unfolding read_head
head_fact x t ds = all_if (sized t) _ _ ds
    (λ z. all_weaken (λ e r l. record { one = λ y. l.1; linked = λ y. impossible (cc) }) (some_length 1 ds))
    (λ z. all_weaken (λ e r l. record { one = λ y. impossible (cc); linked = λ y. l.1 }) (chain_linked (chained x && follows t) ds))

unlinked : {b : Bool} {e : List ℕ} → Linked b e → b ≡ false → e ≡ []
unlinked end z = refl
unlinked (link k) z = impossible (cc)

pub one_dword_lem : (e after : List ℕ) → length e ≡ 1 → get_or (e ++ after) 0 0 ∷ [] ≡ e
one_dword_lem [] after h = impossible (omega arith)
one_dword_lem (x ∷ []) after h = refl
one_dword_lem (x ∷ y ∷ e) after h = impossible (omega arith)

-- ---- an instruction's row gives back its token and what stands after it
module _ (at₀ r w t : ℕ) (e : List ℕ) (ps : List Tree) where
  abbrev q : List ℕ
  q = instruction_row at₀ r w (pieces t e ps)

  abbrev x : Layout
  x = layout (code t)

  shown_long : chained x ≡ false → ltb 0 (at 8 q) ≡ long t
  unfolding instruction_row extensions type_bits
  shown_long z = rw z (go (long t))
    where
      go : (b : Bool) → ltb 0 (0 + cond b 8 0) ≡ b
      go true = refl
      go false = refl

  row_sized : sized_row q ≡ sized t
  unfolding sized_row sized instruction_row
  row_sized = ap (λ (b : Bool). eqb (code t) 53 || b) (go (eqb (code t) 145 || eqb (code t) 146) refl)
    where
      go : (b : Bool) → (eqb (code t) 145 || eqb (code t) 146) ≡ b → (b && ltb 0 (at 8 q)) ≡ long t
      go true z = shown_long (chainless_145 (code t) _ refl z)
      go false z = unfold long in rw z

  shown_chain : chained x ≡ true → long t ≡ false → Linked (follows t) e → ltb 0 (at 8 q) ≡ follows t
  unfolding instruction_row extensions
  shown_chain z y k = rw (z, y, add-zero (type_bits e)) (chain_shown k)

  unsized : chained x ≡ true → long t ≡ false → sized t ≡ false
  unfolding sized
  unsized z y = go (eqb (code t) 53) refl
    where
      go : (b : Bool) → eqb (code t) 53 ≡ b → (b || long t) ≡ false
      go true f = let n = chainless_53 (code t) f in impossible (cc)
      go false f = y

  row_extended : Head x t e → cond (ltb 0 (at 8 q)) 1 0 ≡ cond (chained x || long t) (bits 31 31 t) 0
  row_extended h = go (long t) (chained x) refl refl
    where
      go : (l c : Bool) → long t ≡ l → chained x ≡ c → cond (ltb 0 (at 8 q)) 1 0 ≡ cond (c || l) (bits 31 31 t) 0
      go true true y z = let n = long_chainless t y in impossible (cc)
      go true false y z = rw (shown_long z, y) (sym (bit31 t true (long_follows t y)))
      go false true y z =
          let k : Linked (follows t) e = rw z at (h.linked (unsized z y)) in
          rw (shown_chain z y k) (sym (bit31 t (follows t) refl))
      go false false y z = rw (shown_long z, y)

  row_size : (after : List ℕ) → length (dwords (pieces t e ps)) ≡ length_of t after → cond (sized_row q) 0 (at 1 q) ≡ cond (sized t) 0 (bits 24 30 t)
  unfolding length_of instruction_row
  row_size after n = rw row_sized (go (sized t) n)
    where
      go : (b : Bool) → length (dwords (pieces t e ps)) ≡ cond b (get_or after 0 0) (bits 24 30 t) → cond b 0 (length (dwords (pieces t e ps))) ≡ cond b 0 (bits 24 30 t)
      go true n = refl
      go false n = n

  pub row_token : (after : List ℕ) → Head x t e → length (dwords (pieces t e ps)) ≡ length_of t after → eqb t (token_with (code t) (fields_of x t)) ≡ true → token_of_row q ≡ t
  unfolding token_of_row fields_of instruction_row
  row_token after h n k = rw (row_size after n, row_extended h) (sym (eqb-true t _ k))

  row_chain : sized t ≡ false → Head x t e → rising 0 (extensions x e) ≡ true → cond (chained x) (chain_of (at 8 q) (at 9 q) (at 10 q) (at 11 q)) [] ≡ e
  unfolding instruction_row extensions
  row_chain z h k = go (chained x) (h.linked z) k
    where
      go : (c : Bool) → Linked (c && follows t) e → rising 0 (cond c e []) ≡ true →
          cond c (chain_of (type_bits (cond c e []) + cond (long t) 8 0) (bits 9 20 (of_type 1 (cond c e []))) (of_type 2 (cond c e []) % 2 ^ 31) (of_type 3 (cond c e []) % 2 ^ 31)) [] ≡ e
      go true l k = rw (unsized_short t z, add-zero (type_bits e)) (chain_again l k)
      go false l k = sym (unlinked l refl)

  pub row_head : (after : List ℕ) → Head x t e → length (dwords (pieces t e ps)) ≡ length_of t (e ++ after) → rising 0 (extensions x e) ≡ true → head_of_row q ≡ e
  unfolding head_of_row length_of
  row_head after h n k = rw row_sized (go (sized t) refl n)
    where
      go : (b : Bool) → sized t ≡ b → length (dwords (pieces t e ps)) ≡ cond b (get_or (e ++ after) 0 0) (bits 24 30 t) → cond b (at 1 q ∷ []) (cond (chained (layout (at 2 q))) (chain_of (at 8 q) (at 9 q) (at 10 q) (at 11 q)) []) ≡ e
      go true z n = unfold instruction_row in (ap (λ (y : ℕ). y ∷ []) n ∙ one_dword_lem e after (h.one z))
      go false z n = unfold instruction_row in row_chain z h k

-- ---- an instruction is made again from its row, its operands' rows and its words
abbrev Remade : Bool → Instruction → Type 0
Remade m i = (at₀ r w : ℕ) (R : List ℕ) → make_instruction m (instruction_row at₀ r w i) (parts_table r w (parts i) ++ R) (parts_words (parts i)) ≡ these (dwords i) R []

unread_again : (m : Bool) (ds : List ℕ) → Remade m (unread ds)
unfolding make_instruction make_item instruction_row unread_row parts parts_table parts_words tree_table tree_words dwords
unread_again m ds at₀ r w R = rw (append-nil, append-nil ds, take-length ds, drop-length ds)

pub record Exact (t : ℕ) (e : List ℕ) (ps : List Tree) : Type 0 where
  pub token : eqb t (token_with (code t) (fields_of (layout (code t)) t)) ≡ true
  pub chain : rising 0 (extensions (layout (code t)) e) ≡ true
  pub parts : op.exact_parts ps ≡ true

pub exact_pieces_lem : (t : ℕ) (e : List ℕ) (ps : List Tree) → exact_pieces (layout (code t)) t e ps ≡ true → Exact t e ps
unfolding exact_pieces
exact_pieces_lem t e ps h =
    let h₁ = both _ (op.exact_parts ps) h in
    let h₂ = both _ (exact_class (layout (code t)) t ps) h₁.0 in
    let h₃ = both _ (in_bounds (layout (code t)).field t) h₂.0 in
    let h₄ = both (eqb t (token_with (code t) (fields_of (layout (code t)) t))) (rising 0 (extensions (layout (code t)) e)) h₃.0 in
    record { token = h₄.0; chain = h₄.1; parts = h₁.1 }

pub row_kind : (at₀ r w t : ℕ) (e : List ℕ) (ps : List Tree) → (at 3 (q at₀ r w t e ps) ≡ (layout (code t)).kind) × (at 2 (q at₀ r w t e ps) ≡ code t)
unfolding instruction_row
row_kind at₀ r w t e ps = (refl, refl)

pieces_again : (m : Bool) (t : ℕ) (e : List ℕ) (ps : List Tree) (after : List ℕ) → Head (layout (code t)) t e → PartsAgain m (layout (code t)).items ps →
    length (dwords (pieces t e ps)) ≡ length_of t (e ++ after) → exact_pieces (layout (code t)) t e ps ≡ true → Remade m (pieces t e ps)
unfolding make_instruction parts dwords
pieces_again m t e ps after h f n k at₀ r w R =
    let x = exact_pieces_lem t e ps k in
    let y = row_kind at₀ r w t e ps in
    rw (y.0, y.1, kind_positive (code t), row_token at₀ r w t e ps (e ++ after) h n x.token, row_head at₀ r w t e ps after h n x.chain, f x.parts r w R)

-- what splitting says of the pieces
data Known (m : Bool) (t : ℕ) : Instruction → Type 0 where
  known : {e : List ℕ} {ps : List Tree} → Head (layout (code t)) t e → PartsAgain m (layout (code t)).items ps → Known m t (pieces t e ps)

split_known : (m : Bool) (t : ℕ) (ds : List ℕ) → All (λ i r. Known m t i) (split m (layout (code t)) (t ∷ ds))
unfolding split dword
split_known m t ds =
    all_then (head_fact (layout (code t)) t ds) (λ e ds₁ f.
    all_then (items_again m (layout (code t)).items ds₁) (λ ps ds₂ g.
    all_weaken (λ i r z. subst (Known m t) (sym z.0) (known f g)) (none_left_lem (pieces t e ps) ds₂)))

checked_again : (m : Bool) (t : ℕ) (ds after : List ℕ) {i : Instruction} → length (t ∷ ds) ≡ length_of t (ds ++ after) → Known m t i → dwords i ≡ t ∷ ds → Kept (Remade m) (checked (layout (code t)) i)
unfolding checked dwords
checked_again m t ds after n (known {e = e} {ps = ps} h f) z =
    let z₁ : e ++ op.parts_dwords ps ≡ ds = cc in
    kept_if (exact_pieces (layout (code t)) t e ps) _ _ (λ k. kept (pieces_again m t e ps (op.parts_dwords ps ++ after) h f (ap length z ∙ n ∙ ap (λ (l : List ℕ). length_of t (l ++ after)) (sym z₁) ∙ ap (length_of t) (append_assoc e (op.parts_dwords ps) after)) k)) (λ k. kept14)

judged_again : (m : Bool) (t : ℕ) (ds after : List ℕ) {g : Got Instruction} → length (t ∷ ds) ≡ length_of t (ds ++ after) → All (λ i r. Known m t i × (dwords i ≡ t ∷ ds)) g → Kept (Remade m) (judged (layout (code t)) g)
unfolding judged
judged_again m t ds after n unmet = kept_fault (layout (code t))
judged_again m t ds after n (met p) = checked_again m t ds after n p.0 p.1

read_again : (c : ℕ) (m : Bool) (t : ℕ) (ds after : List ℕ) → length (t ∷ ds) ≡ length_of t (ds ++ after) → Kept (Remade m) (read c m (t ∷ ds))
unfolding read code_of
read_again c m t ds after n = kept_if (ltb (code t) c) _ _ (λ k. judged_again m t ds after n (all_both (split_known m t ds) (makes_split m (layout (code t)) (t ∷ ds)))) (λ k. kept (unread_again m (t ∷ ds)))

-- ---- what its row says is exact, and its kind depends on code and ceiling only
pub data Sound (ceiling : ℕ) : Instruction → Type 0 where
  not_read : {ds : List ℕ} → ltb (code_of ds) ceiling ≡ false → Sound ceiling (unread ds)
  exact_read : {t : ℕ} {e : List ℕ} {ps : List Tree} → ltb (code t) ceiling ≡ true → Exact t e ps → Sound ceiling (pieces t e ps)

checked_sound : (c : ℕ) (m : Bool) (t : ℕ) {i : Instruction} → ltb (code t) c ≡ true → Known m t i → Kept (Sound c) (checked (layout (code t)) i)
unfolding checked
checked_sound c m t z (known {e = e} {ps = ps} h f) = kept_if (exact_pieces (layout (code t)) t e ps) _ _ (λ k. kept (exact_read z (exact_pieces_lem t e ps k))) (λ k. kept14)

judged_sound : (c : ℕ) (m : Bool) (t : ℕ) {g : Got Instruction} → ltb (code t) c ≡ true → All (λ i r. Known m t i) g → Kept (Sound c) (judged (layout (code t)) g)
unfolding judged
judged_sound c m t z unmet = kept_fault (layout (code t))
judged_sound c m t z (met k) = checked_sound c m t z k

pub read_sound : (c : ℕ) (m : Bool) (t : ℕ) (ds : List ℕ) → Kept (Sound c) (read c m (t ∷ ds))
unfolding read code_of
read_sound c m t ds = kept_if (ltb (code t) c) _ _ (λ k. judged_sound c m t k (split_known m t ds)) (λ k. kept (not_read k))

-- the kind that a code has under a ceiling
abbrev pub kind_under : ℕ → ℕ → ℕ
kind_under ceiling c = cond (ltb c ceiling) (layout c).kind 0

pub sound_kind : {c : ℕ} {i : Instruction} → Sound c i → (at₀ r w : ℕ) → at 3 (instruction_row at₀ r w i) ≡ kind_under c (at 2 (instruction_row at₀ r w i))
unfolding instruction_row unread_row
sound_kind (not_read z) at₀ r w = rw z
sound_kind (exact_read z x) at₀ r w = rw z

pub row_words : (at₀ r w : ℕ) (i : Instruction) → at 15 (instruction_row at₀ r w i) ≡ length (parts_words (parts i))
unfolding instruction_row unread_row parts parts_words tree_words
row_words at₀ r w (unread ds) = rw (append-nil, append-nil ds)
row_words at₀ r w (pieces t e ps) = refl

-- an accepted payload is made again from its rows and words
pub reads_again : {c : ℕ} {m : Bool} {ds : List ℕ} {l : List Instruction} → Reads c m ds l → (at₀ r w : ℕ) → make_all (length l) m (instruction_rows at₀ r w l) (parts_table r w (all_parts l)) (parts_words (all_parts l)) ≡ all_dwords l
unfolding make_all instruction_rows all_parts all_dwords
reads_again nil at₀ r w = refl
reads_again {c} {m} (cons t i left {j = j} {l = l} n s e k) at₀ r w =
    let q : List ℕ = instruction_row at₀ r w j in
    let p : List ℕ = parts_words (parts j) in
    rw (
      take_at q _ 16 (row_length at₀ r w j),
      drop_at q _ 16 (row_length at₀ r w j),
      row_words at₀ r w j,
      words_append (parts j) (all_parts l),
      table_append r w (parts j) (all_parts l),
      take_at p _ (length p) refl,
      drop_at p _ (length p) refl,
      kept_ok (read_again c m t i left n) e at₀ r w _,
      reads_again k (at₀ + 4 * length (dwords j)) (r + parts_rows (parts j)) (w + length p),
    )
