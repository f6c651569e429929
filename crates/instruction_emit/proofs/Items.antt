-- What the confirmed items of a layout are: operands, and words that are dwords.
use Prim.Native.Nat.{ℕ, zero, suc, ◌+◌, ◌*◌, ◌≤◌}
use mathlib.Core.Path.{◌≡◌, refl, ap, ◌∙◌}
use mathlib.Core.Bool.{Bool, true, false, cond, ◌&&◌, ◌||◌}
use mathlib.Core.List.{List, [], ◌∷◌, ◌++◌, append_assoc}
use mathlib.Core.Option.{Option, none as nothing, some as just}
use native.Mathlib.Nat.{add-zero}
use native.Mathlib.Omega.{arith}
use lib.ListN.{length, take, drop, replicate, length-append}
use lib.Seq.{drop_at}
use lib.Dec.{eqb, leb}
use borrow.Author.Tests.{eqb-true, eqb-false, le-leb}
use Rattle.format.specs.Counts.{numbers, within, operand_count}
use Rattle.format.specs.Declarations.{Item, o, d, small, s, tail, list, Field, no, from, in_table, declarations, by_count, Layout, layout}
use Rattle.format.specs.Operands as op
use Rattle.format.specs.Operands.{Tree, none, plain, node}
use Rattle.format.specs.Rows.{tree_words, tree_rows, operand_row, parts_words, parts_rows, top_level}
use Rattle.format.specs.Encoder.{at, extension_of, operand_dword, same}
use Rattle.format.proofs.Dwords.{impossible, both}
use Rattle.operand_deep.specs.Confirm.{Confirmer, behind, confirm_index, confirmed, confirm_immediates, confirm_indices, confirm_front, confirm}
use Rattle.operand_deep.proofs.Every.{Every, unmet, met, every_then, every_if}
use Rattle.instruction_deep.specs.Confirm.{confirm_words, confirm_item, confirm_items}
use Rattle.operand_emit.proofs.Opened.{every_self}
use Rattle.instruction_emit.specs.Emits.{before}
use Rattle.instruction_emit.proofs.Runs.{confirm_run}

-- what there is, with its equation
every_with : {A : Type 0} {P : A → Type 0} {x : Option A} → Every P x → Every (λ a. P a × (x ≡ just a)) x
every_with unmet = unmet
every_with (met p) = met (p, refl)

-- ---- an operand is one of the top level
abbrev Top : Tree → Type 0
Top x = (l : List Tree) → top_level (x ∷ l) ≡ suc (top_level l)

node_top : (t : ℕ) (e m : List ℕ) (a b c : Tree) → Top (node t e m a b c)
unfolding top_level
node_top t e m a b c l = omega arith

confirmed_top : (q : List ℕ) (r w t : ℕ) (e m : List ℕ) (a b c : Tree) → Every Top (confirmed q r w t e m a b c)
unfolding confirmed
confirmed_top q r w t e m a b c = every_if (same q (operand_row r w t e m a b c)) _ _ (λ z. met (node_top t e m a b c)) (λ z. unmet)

indices_top : (p : Confirmer) (q : List ℕ) (t : ℕ) (e rs ws : List ℕ) (r w : ℕ) → Every Top (confirm_indices p q t e rs ws r w)
unfolding confirm_indices
indices_top p q t e rs ws r w =
    every_then (every_self (confirm_index p (op.repr 0 t) rs ws (r + 1) w)) (λ a y.
    every_then (every_self (behind a (confirm_index p (op.repr 1 t)) rs ws (r + 1) w)) (λ b y.
    every_then (every_self (behind a (behind b (confirm_index p (op.repr 2 t))) rs ws (r + 1) w)) (λ c y. confirmed_top q r w t e [] a b c)))

operand_top : (k : ℕ) (rs ws : List ℕ) (r w : ℕ) → Every Top (confirm k rs ws r w)
unfolding confirm confirm_front confirm_immediates
operand_top zero rs ws r w = unmet
operand_top (suc k) rs ws r w =
    let q : List ℕ = take 16 rs in
    let t : ℕ = operand_dword q in
    let e : List ℕ = extension_of (at 3 q) in
    every_if (leb 16 (length rs)) _ _ (λ z.
    every_if (op.exact_dword t && op.exact_extension e) _ _ (λ z.
    every_if (op.immediate t) _ _
    (λ z. every_if (eqb (op.dimension t) 0 && leb (op.immediates t) (length ws)) _ _ (λ z. confirmed_top q r w t e _ _ _ _) (λ z. unmet))
    (λ z. indices_top (confirm k) q t e (drop 16 rs) ws r w))
    (λ z. unmet))
    (λ z. unmet)

-- ---- any other item is words
record Flat (x : Tree) : Type 0 where
  dwords_are : op.dwords x ≡ tree_words x
  no_rows : tree_rows x ≡ 0
  no_top : (l : List Tree) → top_level (x ∷ l) ≡ top_level l

flat : (l : List ℕ) → Flat (plain l none)
unfolding op.dwords tree_words tree_rows top_level
flat l = record { dwords_are = refl; no_rows = refl; no_top = λ l. refl }

words_flat : (n : ℕ) (b : Bool) (rs ws : List ℕ) (r w : ℕ) → Every Flat (confirm_words n b rs ws r w)
words_flat n b rs ws r w = every_if (leb n (length ws) && b) _ _ (λ z. met (flat (take n ws))) (λ z. unmet)

-- no operand is among them
unfoldable bare : List Item → Bool
bare [] = true
bare (o ∷ l) = false
bare (d ∷ l) = bare l
bare (small ∷ l) = bare l
bare (s ∷ l) = bare l
bare (tail ∷ l) = bare l
bare (list b ∷ l) = bare l

record AllFlat (ps : List Tree) : Type 0 where
  dwords_are : op.parts_dwords ps ≡ parts_words ps
  no_rows : parts_rows ps ≡ 0
  no_top : top_level ps ≡ 0

all_flat : AllFlat []
unfolding op.parts_dwords parts_words parts_rows top_level
all_flat = record { dwords_are = refl; no_rows = refl; no_top = refl }

flat_more : (x : Tree) (ps : List Tree) → Flat x → AllFlat ps → AllFlat (x ∷ ps)
unfolding op.parts_dwords parts_words parts_rows
flat_more x ps f g = record { dwords_are = rw (f.dwords_are, g.dwords_are); no_rows = omega (arith, f.no_rows, g.no_rows); no_top = f.no_top ps ∙ g.no_top }

module _ (m : Bool) where
  then_flat : (i : Item) (l : List Item) (rs ws : List ℕ) (r w : ℕ) → Every Flat (confirm_item m i rs ws r w) → ((rs ws : List ℕ) (r w : ℕ) → Every AllFlat (confirm_items m l rs ws r w)) → Every AllFlat (confirm_items m (i ∷ l) rs ws r w)
  unfolding confirm_items
  then_flat i l rs ws r w f g = every_then f (λ x h. every_then (g _ _ _ _) (λ ps k. met (flat_more x ps h k)))

  items_flat : (l : List Item) → bare l ≡ true → (rs ws : List ℕ) (r w : ℕ) → Every AllFlat (confirm_items m l rs ws r w)
  unfolding bare confirm_item
  items_flat [] h rs ws r w = unfold confirm_items in met all_flat
  items_flat (o ∷ l) h rs ws r w = impossible (cc)
  items_flat (d ∷ l) h rs ws r w = then_flat d l rs ws r w (words_flat _ _ rs ws r w) (items_flat l h)
  items_flat (small ∷ l) h rs ws r w = then_flat small l rs ws r w (words_flat _ _ rs ws r w) (items_flat l h)
  items_flat (s ∷ l) h rs ws r w = then_flat s l rs ws r w (words_flat _ _ rs ws r w) (items_flat l h)
  items_flat (tail ∷ l) h rs ws r w = then_flat tail l rs ws r w (words_flat _ _ rs ws r w) (items_flat l h)
  items_flat (list b ∷ l) h rs ws r w = then_flat (list b) l rs ws r w (words_flat _ _ rs ws r w) (items_flat l h)

-- ---- operands in front of words
unfoldable led : List Item → Bool
led [] = true
led (o ∷ l) = led l
led (d ∷ l) = bare l
led (small ∷ l) = bare l
led (s ∷ l) = bare l
led (tail ∷ l) = bare l
led (list b ∷ l) = bare l

record Led (rs ws : List ℕ) (r w : ℕ) (ps : List Tree) : Type 0 where
  trees : List Tree
  run : confirm_run (top_level ps) rs ws r w ≡ just trees
  more : List ℕ
  dwords_are : op.parts_dwords ps ≡ op.parts_dwords trees ++ more
  words_are : parts_words ps ≡ parts_words trees ++ more
  rows_are : parts_rows ps ≡ parts_rows trees

flat_led : (rs ws : List ℕ) (r w : ℕ) (ps : List Tree) → AllFlat ps → Led rs ws r w ps
unfolding confirm_run op.parts_dwords parts_words parts_rows
flat_led rs ws r w ps f = record { trees = []; run = rw f.no_top; more = parts_words ps; dwords_are = f.dwords_are; words_are = refl; rows_are = f.no_rows }

led_more : (rs ws : List ℕ) (r w : ℕ) (x : Tree) (ps : List Tree) → Top x → confirm 64 rs ws r w ≡ just x → Led (drop (16 * tree_rows x) rs) (drop (length (tree_words x)) ws) (r + tree_rows x) (w + length (tree_words x)) ps → Led rs ws r w (x ∷ ps)
unfolding confirm_run op.parts_dwords parts_words parts_rows
led_more rs ws r w x ps t e g = record {
  trees = x ∷ g.trees;
  run = rw (t ps, e, g.run);
  more = g.more;
  dwords_are = rw (g.dwords_are, append_assoc);
  words_are = rw (g.words_are, append_assoc);
  rows_are = ap (λ (n : ℕ). tree_rows x + n) g.rows_are;
}

module _ (m : Bool) where
  bare_led : (l : List Item) → bare l ≡ true → (rs ws : List ℕ) (r w : ℕ) → Every (Led rs ws r w) (confirm_items m l rs ws r w)
  bare_led l h rs ws r w = go (items_flat m l h rs ws r w)
    where
      go : {x : Option (List Tree)} → Every AllFlat x → Every (Led rs ws r w) x
      go unmet = unmet
      go (met {a = ps} f) = met (flat_led rs ws r w ps f)

  items_led : (l : List Item) → led l ≡ true → (rs ws : List ℕ) (r w : ℕ) → Every (Led rs ws r w) (confirm_items m l rs ws r w)
  unfolding led confirm_items confirm_item
  items_led [] h rs ws r w = met (flat_led rs ws r w [] all_flat)
  items_led (o ∷ l) h rs ws r w = every_then (every_with (operand_top 64 rs ws r w)) (λ x p. every_then (items_led l h _ _ _ _) (λ ps g. met (led_more rs ws r w x ps p.0 p.1 g)))
  items_led (d ∷ l) h rs ws r w = bare_led (d ∷ l) (unfold bare in h) rs ws r w
  items_led (small ∷ l) h rs ws r w = bare_led (small ∷ l) (unfold bare in h) rs ws r w
  items_led (s ∷ l) h rs ws r w = bare_led (s ∷ l) (unfold bare in h) rs ws r w
  items_led (tail ∷ l) h rs ws r w = bare_led (tail ∷ l) (unfold bare in h) rs ws r w
  items_led (list b ∷ l) h rs ws r w = bare_led (list b ∷ l) (unfold bare in h) rs ws r w

-- ---- in every layout operands stand in front, but in that of code 120
unfoldable alone : List ℕ → Bool
alone [] = false
alone (x ∷ []) = eqb x 120
alone (x ∷ y ∷ l) = false

unfoldable rows_led : List (List ℕ × Field × List Item) → Bool
rows_led [] = true
rows_led (row ∷ rows) = (led row.2 || alone row.0) && rows_led rows

alone_is : (l : List ℕ) (c : ℕ) → alone l ≡ true → within c l ≡ true → c ≡ 120
unfolding alone within
alone_is [] c h k = impossible (cc)
alone_is (x ∷ y ∷ l) c h k = impossible (cc)
alone_is (x ∷ []) c h k = go (eqb c x) refl k
  where
    go : (b : Bool) → eqb c x ≡ b → (b || false) ≡ true → c ≡ 120
    go true e z = eqb-true c x e ∙ eqb-true x 120 h
    go false e z = impossible (cc)

row_led : (c : ℕ) (row : List ℕ × Field × List Item) → (led row.2 || alone row.0) ≡ true → (c ≡ 120 → ⊥) → within c row.0 ≡ true → led row.2 ≡ true
row_led c row h n z = go (led row.2) h
  where
    go : (b : Bool) → (b || alone row.0) ≡ true → b ≡ true
    go true h = refl
    go false h = absurd (n (alone_is row.0 c h z))

table_led : (l : List (List ℕ × Field × List Item)) (c : ℕ) (x : Layout) → rows_led l ≡ true → (c ≡ 120 → ⊥) → led x.items ≡ true → led (in_table l c x).items ≡ true
unfolding in_table rows_led
table_led [] c x t n h = h
table_led (row ∷ l) c x t n h =
    let b = both (led row.2 || alone row.0) (rows_led l) t in
    go (within c row.0) (row_led c row b.0 n) (table_led l c x b.1 n h)
  where
    go : (b : Bool) → (b ≡ true → led row.2 ≡ true) → led (in_table l c x).items ≡ true → led (cond b (record { kind = 4; field = row.1; items = row.2 }) (in_table l c x)).items ≡ true
    go true k h = k refl
    go false k h = h

counted_led : (n : ℕ) → led (replicate n o ++ tail ∷ []) ≡ true
unfolding led bare
counted_led zero = refl
counted_led (suc n) = counted_led n

layout_led : (c : ℕ) → (c ≡ 120 → ⊥) → led (layout c).items ≡ true
unfolding layout led bare rows_led alone
layout_led c n = go (within c (numbers 4 113)) (eqb c 53) (table_led declarations c (by_count c (operand_count c)) refl n (counted (operand_count c)))
  where
    counted : (n : Option ℕ) → led (by_count c n).items ≡ true
    counted nothing = unfold led bare in refl
    counted (just n) = counted_led n

    tabled : Layout
    tabled = in_table declarations c (by_count c (operand_count c))

    go : (a b : Bool) → led tabled.items ≡ true → led (cond a (record { kind = 3; field = no; items = [] }) (cond b (record { kind = 5; field = from 11 15; items = tail ∷ [] }) tabled)).items ≡ true
    go true b h = unfold led bare in refl
    go false true h = unfold led bare in refl
    go false false h = h

-- the other
layout_120 : (layout 120).items ≡ d ∷ o ∷ []
unfolding layout in_table within numbers
layout_120 = refl

-- the dwords of operands between k words in front and the words left
abbrev pub around : ℕ → List ℕ → List Tree → List ℕ
around k ws xs = take k ws ++ (op.parts_dwords xs ++ drop (k + length (parts_words xs)) ws)

-- ---- the parts of an instruction: operands between words
pub record Around (k : ℕ) (rs ws : List ℕ) (r w : ℕ) (ps : List Tree) : Type 0 where
  pub trees : List Tree
  pub run : confirm_run (top_level ps) rs (drop k ws) r (w + k) ≡ just trees
  pub words_there : k + length (parts_words trees) ≤ length ws
  pub dwords_are : op.parts_dwords ps ≡ around k ws trees
  pub rows_are : parts_rows ps ≡ parts_rows trees

led_around : (rs ws : List ℕ) (r w : ℕ) (ps : List Tree) → Led rs ws r w ps → ws ≡ parts_words ps → Around 0 rs ws r w ps
led_around rs ws r w ps g e =
    let e₁ : ws ≡ parts_words g.trees ++ g.more = e ∙ g.words_are in
    let e₂ : drop (0 + length (parts_words g.trees)) ws ≡ g.more = ap (drop (0 + length (parts_words g.trees))) e₁ ∙ drop_at (parts_words g.trees) g.more (0 + length (parts_words g.trees)) (omega arith) in
    record {
      trees = g.trees;
      run = rw (add-zero w) g.run;
      words_there = omega (arith, ap length e₁, length-append (parts_words g.trees) g.more);
      dwords_are = rw e₂ g.dwords_are;
      rows_are = g.rows_are;
    }

dword_around : (a : ℕ) (rs ws : List ℕ) (r w : ℕ) (ps : List Tree) → Led rs ws (r + 0) (w + 1) ps → a ∷ ws ≡ parts_words (plain (a ∷ []) none ∷ ps) → Around 1 rs (a ∷ ws) r w (plain (a ∷ []) none ∷ ps)
unfolding top_level parts_words parts_rows op.parts_dwords tree_words tree_rows op.dwords
dword_around a rs ws r w ps g e =
    let n : ℕ = length (parts_words g.trees) in
    let e₁ : ws ≡ parts_words g.trees ++ g.more = ap (drop 1) e ∙ g.words_are in
    let e₂ : 1 + n ≡ suc n = omega arith in
    let e₃ : drop n ws ≡ g.more = ap (drop n) e₁ ∙ drop_at (parts_words g.trees) g.more n refl in
    record {
      trees = g.trees;
      run = rw (add-zero r) at g.run;
      words_there = omega (arith, ap length e₁, length-append (parts_words g.trees) g.more);
      dwords_are = rw (e₂, e₃, g.dwords_are);
      rows_are = omega (arith, g.rows_are);
    }

module _ (m : Bool) (rs : List ℕ) (r w : ℕ) where
  led_parts : (ws : List ℕ) (l : List Item) → led l ≡ true → Every (λ ps. ws ≡ parts_words ps → Around 0 rs ws r w ps) (confirm_items m l rs ws r w)
  led_parts ws l h = go (items_led m l h rs ws r w)
    where
      go : {x : Option (List Tree)} → Every (Led rs ws r w) x → Every (λ ps. ws ≡ parts_words ps → Around 0 rs ws r w ps) x
      go unmet = unmet
      go (met {a = ps} g) = met (led_around rs ws r w ps g)

  dword_parts : (ws : List ℕ) → Every (λ ps. ws ≡ parts_words ps → Around 1 rs ws r w ps) (confirm_items m (d ∷ o ∷ []) rs ws r w)
  unfolding confirm_items confirm_item tree_words tree_rows
  dword_parts [] = unmet
  dword_parts (a ∷ ws) = rw (le-leb 1 (length (a ∷ ws)) (omega arith)) (every_then (items_led m (o ∷ []) (unfold led in refl) rs ws (r + 0) (w + 1)) (λ ps g. met (dword_around a rs ws r w ps g)))

  pub items_around : (ws : List ℕ) (c : ℕ) → Every (λ ps. ws ≡ parts_words ps → Around (before c) rs ws r w ps) (confirm_items m (layout c).items rs ws r w)
  items_around ws c = go (eqb c 120) refl
    where
      go : (b : Bool) → eqb c 120 ≡ b → Every (λ ps. ws ≡ parts_words ps → Around (cond b 1 0) rs ws r w ps) (confirm_items m (layout c).items rs ws r w)
      go true e = rw (eqb-true c 120 e, layout_120) (dword_parts ws)
      go false e = led_parts ws (layout c).items (layout_led c (eqb-false c 120 e))
