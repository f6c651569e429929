-- The items of an instruction, one after the other: what is told from here is what is told of the first, and of the others.
use Prim.Native.Nat.{ℕ, ◌+◌, ◌-◌, ◌*◌, ◌/◌, ◌≤◌}
use mathlib.Core.Path.{◌≡◌, refl, sym, ap, ◌∙◌, subst}
use mathlib.Core.List.{List, [], ◌∷◌, ◌++◌, append-nil, append_assoc}
use mathlib.Core.Bool.{Bool}
use mathlib.Core.Option.{Option as Maybe, none as nothing, some as just}
use native.Mathlib.Nat.{add-zero as plus-zero}
use native.Mathlib.Omega.{arith}
use lib.ListN.{length, take, drop, length-append, length-drop}
use lib.Seq.{length-take-le, drop-drop}
use Rattle.format.specs.Operands as op
use Rattle.format.specs.Operands.{Tree, none, plain, node}
use Rattle.format.specs.Declarations.{Item}
use Rattle.format.specs.Rows.{tree_rows, tree_words, parts_rows, parts_words, top_level}
use Rattle.instruction_deep.specs.Confirm.{confirm_item, confirm_items}
use Rattle.operand_deep.specs.Confirm.{◌>>=◌}
use Rattle.instruction_deep.specs.Walks.{Sum, off, sum, add, total, sum_at, some_parts, Takes, takes, lacks, PassesIn}
use Rattle.instruction_deep.specs.declared.Parts.{Parts}
use Rattle.std.specs.Prelude.{Option, Some, None}

pub add_add : (r w n k r₁ w₁ n₁ k₁ : ℕ) (a : Sum) → add r w n k (add r₁ w₁ n₁ k₁ a) ≡ add (r + r₁) (w + w₁) (n + n₁) (k + k₁) a
add_add r w n k r₁ w₁ n₁ k₁ off = refl
add_add r w n k r₁ w₁ n₁ k₁ (sum r₂ w₂ n₂ k₂) =
    let x : r + (r₁ + r₂) ≡ r + r₁ + r₂ = omega arith in
    let y : w + (w₁ + w₂) ≡ w + w₁ + w₂ = omega arith in
    let z : n + (n₁ + n₂) ≡ n + n₁ + n₂ = omega arith in
    let u : k + (k₁ + k₂) ≡ k + k₁ + k₂ = omega arith in
    λ i. sum (x i) (y i) (z i) (u i)

pub add-zero : (a : Sum) → add 0 0 0 0 a ≡ a
add-zero off = refl
add-zero (sum r w n k) =
    let x : 0 + r ≡ r = omega arith in
    let y : 0 + w ≡ w = omega arith in
    let z : 0 + n ≡ n = omega arith in
    let u : 0 + k ≡ k = omega arith in
    λ i. sum (x i) (y i) (z i) (u i)

-- a part is a top-level operand or none
top_cons : (x : Tree) (ps : List Tree) → top_level (x ∷ ps) ≡ top_level (x ∷ []) + top_level ps
unfolding top_level
top_cons none ps = omega arith
top_cons (plain y c) ps = omega arith
top_cons (node t e m a b c) ps = omega arith

cons_total : (x : Tree) (ps : List Tree) → total (just (x ∷ ps)) ≡ add (tree_rows x) (length (tree_words x)) (length (op.dwords x)) (top_level (x ∷ [])) (total (just ps))
unfolding parts_rows parts_words op.parts_dwords
cons_total x ps = λ i. sum (tree_rows x + parts_rows ps) (length-append (tree_words x) (parts_words ps) i) (length-append (op.dwords x) (op.parts_dwords ps) i) (top_cons x ps i)

-- the places behind a part
module _ (m : Bool) (i : Item) (l : List Item) (rs ws : List ℕ) (r w : ℕ) where
  pub item_step : (x : Tree) → confirm_item m i (drop (16 * r) rs) (drop w ws) r w ≡ just x →
      sum_at m (i ∷ l) rs ws r w ≡ add (tree_rows x) (length (tree_words x)) (length (op.dwords x)) (top_level (x ∷ [])) (sum_at m l rs ws (r + tree_rows x) (w + length (tree_words x)))
  unfolding sum_at confirm_items
  item_step x e =
      let z : 16 * r + 16 * tree_rows x ≡ 16 * (r + tree_rows x) = omega arith in
      rw (e, drop-drop (16 * tree_rows x) (16 * r) rs, drop-drop (length (tree_words x)) w ws, z) (go (confirm_items m l _ _ _ _))
    where
      go : (g : Maybe (List Tree)) → total (◌>>=◌ g (λ ps. just (x ∷ ps))) ≡ add (tree_rows x) (length (tree_words x)) (length (op.dwords x)) (top_level (x ∷ [])) (total g)
      go nothing = refl
      go (just ps) = cons_total x ps

  pub item_off : confirm_item m i (drop (16 * r) rs) (drop w ws) r w ≡ nothing → sum_at m (i ∷ l) rs ws r w ≡ off
  unfolding sum_at confirm_items
  item_off e = rw e

  -- words as they are
  plain_step : (n : ℕ) → n ≤ length ws - w → confirm_item m i (drop (16 * r) rs) (drop w ws) r w ≡ just (plain (take n (drop w ws)) none) → sum_at m (i ∷ l) rs ws r w ≡ add 0 n n 0 (sum_at m l rs ws r (w + n))
  unfolding tree_rows tree_words op.dwords top_level
  plain_step n h e =
      let k : length (take n (drop w ws) ++ []) ≡ n = ap length (append-nil (take n (drop w ws))) ∙ length-take-le n (drop w ws) (omega (arith, length-drop w ws)) in
      item_step (plain (take n (drop w ws)) none) e ∙ (λ j. add 0 (k j) (k j) 0 (sum_at m l rs ws (plus-zero r j) (w + k j)))

-- ---- runs of items
few_more : (n n₁ a b c p q u : ℕ) → n ≤ 2 * a + p → n₁ ≤ 2 * b + q → a + b ≡ c → p + q ≡ u → n + n₁ ≤ 2 * c + u
few_more n n₁ a b c p q u h k e f = omega arith

gap : (a b c : ℕ) → a ≤ b → b ≤ c → b - a + (c - b) ≡ c - a
gap a b c h k = omega arith

reach : (a b c n : ℕ) → a ≤ b → b ≤ a + (n - a) → c ≤ b + (n - b) → c ≤ a + (n - a)
reach a b c n h k l = omega arith

both_ways : (a b c : ℕ) → a ≤ b → b ≤ c → a ≤ c
both_ways a b c h k = omega arith

module _ {m : Bool} {rs ws : List ℕ} {r w : ℕ} where
  pub takes_none : (items : List Item) → items ≡ [] → w ≤ length ws → Takes m items 0 rs ws r w (some_parts r w 0)
  takes_none items e h = takes {p = record { row = r; word = w; dwords = 0 }} (omega arith) (omega arith) (omega arith) h (omega arith) (λ l.
      let z₁ : r - r ≡ 0 = omega arith in
      let z₂ : w - w ≡ 0 = omega arith in
      rw (e, z₁, z₂) (sym (add-zero (sum_at m l rs ws r w))))

  pub takes_first : {a : List Item} {k : ℕ} → Takes m a k rs ws r w None → (b : List Item) (k₁ : ℕ) → Takes m (a ++ b) k₁ rs ws r w None
  takes_first {a} {k} (lacks f) b k₁ = lacks (λ l. ap (λ (x : List Item). sum_at m x rs ws r w) (append_assoc a b l) ∙ f (b ++ l))

  module _ {a b : List Item} {k k₁ : ℕ} {p : Parts} where
    pub takes_off : Takes m a k rs ws r w (Some p) → Takes m b k₁ rs ws p.row p.word None → (k₂ : ℕ) → Takes m (a ++ b) k₂ rs ws r w None
    takes_off (takes h₁ h₂ h₃ h₄ h₅ f) (lacks g) k₂ = lacks (λ l. ap (λ (x : List Item). sum_at m x rs ws r w) (append_assoc a b l) ∙ f (b ++ l) ∙ ap (add (p.row - r) (p.word - w) p.dwords k) (g l))

    pub takes_then : {q : Parts} → Takes m a k rs ws r w (Some p) → Takes m b k₁ rs ws p.row p.word (Some q) → Takes m (a ++ b) (k + k₁) rs ws r w (some_parts q.row q.word (p.dwords + q.dwords))
    takes_then {q} (takes h₁ h₂ h₃ h₄ h₅ f) (takes g₁ g₂ g₃ g₄ g₅ g) = takes {p = record { row = q.row; word = q.word; dwords = p.dwords + q.dwords }} (both_ways _ _ _ h₁ g₁) (reach _ _ _ (length rs / 16) h₁ h₂ g₂) (both_ways _ _ _ h₃ g₃) g₄
        (few_more p.dwords q.dwords _ _ _ _ _ _ h₅ g₅ (gap r p.row q.row h₁ g₁) (gap w p.word q.word h₃ g₃)) (λ l.
        ap (λ (x : List Item). sum_at m x rs ws r w) (append_assoc a b l) ∙ f (b ++ l) ∙ ap (add (p.row - r) (p.word - w) p.dwords k) (g l) ∙
        add_add (p.row - r) (p.word - w) p.dwords k (q.row - p.row) (q.word - p.word) q.dwords k₁ (sum_at m l rs ws q.row q.word) ∙
        (λ i. add (gap r p.row q.row h₁ g₁ i) (gap w p.word q.word h₃ g₃ i) (p.dwords + q.dwords) (k + k₁) (sum_at m l rs ws q.row q.word)))

-- the sizes of what stands there
pub record Bounds (rs ws : List ℕ) (r w : ℕ) (p : Parts) : Type 0 where
  pub rows_from : r ≤ p.row
  pub rows_to : p.row ≤ r + (length rs / 16 - r)
  pub words_from : w ≤ p.word
  pub words_to : p.word ≤ length ws
  pub few : p.dwords ≤ 2 * (p.row - r) + (p.word - w)

pub bounds : {m : Bool} {items : List Item} {k : ℕ} {rs ws : List ℕ} {r w : ℕ} {p : Parts} → Takes m items k rs ws r w (Some p) → Bounds rs ws r w p
bounds (takes h₁ h₂ h₃ h₄ h₅ f) = record { rows_from = h₁; rows_to = h₂; words_from = h₃; words_to = h₄; few = h₅ }

pub all_few : {rs ws : List ℕ} {r w : ℕ} {p : Parts} → Bounds rs ws r w p → p.dwords + (length ws - p.word) ≤ length rs + length ws
all_few b = omega (arith, b.rows_from, b.rows_to, b.words_from, b.words_to, b.few)

-- an item of n words
module _ {m : Bool} {i : Item} {ws : List ℕ} {w : ℕ} where
  pub passes_item : (n : ℕ) → w ≤ length ws → n ≤ length ws - w → ((rs : List ℕ) (r : ℕ) → confirm_item m i rs (drop w ws) r w ≡ just (plain (take n (drop w ws)) none)) → PassesIn m (i ∷ []) ws w (Some (w + n))
  passes_item n h k f rs r = takes {p = record { row = r; word = w + n; dwords = w + n - w }} (omega arith) (omega arith) (omega arith) (omega arith) (omega arith) (λ l.
      let z₁ : 0 ≡ r - r = omega arith in
      let z₂ : n ≡ w + n - w = omega arith in
      plain_step m i l rs ws r w n k (f (drop (16 * r) rs) r) ∙ (λ j. add (z₁ j) (z₂ j) (z₂ j) 0 (sum_at m l rs ws r (w + n))))

  pub blocks_item : ((rs : List ℕ) (r : ℕ) → confirm_item m i rs (drop w ws) r w ≡ nothing) → PassesIn m (i ∷ []) ws w None
  blocks_item f rs r = lacks (λ l. item_off m i l rs ws r w (f (drop (16 * r) rs) r))

-- one after the other
module _ {m : Bool} (a b : List Item) {ws : List ℕ} {w : ℕ} where
  pub passes_first : PassesIn m a ws w None → PassesIn m (a ++ b) ws w None
  passes_first f rs r = takes_first (f rs r) b 0

  pub passes_off : {w₁ : ℕ} → PassesIn m a ws w (Some w₁) → PassesIn m b ws w₁ None → PassesIn m (a ++ b) ws w None
  passes_off f g rs r = takes_off (f rs r) (g rs r) 0

  pub passes_then : {w₁ w₂ : ℕ} → PassesIn m a ws w (Some w₁) → PassesIn m b ws w₁ (Some w₂) → PassesIn m (a ++ b) ws w (Some w₂)
  passes_then {w₁} {w₂} f g rs r =
      let z : w₁ - w + (w₂ - w₁) ≡ w₂ - w = gap w w₁ w₂ (bounds (f rs r)).words_from (bounds (g rs r)).words_from in
      subst (λ (n : ℕ). Takes m (a ++ b) 0 rs ws r w (some_parts r w₂ n)) z (takes_then (f rs r) (g rs r))

  pub passes_on : {w₁ : ℕ} (p : Option ℕ) → PassesIn m a ws w (Some w₁) → PassesIn m b ws w₁ p → PassesIn m (a ++ b) ws w p
  passes_on None f g = passes_off f g
  passes_on (Some w₂) f g = passes_then f g
