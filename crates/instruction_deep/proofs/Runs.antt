-- Operands one after the other, and the items of a shape.
use Prim.Native.Nat.{ℕ, zero, suc, ◌+◌, ◌-◌, ◌*◌, ◌/◌, ◌≤◌, ◌<◌}
use mathlib.Core.Path.{◌≡◌, refl, ap, ◌∙◌, subst}
use mathlib.Core.List.{List, [], ◌∷◌, ◌++◌}
use mathlib.Core.Bool.{Bool, true, false, cond, ◌&&◌}
use mathlib.Core.Option.{Option as Maybe, none as nothing, some as just}
use Rattle.std.specs.Prelude.{Option, Some, None}
use native.Mathlib.Omega.{arith}
use lib.ListN.{length, take, drop, replicate}
use lib.Dec.{leb, eqb}
use borrow.Author.Tests.{leb-true, leb-false}
use Rattle.format.specs.Operands as op
use Rattle.format.specs.Operands.{Tree, none, node}
use Rattle.format.specs.Declarations.{Item, o, d}
use Rattle.format.specs.Rows.{operand_row, top_level}
use Rattle.format.specs.Encoder.{at, extension_of, operand_dword, same}
use Rattle.format.proofs.Dwords.{impossible}
use Rattle.layouts.specs.Shapes.{items_of}
use Rattle.instruction_fields.specs.Places.{dwords_on}
use Rattle.layouts.specs.declared.Shape.{Shape}
use Rattle.instruction_fields.specs.Fields.{rest}
use Rattle.operand_deep.specs.Confirm.{Confirmer, ◌>>=◌, behind, confirm_index, confirm, confirm_front, confirm_immediates, confirm_indices, confirmed}
use Rattle.operand_deep.specs.Walks.{walked, there}
use Rattle.operand_deep.specs.declared.Walked.{Walked}
use Rattle.operand_deep.proofs.Every.{Every, unmet, met, every_if, every_of}
use Rattle.operand_deep.proofs.Found.{walk_found, walk_lost}
use Rattle.operand_deep.proofs.Walks.{no_row}
use Rattle.instruction_deep.specs.Confirm.{confirm_item}
use Rattle.instruction_deep.specs.Walks.{some_parts, add, sum_at, Takes, takes, lacks, PassesIn, Runs}
use Rattle.instruction_deep.specs.declared.Parts.{Parts}
use Rattle.instruction_deep.proofs.Items.{item_step, item_off, Bounds, bounds, all_few, takes_none, takes_first, takes_off, takes_then}
use Rattle.instruction_deep.proofs.Passing.{words_on_lem}

-- ---- an operand is one part
abbrev One : Tree → Type 0
One x = top_level (x ∷ []) ≡ 1

one_confirmed : (q : List ℕ) (r w t : ℕ) (e m : List ℕ) (a b c : Tree) → Every One (confirmed q r w t e m a b c)
unfolding confirmed top_level
one_confirmed q r w t e m a b c = every_if (same q (operand_row r w t e m a b c)) (just (node t e m a b c)) nothing (λ h. met refl) (λ h. unmet)

each : (g : Maybe Tree) (f : Tree → Maybe Tree) → ((x : Tree) → Every One (f x)) → Every One (◌>>=◌ g f)
each nothing f k = unmet
each (just x) f k = k x

module _ (p : Confirmer) (q : List ℕ) (t : ℕ) (e rs ws : List ℕ) (r w : ℕ) where
  one_immediates : Every One (confirm_immediates q t e ws r w)
  unfolding confirm_immediates
  one_immediates = every_if (eqb (op.dimension t) 0 && leb (op.immediates t) (length ws)) _ nothing (λ h. one_confirmed q r w t e (take (op.immediates t) ws) none none none) (λ h. unmet)

  one_indices : Every One (confirm_indices p q t e rs ws r w)
  unfolding confirm_indices
  one_indices =
      each (confirm_index p (op.repr 0 t) rs ws (r + 1) w) _ (λ a.
      each (behind a (confirm_index p (op.repr 1 t)) rs ws (r + 1) w) _ (λ b.
      each (behind a (behind b (confirm_index p (op.repr 2 t))) rs ws (r + 1) w) _ (λ c. one_confirmed q r w t e [] a b c)))

  one_front : Every One (confirm_front p q t e rs ws r w)
  unfolding confirm_front
  one_front = every_if (op.exact_dword t && op.exact_extension e) (cond (op.immediate t) (confirm_immediates q t e ws r w) (confirm_indices p q t e rs ws r w)) nothing
      (λ h. every_if (op.immediate t) (confirm_immediates q t e ws r w) (confirm_indices p q t e rs ws r w) (λ h. one_immediates) (λ h. one_indices)) (λ h. unmet)

one_operand : (k : ℕ) (rs ws : List ℕ) (r w : ℕ) → Every One (confirm k rs ws r w)
unfolding confirm
one_operand zero rs ws r w = unmet
one_operand (suc k) rs ws r w = every_if (leb 16 (length rs)) _ nothing (λ h. one_front (confirm k) (take 16 rs) (operand_dword (take 16 rs)) (extension_of (at 3 (take 16 rs))) (drop 16 rs) ws r w) (λ h. unmet)

-- ---- the answer of walking an operand
there_row : (rs ws : List ℕ) (r w : ℕ) {x : Walked} → Some x ≡ walked (there (confirm 64) rs ws r w) → 16 * r ≤ length rs
there_row rs ws r w e = go (leb (length rs / 16) r) refl
  where
    go : (b : Bool) → leb (length rs / 16) r ≡ b → 16 * r ≤ length rs
    go true h = let z = no_row 64 rs ws r w (λ z. omega arith) (leb-true (length rs / 16) r h) in impossible (cc)
    go false h = let z = leb-false (length rs / 16) r h in omega arith

pub operand_takes : (m : Bool) (rs ws : List ℕ) (r w : ℕ) {x : Walked} → w ≤ length ws → Some x ≡ walked (there (confirm 64) rs ws r w) → Takes m (o ∷ []) 1 rs ws r w (some_parts (r + x.rows) (w + x.words) x.dwords)
unfolding confirm_item
operand_takes m rs ws r w {x} h e =
    let f = walk_found 64 rs ws r w (there_row rs ws r w e) e in
    let t = every_of f.is (one_operand 64 (drop (16 * r) rs) (drop w ws) r w) in
    let z₁ : x.rows ≡ r + x.rows - r = omega arith in
    let z₂ : x.words ≡ w + x.words - w = omega arith in
    takes {p = record { row = r + x.rows; word = w + x.words; dwords = x.dwords }} (omega arith) (omega (arith, f.rows_fit)) (omega arith) (omega (arith, f.words_fit)) (omega (arith, f.few)) (λ l.
    item_step m o l rs ws r w f.tree f.is ∙ rw (f.rows_are, f.words_are, f.dwords_are, t) (λ j. add (z₁ j) (z₂ j) x.dwords 1 (sum_at m l rs ws (r + x.rows) (w + x.words))))

pub operand_lost : (m : Bool) (rs ws : List ℕ) (r w : ℕ) → None ≡ walked (there (confirm 64) rs ws r w) → Takes m (o ∷ []) 1 rs ws r w None
unfolding confirm_item
operand_lost m rs ws r w e = lacks (λ l. item_off m o l rs ws r w (walk_lost _ e))

-- ---- i of k operands have been walked
abbrev pub Walking : ℕ → List ℕ → List ℕ → ℕ → ℕ → ℕ → Parts → Type 0
Walking k rs ws r w i p = (i ≤ k) × Runs i rs ws r w (Some p)

pub begin : (k : ℕ) (rs ws : List ℕ) (r w : ℕ) → w ≤ length ws → Walking k rs ws r w 0 (record { row = r; word = w; dwords = 0 })
begin k rs ws r w h = (omega arith, λ m. takes_none [] refl h)

pub one_more : (k : ℕ) → replicate k o ++ (o ∷ []) ≡ replicate (k + 1) o
one_more zero = refl
one_more (suc k) = let z : suc k + 1 ≡ suc (k + 1) = omega arith in rw z (ap (λ (l : List Item). o ∷ l) (one_more k))

module _ {k : ℕ} {rs ws : List ℕ} {r w i : ℕ} {p : Parts} (g : Walking k rs ws r w i p) where
  pub within : p.word ≤ length ws
  within = (bounds (g.1 true)).words_to

  module _ (h : i < k) where
    pub goes_on : {x : Walked} → Some x ≡ walked (there (confirm 64) rs ws p.row p.word) → Walking k rs ws r w (i + 1) (record { row = p.row + x.rows; word = p.word + x.words; dwords = p.dwords + x.dwords })
    goes_on e = (omega arith, λ m. rw (← (one_more i)) (takes_then (g.1 m) (operand_takes m rs ws p.row p.word within e)))

    split : replicate k o ≡ replicate i o ++ replicate (k - i) o
    split = go i k (omega arith)
      where
        go : (i k : ℕ) → i ≤ k → replicate k o ≡ replicate i o ++ replicate (k - i) o
        go zero k h = let z : k - 0 ≡ k = omega arith in rw z
        go (suc i) zero h = impossible (omega arith)
        go (suc i) (suc k) h = let z : suc k - suc i ≡ k - i = omega arith in rw z (ap (λ (l : List Item). o ∷ l) (go i k (omega arith)))

    pub stopped : None ≡ walked (there (confirm 64) rs ws p.row p.word) → Runs k rs ws r w None
    stopped e m =
        let z : k - i ≡ suc (k - i - 1) = omega arith in
        let y : replicate k o ≡ replicate i o ++ ((o ∷ []) ++ replicate (k - i - 1) o) = split ∙ ap (λ (j : ℕ). replicate i o ++ replicate j o) z in
        rw y (takes_off (g.1 m) (takes_first (operand_lost m rs ws p.row p.word e) (replicate (k - i - 1) o) 0) k)

  pub finished : k ≤ i → Runs k rs ws r w (Some p)
  finished h m = let z : i ≡ k = omega (arith, g.0) in rw z at (g.1 m)

  pub room : (p.row ≤ r + (length rs / 16 - r)) × (p.word ≤ length ws) × (p.dwords ≤ length rs + length ws)
  room = let b = bounds (g.1 true) in (b.rows_to, b.words_to, omega (arith, all_few b))

-- ---- the items of a shape
module _ (m : Bool) (x : Shape) (rs ws : List ℕ) (r w : ℕ) (h : w ≤ length ws) (p : Option ℕ) (e : p ≡ dwords_on (length ws) w x.before) where
  first : PassesIn m (replicate x.before d) ws w p
  first = rw e (words_on_lem m x.before ws w h)

  pub before_off : p ≡ None → Takes m (items_of x) x.operands rs ws r w None
  unfolding items_of
  before_off z = takes_first (subst (PassesIn m _ ws w) z first rs r) _ x.operands

  module _ (a : ℕ) (ea : p ≡ Some a) where
    at_first : Takes m (replicate x.before d) 0 rs ws r w (some_parts r a (a - w))
    at_first = subst (PassesIn m _ ws w) ea first rs r

    pub first_bounds : (w ≤ a) × (a ≤ length ws)
    first_bounds = let b = bounds at_first in (b.words_from, b.words_to)

    module _ {q : Option Parts} (run : Runs x.operands rs ws r a q) where
      pub operands_off : q ≡ None → Takes m (items_of x) x.operands rs ws r w None
      unfolding items_of rest
      operands_off z = takes_off {b = replicate x.operands o ++ rest x} at_first (takes_first (subst (Takes m _ _ rs ws r a) z (run m)) (rest x) x.operands) x.operands

      module _ (b : Parts) (eb : q ≡ Some b) where
        at_second : Takes m (replicate x.operands o) x.operands rs ws r a (Some b)
        at_second = subst (Takes m _ _ rs ws r a) eb (run m)

        pub second_bounds : Bounds rs ws r a b
        second_bounds = bounds at_second

        module _ (u : Option ℕ) (last : PassesIn m (rest x) ws b.word u) where
          pub rest_off : u ≡ None → Takes m (items_of x) x.operands rs ws r w None
          unfolding items_of rest
          rest_off z = takes_off {b = replicate x.operands o ++ rest x} at_first (takes_off {b = rest x} at_second (subst (PassesIn m (rest x) ws b.word) z last rs b.row) x.operands) x.operands

          module _ (w₁ : ℕ) (ew : u ≡ Some w₁) where
            at_third : Takes m (rest x) 0 rs ws b.row b.word (some_parts b.row w₁ (w₁ - b.word))
            at_third = subst (PassesIn m (rest x) ws b.word) ew last rs b.row

            pub third_bounds : (b.word ≤ w₁) × (w₁ ≤ length ws)
            third_bounds = let b = bounds at_third in (b.words_from, b.words_to)

            pub all_parts_lem : Takes m (items_of x) x.operands rs ws r w (some_parts b.row w₁ (a - w + b.dwords + (w₁ - b.word)))
            unfolding items_of rest
            all_parts_lem =
                let z : 0 + (x.operands + 0) ≡ x.operands = omega arith in
                let y : a - w + (b.dwords + (w₁ - b.word)) ≡ a - w + b.dwords + (w₁ - b.word) = omega arith in
                rw (z, y) at (takes_then {b = replicate x.operands o ++ rest x} at_first (takes_then {b = rest x} at_second at_third))

            pub parts_few : a - w + b.dwords + (w₁ - b.word) ≤ length rs + length ws
            parts_few =
                let f = first_bounds in
                let g = second_bounds in
                let t = third_bounds in
                let k : b.dwords ≤ length rs + (b.word - a) = omega (arith, g.rows_from, g.rows_to, g.few) in
                go a b.word w₁ (length rs) (length ws) b.dwords f.0 g.words_from t.0 t.1 k
              where
                go : (a b w₁ i j n : ℕ) → w ≤ a → a ≤ b → b ≤ w₁ → w₁ ≤ j → n ≤ i + (b - a) → a - w + n + (w₁ - b) ≤ i + j
                go a b w₁ i j n f g t u k = omega arith
