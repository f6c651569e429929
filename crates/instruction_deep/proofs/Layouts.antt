-- What was computed of the table holds of every layout: a tail is its last item, and a token that has its fields is a dword.
use Prim.Native.Nat.{ℕ, zero, suc, ◌+◌, ◌*◌, ◌-◌, ◌/◌, ◌^◌, ◌<◌, ◌≤◌}
use mathlib.Core.Path.{◌≡◌, refl}
use mathlib.Core.Bool.{Bool, true, false, cond, not, ◌&&◌, ◌||◌}
use mathlib.Core.List.{List, [], ◌∷◌, ◌++◌}
use mathlib.Core.Option.{Option, none as nothing, some}
use native.Mathlib.Nat.{mod-lt, lt_of_lt_of_le, mul-lt-mul_of_pos_right}
use native.Mathlib.Omega.{arith}
use lib.ListN.{length, replicate}
use lib.Dec.{eqb, ltb, leb, lit<}
use lib.Pow.{pow_pos}
use borrow.Author.Tests.{leb-true}
use Rattle.format.specs.Dwords.{bits}
use Rattle.format.specs.Framing.{code, sized, long}
use Rattle.format.specs.Counts.{numbers, within, operand_count, token_with}
use Rattle.format.specs.Declarations.{Item, o, d, small, s, tail, list, Field, no, from, bounded, in_table, declarations, by_count, field_in, Layout, layout, chained}
use Rattle.format.specs.Instructions.{fields_of}
use Rattle.format.proofs.Dwords.{both}

-- ---- a test of a layout's field and items
module _ (p : Field → List Item → Bool) where
  unfoldable rows_pass : List (List ℕ × Field × List Item) → Bool
  rows_pass [] = true
  rows_pass (row ∷ rows) = p row.1 row.2 && rows_pass rows

  abbrev Passes : Layout → Type 0
  Passes x = p x.field x.items ≡ true

  in_table_lem : (l : List (List ℕ × Field × List Item)) (c : ℕ) (x : Layout) → rows_pass l ≡ true → Passes x → Passes (in_table l c x)
  unfolding in_table rows_pass
  in_table_lem [] c x t h = h
  in_table_lem (row ∷ l) c x t h =
      let b = both (p row.1 row.2) (rows_pass l) t in
      go (within c row.0) b.0 (in_table_lem l c x b.1 h)
    where
      go : (b : Bool) → p row.1 row.2 ≡ true → Passes (in_table l c x) → Passes (cond b (record { kind = 4; field = row.1; items = row.2 }) (in_table l c x))
      go true k h = k
      go false k h = h

  every_layout : rows_pass declarations ≡ true → p no [] ≡ true → p (from 11 15) (tail ∷ []) ≡ true → ((c : ℕ) (n : Option ℕ) → Passes (by_count c n)) → (c : ℕ) → Passes (layout c)
  unfolding layout
  every_layout t p₃ p₅ counted c = go (within c (numbers 4 113)) (eqb c 53)
    where
      tabled : Layout
      tabled = in_table declarations c (by_count c (operand_count c))

      go : (a b : Bool) → Passes (cond a (record { kind = 3; field = no; items = [] }) (cond b (record { kind = 5; field = from 11 15; items = tail ∷ [] }) tabled))
      go true b = p₃
      go false true = p₅
      go false false = in_table_lem declarations c (by_count c (operand_count c)) t (counted c (operand_count c))

-- ---- nothing stands behind a tail
unfoldable pub tail_last : List Item → Bool
tail_last [] = true
tail_last (tail ∷ l) = eqb (length l) 0
tail_last (o ∷ l) = tail_last l
tail_last (d ∷ l) = tail_last l
tail_last (small ∷ l) = tail_last l
tail_last (s ∷ l) = tail_last l
tail_last (list b ∷ l) = tail_last l

counted_tail : (n : ℕ) → tail_last (replicate n o ++ tail ∷ []) ≡ true
unfolding tail_last
counted_tail zero = refl
counted_tail (suc n) = counted_tail n

pub tail_last_lem : (c : ℕ) → tail_last (layout c).items ≡ true
unfolding tail_last rows_pass
tail_last_lem c = every_layout (λ f l. tail_last l) refl refl refl counted c
  where
    counted : (c : ℕ) (n : Option ℕ) → tail_last (by_count c n).items ≡ true
    counted c nothing = unfold tail_last in refl
    counted c (some n) = counted_tail n

-- ---- a field has at most 13 bits
unfoldable narrow : Field → Bool
narrow no = true
narrow (from a b) = leb (2 ^ (b + 1 - a) * 2 ^ (a - 11)) (2 ^ 13)
narrow (bounded b k lo hi) = leb (2 ^ (b + 1 - 11)) (2 ^ 13)

narrow_layout : (c : ℕ) → narrow (layout c).field ≡ true
unfolding narrow rows_pass
narrow_layout c = every_layout (λ f l. narrow f) refl refl refl counted c
  where
    counted : (c : ℕ) (n : Option ℕ) → narrow (by_count c n).field ≡ true
    counted c nothing = unfold narrow in refl
    counted c (some n) = go (within c (61 ∷ 111 ∷ [])) (eqb c 190)
      where
        go : (a b : Bool) → narrow (cond a (from 11 12) (cond b (from 11 14) no)) ≡ true
        go true b = unfold narrow in refl
        go false true = unfold narrow in refl
        go false false = unfold narrow in refl

field_below : (f : Field) (t : ℕ) → narrow f ≡ true → field_in f t < 2 ^ 13
unfolding narrow field_in
field_below no t h = lit< tt
field_below (from a b) t h = lt_of_lt_of_le (mul-lt-mul_of_pos_right (mod-lt (t / 2 ^ a) (pow_pos (b + 1 - a))) (pow_pos (a - 11))) (leb-true _ (2 ^ 13) h)
field_below (bounded b k lo hi) t h = lt_of_lt_of_le (mod-lt (t / 2 ^ 11) (pow_pos (b + 1 - 11))) (leb-true _ (2 ^ 13) h)

-- ---- a token is the sum of its fields: were it longer than a dword, its bits 24-31 would be 0
below_dword : (t c f a b p l e : ℕ) → t ≡ c + f * 2 ^ 11 + a * 2 ^ 13 + b * 2 ^ 18 + p * 2 ^ 19 + l * 2 ^ 24 + e * 2 ^ 31 → c < 2 ^ 11 → f < 2 ^ 13 → a < 2 → b < 2 → p < 2 ^ 4 → l ≤ bits 24 30 t → e ≤ bits 31 31 t → t < 2 ^ 32
below_dword t c f a b p l e h hc hf ha hb hp hl he = omega arith

if_at_most : (b : Bool) (x : ℕ) → cond b x 0 ≤ x
if_at_most true x = omega arith
if_at_most false x = omega arith

unless_at_most : (b : Bool) (x : ℕ) → cond b 0 x ≤ x
unless_at_most true x = omega arith
unless_at_most false x = omega arith

pub token_below : (c t : ℕ) → t ≡ token_with (code t) (fields_of (layout c) t) → t < 2 ^ 32
unfolding fields_of
token_below c t h =
    let x = layout c in
    below_dword t (code t) (field_in x.field t) _ _ _ _ _ h (omega arith) (field_below x.field t (narrow_layout c))
    (omega (arith, if_at_most (ltb x.kind 4 && not (eqb (code t) 190)) (bits 13 13 t)))
    (omega (arith, if_at_most (within (code t) (3 ∷ 5 ∷ 8 ∷ 13 ∷ 31 ∷ 63 ∷ [])) (bits 18 18 t)))
    (omega (arith, if_at_most (ltb x.kind 4) (bits 19 22 t)))
    (unless_at_most (sized t) (bits 24 30 t))
    (if_at_most (chained x || long t) (bits 31 31 t))
