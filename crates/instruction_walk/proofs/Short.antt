-- The short way: a plain row of a code with a count needs no token.
use Prim.Native.Nat.{ℕ, ◌+◌, ◌-◌, ◌*◌, ◌/◌, ◌%◌, ◌^◌, ◌<◌, ◌≤◌}
use mathlib.Core.Path.{◌≡◌, refl, sym, ap, ◌∙◌}
use mathlib.Core.List.{List, [], ◌∷◌}
use mathlib.Core.Logic.{inl}
use mathlib.Core.Bool.{Bool, true, false, cond, ◌||◌}
use mathlib.Core.Option.{some as just}
use native.Mathlib.Nat.{mod-one, mul-one}
use native.Mathlib.Omega.{arith}
use lib.ListN.{length, drop}
use lib.Dec.{eqb, ltb}
use borrow.Author.Tests.{eq-eqb, ne_eqb}
use Rattle.format.specs.Dwords.{bits, follows}
use Rattle.format.specs.Framing.{code, sized, length_of}
use Rattle.format.specs.Counts.{operand_count, token_with}
use Rattle.format.specs.Declarations.{tail, Layout, layout, chained, field_in, in_bounds}
use Rattle.format.specs.Instructions.{fields_of}
use Rattle.format.specs.Encoder.{at, sized_row, token_of_row, head_of_row}
use Rattle.layouts.specs.Shapes.{meant, items_of}
use Rattle.layouts.specs.Table.{plain_shape, width_of}
use Rattle.layouts.specs.declared.Shape.{Shape}
use Rattle.layouts.proofs.Others.{counts}
use Rattle.layouts.proofs.Fields.{value, unbounded}
use Rattle.instruction_fields.specs.Fields.{classed}
use Rattle.std.specs.Prelude.{Some}
use Rattle.layouts.specs.declared.Kind.TheVariants.{Counted as CountedKind}
use Rattle.instruction_fields.proofs.Counted.{unsized}
use Rattle.instruction_deep.specs.Walks.{some_walked, some_parts, Takes, Runs, Counts, Headed, Fielded, Pieces, Placed}
use Rattle.instruction_walk.specs.Short.{Counted, Plain, Ready, chain_in, Linked, Known}
use Rattle.instruction_deep.specs.declared.Parts.{Parts}
use Rattle.operand_walk.specs.declared.Ran.{Ran}
use Rattle.operand_walk.specs.Walks.{IsRun}
use Rattle.instruction_walk.proofs.Alone.{run_takes}
use Rattle.instruction_deep.proofs.Deciding.{holds, Told, told}
use Rattle.instruction_deep.proofs.Items.{bounds, takes_then}
use Rattle.instruction_deep.proofs.Passing.{all_words}
use Rattle.instruction_deep.proofs.Heads.{short_row, a_chain, chain_head}
use Rattle.instruction_deep.proofs.Ways.{walks}

-- ---- the bits of a token of bounded numbers
record Split (t c s e p n f : ℕ) : Type 0 where
  code_is : code t ≡ c
  low : bits 11 12 t ≡ 0
  saturate : bits 13 13 t ≡ s
  test : bits 18 18 t ≡ e
  precise : bits 19 22 t ≡ p
  length_is : bits 24 30 t ≡ n
  top : bits 31 31 t ≡ f

split : (t c s e p n f : ℕ) → t ≡ c + s * 8192 + e * 262144 + p * 524288 + n * 16777216 + f * 2147483648 → c < 2048 → s < 2 → e < 2 → p < 16 → n < 128 → f < 2 → Split t c s e p n f
split t c s e p n f z hc hs he hp hn hf =
    let d₁₁ : t / 2 ^ 11 ≡ s * 4 + e * 128 + p * 256 + n * 8192 + f * 1048576 = omega arith in
    let d₁₃ : t / 2 ^ 13 ≡ s + e * 32 + p * 64 + n * 2048 + f * 262144 = omega arith in
    let d₁₈ : t / 2 ^ 18 ≡ e + p * 2 + n * 64 + f * 8192 = omega arith in
    let d₁₉ : t / 2 ^ 19 ≡ p + n * 32 + f * 4096 = omega arith in
    let d₂₄ : t / 2 ^ 24 ≡ n + f * 128 = omega arith in
    let d₃₁ : t / 2 ^ 31 ≡ f = omega arith in
    record {
      code_is = omega arith;
      low = rw d₁₁ (omega arith);
      saturate = rw d₁₃ (omega arith);
      test = rw d₁₈ (omega arith);
      precise = rw d₁₉ (omega arith);
      length_is = rw d₂₄ (omega arith);
      top = rw d₃₁ (omega arith);
    }

-- ---- a plain row's token
bit_below : (b : Bool) → cond b 1 0 < 2
bit_below true = omega arith
bit_below false = omega arith

bit_is : (b : Bool) {x : ℕ} → x ≡ cond b 1 0 → eqb x 1 ≡ b
bit_is true {x} e = eq-eqb x 1 e
bit_is false e = rw e

either_way : (b : Bool) (n : ℕ) → n ≡ 0 → cond b n 0 ≡ 0
either_way true n e = e
either_way false n e = refl

-- codes with a count have a chain
counted_chains : (c k : ℕ) → operand_count c ≡ just k → chained (layout c) ≡ true
counted_chains c k e = rw (← (counts c k e).meaning)

module _ (q : List ℕ) (k : ℕ) (g : Counted q k) (p : Plain q) (l : Linked q) (h : at 1 q < 128) where
  abbrev c : ℕ
  c = at 2 q

  abbrev t : ℕ
  t = token_of_row q

  abbrev f : ℕ
  f = cond (ltb 0 (at 8 q)) 1 0

  -- its own code is a token with that count
  unsized_row : sized_row q ≡ false
  unsized_row =
      let z : c % 2048 ≡ c = omega (arith, g.below) in
      let a : operand_count (code c) ≡ just k = rw z g.count in
      short_row q c (sym z) (unsized c k a) (inl (counted_chains (code c) k a))

  made : t ≡ c + at 4 q * 8192 + at 5 q * 262144 + at 6 q * 524288 + at 1 q * 16777216 + f * 2147483648
  unfolding token_of_row
  made = rw (unsized_row, p.field_is) (omega arith)

  parts : Split t c (at 4 q) (at 5 q) (at 6 q) (at 1 q) f
  parts = split t c (at 4 q) (at 5 q) (at 6 q) (at 1 q) f made g.below p.bits_are.first p.bits_are.second p.precise_is h (bit_below (ltb 0 (at 8 q)))

  counted : operand_count (code t) ≡ just k
  counted = rw parts.code_is g.count

  abbrev x : Layout
  x = layout (code t)

  abbrev y : Shape
  y = plain_shape CountedKind (width_of (code t)) k true

  by_count : x ≡ meant y
  by_count = sym (counts (code t) k counted).meaning

  code_of : at 2 q ≡ code t
  code_of = sym parts.code_is

  unsized_t : sized t ≡ false
  unsized_t = unsized t k counted

  following : follows t ≡ ltb 0 (at 8 q)
  unfolding follows
  following = bit_is (ltb 0 (at 8 q)) parts.top

  chains : chained x ≡ true
  chains = counted_chains (code t) k counted

  -- it is exact
  other_code : eqb (code t) 190 ≡ false
  other_code = ne_eqb (code t) 190 (λ z. p.code_is (code_of ∙ z))

  no_field : field_in x.field t ≡ 0
  no_field = ap (λ (z : Layout). field_in z.field t) by_count ∙ go (eqb (code t) 61 || eqb (code t) 111) refl
    where
      of_width : (n : ℕ) → width_of (code t) ≡ n → field_in (meant y).field t ≡ t / 2 ^ 11 % 2 ^ n
      of_width n e = sym (value y t (counts (code t) k counted).sound) ∙ mul-one _ ∙ ap (λ (i : ℕ). t / 2 ^ 11 % 2 ^ i) e

      go : (b : Bool) → (eqb (code t) 61 || eqb (code t) 111) ≡ b → field_in (meant y).field t ≡ 0
      go true e = of_width 2 (unfold width_of in rw e) ∙ parts.low
      go false e = of_width 0 (unfold width_of in rw (e, other_code)) ∙ mod-one (t / 2 ^ 11)

  fielded : Fielded q (fields_of x t)
  unfolding fields_of
  fielded = record {
    saturate_is = rw (by_count, other_code) (sym parts.saturate);
    test_is = rw (parts.code_is, parts.test) p.bits_are.tested;
    precise_is = rw by_count (sym parts.precise);
    field_is = p.field_is ∙ sym no_field;
  }

  top_bit : (fields_of x t).extended ≡ f
  unfolding fields_of
  top_bit = rw chains parts.top

  own_length : (fields_of x t).length ≡ at 1 q
  unfolding fields_of
  own_length = rw unsized_t parts.length_is

  exact : t ≡ token_with (code t) (fields_of x t)
  exact = omega (arith, made, code_of, fielded.saturate_is, fielded.test_is, fielded.precise_is, p.field_is, fielded.field_is, top_bit, own_length)

  in_bounds_lem : in_bounds x.field t ≡ true
  in_bounds_lem = ap (λ (z : Layout). in_bounds z.field t) by_count ∙ sym (unbounded y t (counts (code t) k counted).sound refl)

  any_class : (n : ℕ) → classed x.kind t n ≡ true
  any_class n = rw by_count

  chain_is : head_of_row q ≡ chain_in q
  chain_is = a_chain q t code_of unsized_t chains

  head : Headed q x t (head_of_row q)
  head = chain_head q t code_of unsized_t chains (rw following l)

  token_length : length_of t (head_of_row q) ≡ at 1 q
  unfolding length_of
  token_length = rw unsized_t parts.length_is

  -- so the row is exact with as many dwords as it says
  by_row : layout (at 2 q) ≡ x
  by_row = ap layout code_of

  plain_pieces : (n : ℕ) → at 1 q ≡ 1 + length (chain_in q) + n → Pieces q n
  plain_pieces n e =
      let z : at 1 q ≡ 1 + length (head_of_row q) + n = rw chain_is e in
      rw by_row (record {
        token = exact;
        bounds = in_bounds_lem;
        class = any_class n;
        size = token_length ∙ z;
        dwords_are = z;
        code_is = code_of;
        fields_are = fielded;
        head = head;
      })

pub counted_row : (q : List ℕ) {k : ℕ} → operand_count (at 2 q) ≡ just k → at 2 q < 2048 → Counted q k
counted_row q e h = record { count = e; below = h }

-- ---- walking it
-- a plain row of a code with a count, whose operands stand in front of words as they are
module _ (q : List ℕ) (place : ℕ) (rs ws : List ℕ) (r w k : ℕ) (h : length q ≡ 16) (g : Counted q k) (p : Plain q) (o : Placed q place 1 r k w (length ws - w)) (c : Linked q) where
  abbrev s : Shape
  s = plain_shape CountedKind (width_of (at 2 q)) k true

  all : {to : Parts} → Runs k rs ws r w (Some to) → (m : Bool) → Takes m (items_of s) k rs ws r w (some_parts to.row (length ws) (to.dwords + (length ws - to.word)))
  unfolding items_of
  all {to} a m =
      let z : k + 0 ≡ k = omega arith in
      rw z at (takes_then {b = tail ∷ []} (a m) (all_words ws to.word (bounds (a m)).words_to m rs to.row))

  counted_walks : {to : Parts} {n : ℕ} → Runs k rs ws r w (Some to) → 1 + length (chain_in q) + to.dwords + (length ws - to.word) ≡ n → n < 128 → at 1 q ≡ n → Known q place (drop (16 * r) rs) (drop w ws) r w (some_walked (to.row - r) n)
  counted_walks {to} a en hn e m =
      let z : at 1 q ≡ 1 + length (chain_in q) + (to.dwords + (length ws - to.word)) = omega arith in
      ap (some_walked (to.row - r)) (sym e) ∙ walks q place m rs ws r w h s (counts (at 2 q) k g.count) (all a m) _ refl refl (holds o) refl (holds (plain_pieces q k g p c (omega arith) _ z)) refl

-- by operands that have one row or two
module _ (q : List ℕ) (place : ℕ) (rs ws : List ℕ) (r w : ℕ) (h : length q ≡ 16) (hw : w ≤ length ws) (h₃ : at 3 q ≡ 1) (a : Ready q place r w (length ws - w)) where
  pub quick_walks : {k : ℕ} → Counted q k → at 13 q ≡ k → {x : Ran} → IsRun rs r w k (length ws) x → {c : ℕ} → Counts (Linked q) (length (chain_in q)) (Some c) → {n : ℕ} → 1 + k + (length ws - w) + x.dwords + c ≡ n → n < 128 → at 1 q ≡ n →
      Known q place (drop (16 * r) rs) (drop w ws) r w (some_walked (k + x.rows) n)
  quick_walks {k} g e₁₃ {x} run {c} d {n} en hn e m =
      let o : Placed q place 1 r k w (length ws - w) = record { place_is = a.place_is; kind_is = h₃; row_is = a.row_is; operands_are = e₁₃; word_is = a.word_is; words_are = a.words_are } in
      let u : Told (Linked q) (length (chain_in q)) c = told d refl in
      let z : 1 + length (chain_in q) + (k + (run.past - w) + x.dwords) + (length ws - run.past) ≡ n = omega (arith, u.size, run.words_from, run.words_to) in
      let j : k + x.rows ≡ r + (k + x.rows) - r = omega arith in
      ap (λ (b : ℕ). some_walked b n) j ∙ counted_walks q place rs ws r w k h g a.plain o u.is (run_takes (run.runs 62 ws refl) hw) z hn e m

-- by operands one after the other
module _ (q : List ℕ) (place : ℕ) (rs ws : List ℕ) (r w : ℕ) where
  pub one_by_one : length q ≡ 16 → {k : ℕ} → Counted q k → Plain q → Placed q place 1 r k w (length ws - w) → {to : Parts} → Runs k rs ws r w (Some to) → {c : ℕ} → Counts (Linked q) (length (chain_in q)) (Some c) →
      1 + c + to.dwords + (length ws - to.word) < 128 → at 1 q ≡ 1 + c + to.dwords + (length ws - to.word) → Known q place (drop (16 * r) rs) (drop w ws) r w (some_walked (to.row - r) (1 + c + to.dwords + (length ws - to.word)))
  one_by_one h {k} g p o {to} run {c} d hn e m =
      let u : Told (Linked q) (length (chain_in q)) c = told d refl in
      counted_walks q place rs ws r w k h g p o u.is run (ap (λ (j : ℕ). 1 + j + to.dwords + (length ws - to.word)) u.size) hn e m
