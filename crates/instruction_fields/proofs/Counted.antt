-- The token of an instruction whose code has a count, and what stands behind it before its operands.
use Prim.Native.Nat.{ℕ, ◌+◌, ◌*◌, ◌/◌, ◌%◌, ◌^◌, ◌<◌}
use mathlib.Core.Path.{◌≡◌, refl, sym, ap, ◌∙◌}
use mathlib.Core.List.{List, [], ◌∷◌, ◌++◌}
use mathlib.Core.Bool.{Bool, true, false, cond, not, ◌&&◌, ◌||◌}
use mathlib.Core.Option.{none, some}
use native.Mathlib.Nat.{mod-add-div, mod-one, mul-one}
use native.Mathlib.Omega.{arith}
use lib.ListN.{replicate}
use lib.Seq.{slice, slice_empty}
use lib.Dec.{eqb}
use borrow.Author.Tests.{eqb-true, eq-eqb}
use Rattle.format.specs.Dwords.{bits, follows, chain}
use Rattle.format.specs.Framing.{code, long, sized}
use Rattle.format.specs.Counts.{within, numbers, line_of, operand_count, rising, token_with}
use Rattle.format.specs.Declarations.{o, tail, Layout, layout, chained, field_in, in_bounds}
use Rattle.format.specs.Instructions.{read_head, fields_of, extensions}
use Rattle.format.proofs.Dwords.{impossible, both, bits_above}
use Rattle.layouts.specs.Shapes.{meant, items_of}
use Rattle.layouts.specs.declared.Kind.TheVariants.{Counted}
use Rattle.layouts.specs.Table.{plain_shape, width_of}
use Rattle.layouts.proofs.Others.{counts}
use Rattle.layouts.proofs.Fields.{unbounded, value}
use Rattle.instruction_fields.specs.Fields.{headed, clear_token, plain_token}

module _ (c n : ℕ) (h : operand_count c ≡ some n) where
  -- its layout
  abbrev pub shape : Layout
  shape = meant (plain_shape Counted (width_of c) n true)

  pub laid : layout c ≡ shape
  laid = sym (counts c n h).meaning

  pub items : (layout c).items ≡ replicate n o ++ tail ∷ []
  unfolding items_of
  items = ap (λ (x : Layout). x.items) laid

  -- a code that has no count is another
  other : (k : ℕ) → operand_count k ≡ none → eqb c k ≡ false
  other k e = go (eqb c k) refl
    where
      go : (b : Bool) → eqb c k ≡ b → b ≡ false
      go true q = let z : operand_count c ≡ none = ap operand_count (eqb-true c k q) ∙ e in impossible (cc)
      go false q = refl

  not_53 : eqb c 53 ≡ false
  unfolding numbers within line_of operand_count
  not_53 = other 53 refl

  not_145 : eqb c 145 ≡ false
  unfolding numbers within line_of operand_count
  not_145 = other 145 refl

  not_146 : eqb c 146 ≡ false
  unfolding numbers within line_of operand_count
  not_146 = other 146 refl

module _ (t n : ℕ) (h : operand_count (code t) ≡ some n) where
  pub short : long t ≡ false
  unfolding long
  short = rw (not_145 (code t) n h, not_146 (code t) n h)

  pub unsized : sized t ≡ false
  unfolding sized
  unsized = rw (not_53 (code t) n h, short)

  -- behind its token stands a chain, if bit 31 says so
  pub chain_head : (l : List ℕ) → read_head (layout (code t)) t l ≡ chain (follows t) l
  unfolding read_head
  chain_head l = rw (unsized, laid (code t) n h)

  -- a plain token is what it should be
  record Clear : Type 0 where
    low : bits 11 12 t ≡ 0
    mid : bits 14 17 t ≡ 0
    high : bits 23 23 t ≡ 0
    top : bits 31 31 t ≡ 0
    test : (eqb (bits 18 18 t) 0 || within (code t) (3 ∷ 5 ∷ 8 ∷ 13 ∷ 31 ∷ 63 ∷ [])) ≡ true

  module _ (plain : plain_token t ≡ true) (small : t < 2 ^ 32) where
    abbrev x : Layout
    x = shape (code t) n h

    clear : Clear
    clear =
        let d = both (clear_token t) (eqb (bits 18 18 t) 0 || within (code t) (3 ∷ 5 ∷ 8 ∷ 13 ∷ 31 ∷ 63 ∷ [])) plain in
        let a = both (eqb (bits 11 12 t) 0 && eqb (bits 14 17 t) 0 && eqb (bits 23 23 t) 0) (eqb (bits 31 31 t) 0) d.0 in
        let b = both (eqb (bits 11 12 t) 0 && eqb (bits 14 17 t) 0) (eqb (bits 23 23 t) 0) a.0 in
        let c = both (eqb (bits 11 12 t) 0) (eqb (bits 14 17 t) 0) b.0 in
        record { low = eqb-true _ _ c.0; mid = eqb-true _ _ c.1; high = eqb-true _ _ b.1; top = eqb-true _ _ a.1; test = d.1 }

    linear : (f u e y q₁ q₂ q₃ q₄ q₅ q₆ q₇ q₈ c₁ c₂ c₃ b v p l c : ℕ) → t ≡ c + 2048 * q₁ → q₁ ≡ c₁ + 4 * q₂ → q₂ ≡ b + 2 * q₃ → q₃ ≡ c₂ + 16 * q₈ → q₈ ≡ v + 2 * q₄ → q₄ ≡ p + 16 * q₅ → q₅ ≡ c₃ + 2 * q₆ → q₆ ≡ l + 128 * q₇
        → c₁ ≡ 0 → c₂ ≡ 0 → c₃ ≡ 0 → q₇ ≡ 0 → f * 2048 + u * 8192 ≡ b * 8192 → e ≡ v → y ≡ 0 → t ≡ c + f * 2048 + u * 8192 + e * 262144 + p * 524288 + l * 16777216 + y * 2147483648
    linear f u e y q₁ q₂ q₃ q₄ q₅ q₆ q₇ q₈ c₁ c₂ c₃ b v p l c h₀ h₁ h₂ h₃ h₈ h₄ h₅ h₆ k₁ k₂ k₃ k₇ r w z = omega arith

    sums : (f u e y : ℕ) → f * 2 ^ 11 + u * 2 ^ 13 ≡ bits 13 13 t * 2 ^ 13 → e ≡ bits 18 18 t → y ≡ 0 → t ≡ code t + f * 2 ^ 11 + u * 2 ^ 13 + e * 2 ^ 18 + bits 19 22 t * 2 ^ 19 + bits 24 30 t * 2 ^ 24 + y * 2 ^ 31
    sums f u e y p q r =
        let none : t / 2 ^ 32 ≡ 0 = omega (arith, small) in
        let z : t / 2 ^ 31 ≡ 0 = omega (arith, none, bits_above t 31 1, clear.top) in
        linear f u e y _ _ _ _ _ _ _ _ _ _ _ _ _ _ _ _ (sym (mod-add-div t 2048)) (bits_above t 11 2) (bits_above t 13 1) (bits_above t 14 4) (bits_above t 18 1) (bits_above t 19 4) (bits_above t 23 1) (bits_above t 24 7) clear.low clear.mid clear.high z p q r

    -- the field and saturate: bit 13, which is the field's for 190
    field_is : (w : ℕ) → width_of (code t) ≡ w → field_in x.field t ≡ t / 2 ^ 11 % 2 ^ w
    field_is w e = sym (value (plain_shape Counted (width_of (code t)) n true) t (counts (code t) n h).sound) ∙ mul-one _ ∙ ap (λ (k : ℕ). t / 2 ^ 11 % 2 ^ k) e

    pub field_none : eqb (code t) 190 ≡ false → field_in x.field t ≡ 0
    field_none p = go (eqb (code t) 61 || eqb (code t) 111) refl
      where
        go : (a : Bool) → (eqb (code t) 61 || eqb (code t) 111) ≡ a → field_in x.field t ≡ 0
        go true q = field_is 2 (unfold width_of in rw q) ∙ clear.low
        go false q = field_is 0 (unfold width_of in rw (q, p)) ∙ mod-one (t / 2 ^ 11)

    thirteenth : field_in x.field t * 2 ^ 11 + (fields_of x t).saturate * 2 ^ 13 ≡ bits 13 13 t * 2 ^ 13
    unfolding fields_of
    thirteenth = go (eqb (code t) 190) refl
      where
        mixed : (q₁ q₂ q₃ q₄ b : ℕ) → q₁ ≡ 0 + 4 * q₂ → q₂ ≡ b + 2 * q₃ → q₃ ≡ 0 + 16 * q₄ → b < 2 → q₁ % 16 * 2048 + 0 * 8192 ≡ b * 8192
        mixed q₁ q₂ q₃ q₄ b h₁ h₂ h₃ l = let k : q₁ ≡ 4 * b + 16 * (8 * q₄) = omega arith in omega (arith, k)

        go : (b : Bool) → eqb (code t) 190 ≡ b → field_in x.field t * 2 ^ 11 + cond (not b) (bits 13 13 t) 0 * 2 ^ 13 ≡ bits 13 13 t * 2 ^ 13
        go true p =
            let w : width_of (code t) ≡ 4 = unfold width_of in rw (eqb-true (code t) 190 p) in
            rw (field_is 4 w) (mixed _ _ _ _ (bits 13 13 t) (rw clear.low at (bits_above t 11 2)) (bits_above t 13 1) (rw clear.mid at (bits_above t 14 4)) (omega arith))
        go false p = rw (field_none p) (omega arith)

    either_way : (b : Bool) (k : ℕ) → k ≡ 0 → cond b k 0 ≡ 0
    either_way true k e = e
    either_way false k e = refl

    pub test_is : (fields_of x t).test ≡ bits 18 18 t
    unfolding fields_of
    test_is = go (within (code t) (3 ∷ 5 ∷ 8 ∷ 13 ∷ 31 ∷ 63 ∷ [])) (eqb (bits 18 18 t) 0) refl clear.test
      where
        go : (w e : Bool) → eqb (bits 18 18 t) 0 ≡ e → (e || w) ≡ true → cond w (bits 18 18 t) 0 ≡ bits 18 18 t
        go true e p q = refl
        go false true p q = sym (eqb-true _ _ p)
        go false false p q = impossible (cc)

    plain_sum : eqb t (token_with (code t) (fields_of x t)) ≡ true
    unfolding fields_of
    plain_sum =
        let extended : (fields_of x t).extended ≡ 0 = either_way (chained x || long t) (bits 31 31 t) clear.top in
        eq-eqb _ _ (sums (field_in x.field t) (fields_of x t).saturate (fields_of x t).test (fields_of x t).extended thirteenth test_is extended ∙ rw (unsized))

    pub unfollowed : follows t ≡ false
    unfolding follows
    unfollowed = rw clear.top

    -- so what stands in front of its operands is exact
    pub plain_headed : (ds : List ℕ) (end k : ℕ) → (follows t ≡ false → end ≡ 1) → true ≡ headed (layout (code t)) t (slice 1 end ds) k
    unfolding headed extensions rising
    plain_headed ds end k e =
        let z : slice 1 end ds ≡ [] = rw (e unfollowed) (slice_empty 1 ds) in
        let b : true ≡ in_bounds x.field t = unbounded (plain_shape Counted (width_of (code t)) n true) t (counts (code t) n h).sound refl in
        rw (laid (code t) n h, z, plain_sum, ← b)
