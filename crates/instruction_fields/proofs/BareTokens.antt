-- A declaration whose token has only its code, its length and a field within its bounds.
use Prim.Native.Nat.{ℕ, ◌+◌, ◌*◌, ◌/◌, ◌^◌, ◌<◌}
use mathlib.Core.Path.{◌≡◌, refl, sym, ap, ◌∙◌}
use mathlib.Core.List.{List, [], ◌∷◌, map}
use mathlib.Core.Bool.{Bool, true, false, ◌&&◌, ◌||◌, and-false}
use native.Mathlib.Nat.{mod-add-div}
use native.Mathlib.Omega.{arith}
use lib.ListN.{length}
use lib.Dec.{eqb, ltb}
use borrow.Author.Tests.{eqb-true, eq-eqb, ne_eqb, ltb-true}
use Rattle.format.specs.Dwords.{bits, follows}
use Rattle.format.specs.Framing.{code, long, sized}
use Rattle.format.specs.Counts.{within, numbers, line_of, operand_count, token_with}
use Rattle.format.specs.Declarations.{Layout, in_table, layout, field_in, in_bounds}
use Rattle.format.specs.Instructions.{fields_of}
use Rattle.format.proofs.Dwords.{both, bits_above}
use Rattle.format.proofs.Each.{member}
use Rattle.layouts.specs.Shapes.{kind_number, meant, field_of}
use Rattle.layouts.specs.declared.Shape.{Shape}
use Rattle.instruction_fields.specs.Fields.{headed, bare_token, Declared}
use Rattle.instruction_fields.proofs.Tokens.{head_none}
use Rattle.instruction_fields.proofs.Heads.{Headed, headed_at, another_kind, class_decides, unchained_head}

module _ (t : ℕ) (x : Shape) (l : Declared (code t) x) where
  is_4 : kind_number x.kind ≡ 4
  is_4 = ap kind_number l.kind

  kind_4 : (layout (code t)).kind ≡ 4
  kind_4 = ap (λ (y : Layout). y.kind) (sym l.laid.meaning) ∙ is_4

  -- codes of another kind declare nothing
  of_another : (k : ℕ) (cs : List ℕ) → map (λ c. (layout c).kind) cs ≡ map (λ c. k) cs → (k ≡ 4 → ⊥) → within (code t) cs ≡ false
  of_another k cs e n = go (within (code t) cs) refl
    where
      go : (b : Bool) → within (code t) cs ≡ b → b ≡ false
      go true q = absurd (n (sym (member (λ c. (layout c).kind) (λ c. k) cs e (code t) q) ∙ kind_4))
      go false q = refl

  untested : within (code t) (3 ∷ 5 ∷ 8 ∷ 13 ∷ 31 ∷ 63 ∷ []) ≡ false
  unfolding numbers within line_of operand_count in_table layout
  untested = of_another 1 (3 ∷ 5 ∷ 8 ∷ 13 ∷ 31 ∷ 63 ∷ []) refl (λ e. omega arith)

  not_53 : eqb (code t) 53 ≡ false
  unfolding numbers within line_of operand_count in_table layout
  not_53 = ne_eqb (code t) 53 (λ e. let z : 5 ≡ 4 = ap (λ (c : ℕ). (layout c).kind) (sym e) ∙ kind_4 in omega arith)

  record Parts : Type 0 where
    under : t < 2 ^ 31
    field : bits 11 23 t ≡ field_in (field_of x) t
    bounds : in_bounds (field_of x) t ≡ true

  module _ (bare : bare_token x t ≡ true) where
    parts : Parts
    parts =
        let a = both (ltb t (2 ^ 31) && eqb (bits 11 23 t) (field_in (field_of x) t)) (in_bounds (field_of x) t) bare in
        let b = both (ltb t (2 ^ 31)) (eqb (bits 11 23 t) (field_in (field_of x) t)) a.0 in
        record { under = ltb-true _ _ b.0; field = eqb-true _ _ b.1; bounds = a.1 }

    unfollowed : follows t ≡ false
    unfolding follows
    unfollowed = let z : bits 31 31 t ≡ 0 = omega (arith, parts.under) in rw z

    short : long t ≡ false
    unfolding long
    short = rw unfollowed (and-false (eqb (code t) 145 || eqb (code t) 146))

    unsized : sized t ≡ false
    unfolding sized
    unsized = rw (not_53, short)

    linear : (c f n q₁ q₂ : ℕ) → t ≡ c + 2048 * q₁ → q₁ ≡ f + 8192 * q₂ → q₂ ≡ n + 128 * 0 → t ≡ c + f * 2048 + 0 * 8192 + 0 * 262144 + 0 * 524288 + n * 16777216 + 0 * 2147483648
    linear c f n q₁ q₂ h₁ h₂ h₃ = omega arith

    sums : t ≡ code t + bits 11 23 t * 2 ^ 11 + 0 * 2 ^ 13 + 0 * 2 ^ 18 + 0 * 2 ^ 19 + bits 24 30 t * 2 ^ 24 + 0 * 2 ^ 31
    sums =
        let z : t / 2 ^ 31 ≡ 0 = omega (arith, parts.under) in
        linear (code t) (bits 11 23 t) (bits 24 30 t) _ _ (sym (mod-add-div t 2048)) (bits_above t 11 13) (rw z at (bits_above t 24 7))

    exact : true ≡ eqb t (token_with (code t) (fields_of (meant x) t))
    unfolding fields_of field_in field_of
    exact = rw (l.kind, untested, unsized, short, ← parts.field) (sym (eq-eqb _ _ sums))

    pub all_exact : (e : List ℕ) (n : ℕ) → true ≡ headed (meant x) t e n
    all_exact e n =
        class_decides (meant x) t e n true exact refl true (unchained_head (kind_number x.kind) e (omega (arith, is_4))) refl true (sym parts.bounds) refl true (another_kind (kind_number x.kind) t n (λ z. omega (arith, is_4)))

    pub begins : (ds : List ℕ) → 0 < length ds → Headed (meant x) t ds 1
    begins ds h = headed_at (meant x) t ds h (head_none (meant x) t ds false (sym unsized) refl (ap (λ k. ltb k 3) is_4)) refl
