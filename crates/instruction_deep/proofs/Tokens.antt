-- The token that a row tells, and what the code's tests of it decide.
use Prim.Native.Nat.{ℕ, ◌+◌, ◌-◌, ◌*◌, ◌/◌, ◌%◌, ◌^◌, ◌<◌, ◌≤◌}
use mathlib.Core.Path.{◌≡◌, refl, sym, ap, ◌∙◌}
use mathlib.Core.List.{List, [], ◌∷◌}
use mathlib.Core.Bool.{Bool, true, false, cond, not, ◌&&◌, ◌||◌}
use native.Mathlib.Nat.{mod-add-div, mod-lt}
use native.Mathlib.Omega.{arith}
use lib.ListN.{length, get_or}
use lib.Dec.{eqb, ltb}
use lib.Pow.{pow_pos, shl_exact}
use borrow.Author.Tests.{eqb-true}
use Rattle.format.specs.Dwords.{bits}
use Rattle.format.specs.Framing.{code, long, sized, length_of}
use Rattle.format.specs.Counts.{Fields, within, token_with}
use Rattle.format.specs.Declarations.{layout, chained, field_in, in_bounds}
use Rattle.format.specs.Instructions.{fields_of}
use Rattle.format.specs.Encoder.{at, sized_row, token_of_row, head_of_row}
use Rattle.format.proofs.Dwords.{bits_above}
use Rattle.layouts.specs.Shapes.{Sound, Laid, kind_number, meant, field_of}
use Rattle.layouts.specs.declared.Shape.{Shape}
use Rattle.layouts.proofs.Fields.{value}
use Rattle.instruction_fields.specs.Fields.{classed}
use Rattle.std.specs.Prelude.{Option, Some, Decides}
use Rattle.std.specs.Int.{from_bool}
use Rattle.std.proofs.lemmas.Bool.Decides.{Decides-like}
use Rattle.instruction_deep.specs.Walks.{Counts, Headed, Fielded, Sized, Exact, Pieces}
use Rattle.instruction_deep.proofs.Deciding.{fails, Told, told as counted}
use Rattle.instruction_deep.proofs.Heads.{sized_dword}

-- ---- the token that a row tells
extended_is : (b : Bool) → from_bool b ≡ cond b 1 0
extended_is true = refl
extended_is false = refl

pub token_at : (q : List ℕ) (n x r : ℕ) (b : Bool) → b ≡ (eqb (at 2 q) 53 || (eqb (at 2 q) 145 || eqb (at 2 q) 146) && ltb 0 (at 8 q)) → n ≡ cond b 0 (at 1 q) → x ≡ from_bool (ltb 0 (at 8 q)) →
    r ≡ token_with (at 2 q) (record { field = at 7 q; saturate = at 4 q; test = at 5 q; precise = at 6 q; length = n; extended = x }) → r ≡ token_of_row q
unfolding token_of_row sized_row
token_at q n x r b eb en ex er = rw (← eb, ← en, ← (extended_is (ltb 0 (at 8 q))), ← ex) er

-- ---- an exact token is a dword
cond_below : (b : Bool) (k n : ℕ) → k < n → cond b k 0 < n
cond_below true k n h = h
cond_below false k n h = omega arith

cond_most : (b : Bool) (k : ℕ) → (cond b k 0 ≤ k) × (cond b 0 k ≤ k)
cond_most true k = (omega arith, omega arith)
cond_most false k = (omega arith, omega arith)

module _ (s : Shape) (h : Sound s) (t : ℕ) where
  field_below : field_in (field_of s) t < 8192
  field_below =
      let v : ℕ = t / 2 ^ s.first % 2 ^ s.width * 2 ^ (s.first - 11) in
      let e : v % 8192 ≡ v = shl_exact s.width (s.first - 11) 13 (mod-lt _ (pow_pos s.width)) (omega (arith, h.bits_from, h.bits_to)) in
      rw (← (value s t h)) (omega (arith, e))

  no_more : (c f u v p n g m b d q₁ q₂ q₃ : ℕ) → t ≡ c + f * 2048 + u * 8192 + v * 262144 + p * 524288 + n * 16777216 + g * 2147483648 → c < 2048 → f < 8192 → u < 2 → v < 2 → p < 16 → n ≤ b → g ≤ d →
      t ≡ m + 16777216 * q₁ → q₁ ≡ b + 128 * q₂ → q₂ ≡ d + 2 * q₃ → q₃ ≡ 0
  no_more c f u v p n g m b d q₁ q₂ q₃ e hc hf hu hv hp hn hg e₁ e₂ e₃ = omega arith

  token_below : t ≡ token_with (code t) (fields_of (meant s) t) → t < 2 ^ 32
  unfolding fields_of
  token_below e =
      let z : t / 2 ^ 32 ≡ 0 = no_more (code t) (field_in (field_of s) t) _ _ _ _ _ _ _ _ _ _ _ e (omega arith) field_below (cond_below (ltb (kind_number s.kind) 4 && not (eqb (code t) 190)) (bits 13 13 t) 2 (omega arith)) (cond_below (within (code t) (3 ∷ 5 ∷ 8 ∷ 13 ∷ 31 ∷ 63 ∷ [])) (bits 18 18 t) 2 (omega arith)) (cond_below (ltb (kind_number s.kind) 4) (bits 19 22 t) 16 (omega arith))
      (cond_most (sized t) (bits 24 30 t)).1 (cond_most (chained (meant s) || long t) (bits 31 31 t)).0 (sym (mod-add-div t 16777216)) (bits_above t 24 7) (bits_above t 31 1) in
      omega (arith, z)

-- ---- the code's ways
module _ (q : List ℕ) (n : ℕ) (s : Shape) (laid : Laid (at 2 q) s) (u : ℕ) (eu : u ≡ token_of_row q) where
  abbrev e : List ℕ
  e = head_of_row q

  pub no_dword : 2 ^ 32 ≤ u → Decides false (Pieces q n)
  no_dword h = fails (λ p.
      let z : u ≡ token_with (code u) (fields_of (meant s) u) = rw (laid.meaning, eu) p.token in
      let k = token_below s laid.sound u z in
      absurd (let f : ⊥ = omega arith in f))

  module _ (t : ℕ) (et : t ≡ u) where
    of_row : t ≡ token_of_row q
    of_row = et ∙ eu

    -- the same of the shape and the token that the code has
    abbrev Known : Type 0
    Known = Exact q (meant s) t e n

    known : Pieces q n → Known
    known p = rw (laid.meaning, of_row) p

    told : Known → Pieces q n
    told p = rw (laid.meaning, of_row) at p

    -- it has the row's code, and all that was asked of it holds
    module _ (ec : t % 2048 ≡ at 2 q) (f : Fields) (ef : f ≡ fields_of (meant s) t) (b₁ : Bool) (e₁ : b₁ ≡ eqb t (token_with (code t) f)) (h₁ : b₁ ≡ true) (b₂ : Bool) (e₂ : b₂ ≡ in_bounds (field_of s) t) (h₂ : b₂ ≡ true)
        (b₃ : Bool) (e₃ : b₃ ≡ classed (kind_number s.kind) t n) (h₃ : b₃ ≡ true) {b₄ : Bool} (d₄ : Decides b₄ (Fielded q f)) (h₄ : b₄ ≡ true) {p : Option ℕ} (d₅ : Counts (Headed q (layout (code t)) t e) (length e) p) (k : ℕ) (ek : p ≡ Some k) where
      head_told : Told (Headed q (layout (code t)) t e) (length e) k
      head_told = counted d₅ ek

      same_layout : layout (code t) ≡ meant s
      same_layout = ap layout ec ∙ sym laid.meaning

      -- the length, whether it is in the token or in the next dword
      length_is : length_of t e ≡ cond (sized t) (at 1 q) (bits 24 30 t)
      unfolding length_of
      length_is = go (sized t) refl
        where
          go : (b : Bool) → sized t ≡ b → cond b (get_or e 0 0) (bits 24 30 t) ≡ cond b (at 1 q) (bits 24 30 t)
          go true y = rw (sized_dword q t (sym ec) y head_told.is)
          go false y = refl

      size_is : 1 + k + n ≡ 1 + length e + n
      size_is = ap (λ (j : ℕ). 1 + j + n) (sym head_told.size)

      pub decided : {b : Bool} → Decides b (Sized (at 1 q) t (1 + k + n)) → Decides b (Pieces q n)
      decided {b} d = Decides-like b
          (λ z. told (record {
            token = eqb-true t _ (rw (← ef) (sym e₁ ∙ h₁));
            bounds = sym e₂ ∙ h₂;
            class = sym e₃ ∙ h₃;
            size = length_is ∙ z.token_is ∙ size_is;
            dwords_are = z.row_is ∙ size_is;
            code_is = sym ec;
            fields_are = rw (← ef) (d₄.0 h₄);
            head = rw (← same_layout) head_told.is;
          }))
          (λ p. record { row_is = (known p).dwords_are ∙ sym size_is; token_is = sym length_is ∙ (known p).size ∙ sym size_is })
          d
