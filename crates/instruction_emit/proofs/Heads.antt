-- Laws of a token and what stands after it, made from a row.
use Prim.Native.Nat.{ℕ, zero, suc, ◌+◌, ◌*◌, ◌/◌, ◌%◌, ◌^◌, ◌<◌, ◌≤◌}
use mathlib.Core.Path.{◌≡◌, refl, ap, ◌∙◌}
use mathlib.Core.Bool.{Bool, true, false, cond, ◌&&◌, ◌||◌}
use mathlib.Core.List.{List, [], ◌∷◌, ◌++◌}
use native.Mathlib.Omega.{arith}
use lib.ListN.{length, take, length-append}
use lib.Dec.{ltb, eqb}
use borrow.Author.Tests.{lt-ltb, le-ltb, ne_eqb}
use Rattle.std.proofs.Common.{Option, option_to_list}
use Rattle.std.specs.Bool.{then_some}
use Rattle.std.specs.Int.{from_bool}
use Rattle.format.specs.Dwords.{bytes_of}
use Rattle.format.specs.Counts.{within, numbers}
use Rattle.format.specs.Declarations.{in_table, layout, chained}
use Rattle.format.specs.Encoder.{at, chain_of, sized_row, token_of_row, head_of_row}
use Rattle.output.specs.Puts.{put, Headed}
use Rattle.output.proofs.Puts.{dwords_more}
use Rattle.instruction_emit.specs.Emits.{low_of, chain_of_row, head_of, Fits, HeadReady, Bare}

-- ---- a chain
-- a dword that may be there
pub some_if : {r : Option ℕ} (k x : ℕ) → k ≤ 1 → r ≡ then_some (eqb k 1) x → option_to_list r ≡ take k (x ∷ [])
some_if zero x h e = rw e refl
some_if (suc zero) x h e = rw e refl
some_if (suc (suc k)) x h e = absurd (omega arith)

-- one behind the other
headed_more : (k l : List ℕ) (place next end : ℕ) (out out₁ out₂ : List ℕ) → 4 * (place + length k) ≤ length out → Headed k place out next out₁ → Headed l next out₁ end out₂ → Headed (k ++ l) place out end out₂
headed_more k l place next end out out₁ out₂ h a b = record {
  next_is = omega (arith, a.next_is, b.next_is, length-append k l);
  output_is = dwords_more place next k l out h a.next_is a.output_is b.output_is;
}

pub from_is : (b : Bool) → from_bool b ≡ cond b 1 0
from_is true = refl
from_is false = refl

top_bit : (b : Bool) → cond b 1 0 * 2 ^ 31 ≡ cond b (2 ^ 31) 0
top_bit true = refl
top_bit false = refl

module _ (q : List ℕ) (place : ℕ) (out : List ℕ) (room : 4 * (place + length (chain_of_row q)) ≤ length out) where
  abbrev X : List ℕ
  X = take (at 8 q % 2) ((1 + at 9 q * 2 ^ 9 + cond (ltb 1 (at 8 q)) (2 ^ 31) 0) ∷ [])

  abbrev Y : List ℕ
  Y = take (at 8 q / 2 % 2) ((at 10 q + at 8 q / 4 * 2 ^ 31) ∷ [])

  abbrev Z : List ℕ
  Z = take (at 8 q / 4) (at 11 q ∷ [])

  chain_is : chain_of_row q ≡ X ++ Y ++ Z
  unfolding chain_of
  chain_is = refl

  lengths : length (chain_of_row q) ≡ length X + length Y + length Z
  lengths = ap length chain_is ∙ length-append (X ++ Y) Z ∙ ap (λ (n : ℕ). n + length Z) (length-append X Y)

  pub first_is : {b : ℕ} → b ≡ from_bool (ltb 1 (at 8 q)) → {r : Option ℕ} → r ≡ then_some (eqb (at 8 q % 2) 1) (1 + at 9 q * 512 + b * 2147483648) → option_to_list r ≡ X
  first_is eb e = rw (← (top_bit (ltb 1 (at 8 q))), ← (from_is (ltb 1 (at 8 q))), ← eb) (some_if _ _ (omega arith) e)

  module _ {k₁ : List ℕ} (e₁ : k₁ ≡ X) where
    pub first_room : 4 * (place + length k₁) ≤ length out
    first_room = rw e₁ (omega (arith, room, lengths))

    module _ {next : ℕ} {out₁ : List ℕ} (g₁ : Headed k₁ place out next out₁) (l₁ : length out₁ ≡ length out) {k₂ : List ℕ} (e₂ : k₂ ≡ Y) where
      pub second_room : 4 * (next + length k₂) ≤ length out₁
      second_room = rw e₂ (omega (arith, room, lengths, g₁.next_is, ap length e₁))

      module _ {end : ℕ} {out₂ : List ℕ} (g₂ : Headed k₂ next out₁ end out₂) (l₂ : length out₂ ≡ length out₁) {k₃ : List ℕ} (e₃ : k₃ ≡ Z) where
        pub third_room : 4 * (end + length k₃) ≤ length out₂
        third_room = rw e₃ (omega (arith, room, lengths, g₁.next_is, ap length e₁, g₂.next_is, ap length e₂))

        pub chained_up : {last : ℕ} {out₃ : List ℕ} → Headed k₃ end out₂ last out₃ → Headed (chain_of_row q) place out last out₃
        chained_up {last} {out₃} g₃ =
            let h₁ : Headed X place out next out₁ = rw e₁ at g₁ in
            let h₂ : Headed Y next out₁ end out₂ = rw e₂ at g₂ in
            let h₃ : Headed Z end out₂ last out₃ = rw e₃ at g₃ in
            rw chain_is (headed_more (X ++ Y) Z place end last out out₂ out₃ (omega (arith, room, lengths, length-append X Y)) (headed_more X Y place next end out out₁ out₂ (omega (arith, room, lengths)) h₁ h₂) h₃)

-- ---- the token of a row
module _ (q : List ℕ) where
  abbrev top : ℕ
  top = cond (ltb 0 (at 8 q)) 1 0 * 2 ^ 31

  token_short : sized_row q ≡ false → token_of_row q ≡ low_of q + top + at 1 q * 16777216
  unfolding token_of_row
  token_short h = rw h (omega arith)

  token_long : sized_row q ≡ true → token_of_row q ≡ low_of q + top
  unfolding token_of_row
  token_long h = rw h (omega arith)

  token_top : low_of q + top ≤ token_of_row q
  token_top = go (sized_row q) refl
    where
      go : (b : Bool) → sized_row q ≡ b → low_of q + top ≤ token_of_row q
      go true h = omega (arith, token_long h)
      go false h = omega (arith, token_short h)

  -- what stands after it
  after_long : sized_row q ≡ true → head_of_row q ≡ at 1 q ∷ []
  unfolding head_of_row
  after_long h = rw h

  module _ (h : sized_row q ≡ false) (k : at 3 q ≡ (layout (at 2 q)).kind) where
    after_unchained : 3 ≤ at 3 q → head_of_row q ≡ []
    unfolding head_of_row
    after_unchained z = rw (h, ← k, le-ltb (at 3 q) 3 z)

    after_chain : at 3 q < 3 → head_of_row q ≡ chain_of_row q
    unfolding head_of_row
    after_chain z = rw (h, ← k, lt-ltb (at 3 q) 3 z)

module _ (q : List ℕ) (place : ℕ) (out : List ℕ) (g : HeadReady q place (length out)) where
  pub low_room : low_of q < 2 ^ 32
  low_room = omega (arith, token_top q, g.fits.token_fits)

  module _ {l b : ℕ} (el : l ≡ low_of q) (eb : b ≡ from_bool (ltb 0 (at 8 q))) where
    top_is : b ≡ cond (ltb 0 (at 8 q)) 1 0
    top_is = eb ∙ from_is (ltb 0 (at 8 q))

    pub top_room : l + b * 2147483648 < 2 ^ 32
    top_room = rw (el, top_is) (omega (arith, token_top q, g.fits.token_fits))

    module _ {s : Bool} (es : s ≡ sized_row q) where
      module _ (h : s ≡ true) where
        long_is : head_of q ≡ (l + b * 2147483648) ∷ at 1 q ∷ []
        long_is = rw (token_long q (cc), after_long q (cc), el, top_is)

        pub long_room : (n : ℕ) → n ≡ length out → 4 * (place + 1 + 1) ≤ n
        long_room n e = omega (arith, g.room, ap length long_is)

        pub headed_long : {out₁ out₂ : List ℕ} → out₁ ≡ put (4 * place) (bytes_of ((l + b * 2147483648) ∷ [])) out → out₂ ≡ put (4 * (place + 1)) (bytes_of (at 1 q ∷ [])) out₁ → Headed (head_of q) place out (place + 2) out₂
        headed_long e₁ e₂ = rw long_is (record { next_is = refl; output_is = dwords_more place (place + 1) _ (at 1 q ∷ []) out (omega (arith, long_room _ refl)) refl e₁ e₂ })

      module _ (h : s ≡ false) where
        abbrev t : ℕ
        t = l + b * 2147483648 + at 1 q * 16777216

        short_is : token_of_row q ≡ t
        short_is = rw (token_short q (cc), el, top_is)

        pub short_room : t < 2 ^ 32
        short_room = omega (arith, short_is, g.fits.token_fits)

        module _ {out₁ : List ℕ} (e₁ : out₁ ≡ put (4 * place) (bytes_of (t ∷ [])) out) where
          pub headed_unchained : 3 ≤ at 3 q → Headed (head_of q) place out (place + 1) out₁
          headed_unchained z = rw (short_is, after_unchained q (cc) g.fits.kind_is z) (record { next_is = refl; output_is = e₁ })

          module _ (z : at 3 q < 3) where
            chain_there : head_of q ≡ t ∷ chain_of_row q
            chain_there = rw (short_is, after_chain q (cc) g.fits.kind_is z)

            pub chain_room : length out₁ ≡ length out → (at 8 q < 8) × (at 9 q < 2 ^ 12) × (at 10 q < 2 ^ 31) × (4 * (place + 1 + length (chain_of_row q)) ≤ length out₁)
            chain_room n = (g.fits.bits_fit (cc), g.fits.offsets_fit, g.fits.second_fits, omega (arith, g.room, ap length chain_there))

            pub headed_chain : {end : ℕ} {out₂ : List ℕ} → Headed (chain_of_row q) (place + 1) out₁ end out₂ → Headed (head_of q) place out end out₂
            headed_chain {end} {out₂} k = rw chain_there (headed_more (t ∷ []) (chain_of_row q) place (place + 1) end out out₁ out₂ (omega (arith, g.room)) (record { next_is = refl; output_is = e₁ }) k)

-- ---- a row of kind 1 whose token has only a code and a length
module _ (q : List ℕ) {b : Bool} (d : Bare q b) (hb : b ≡ true) where
  pub bare_read : at 3 q ≡ 0 → ⊥
  bare_read z = absurd (omega (arith, (d.kind_one hb).0))

  module _ (f : Fits q) where
    not_53 : at 2 q ≡ 53 → ⊥
    unfolding layout in_table within numbers
    not_53 z =
        let e : at 3 q ≡ 5 = f.kind_is ∙ ap (λ (c : ℕ). (layout c).kind) z in
        absurd (omega (arith, e, (d.kind_one hb).0))

    pub bare_120 : at 2 q ≡ 120 → ⊥
    unfolding layout in_table within numbers
    bare_120 z =
        let e : at 3 q ≡ 4 = f.kind_is ∙ ap (λ (c : ℕ). (layout c).kind) z in
        absurd (omega (arith, e, (d.kind_one hb).0))

    unsized : sized_row q ≡ false
    unfolding sized_row
    unsized = rw (ne_eqb (at 2 q) 53 not_53, (d.nothing_after hb).1) (never (eqb (at 2 q) 145 || eqb (at 2 q) 146))
      where
        never : (b : Bool) → (b && false) ≡ false
        never true = refl
        never false = refl

    bare_token_lem : at 2 q + at 1 q * 16777216 ≡ token_of_row q
    bare_token_lem =
        let t : top q ≡ 0 = rw (d.nothing_after hb).1 refl in
        omega (arith, token_short q unsized, t, (d.kind_one hb).1, (d.no_flags hb).0, (d.no_flags hb).1, (d.nothing_after hb).0)

    nothing : head_of_row q ≡ []
    unfolding head_of_row chain_of
    nothing = rw (unsized, (d.nothing_after hb).1) (either (chained (layout (at 2 q))))
      where
        either : (b : Bool) → cond {A = List ℕ} b [] [] ≡ []
        either true = refl
        either false = refl

    pub bare_room : at 2 q + at 1 q * 16777216 < 2 ^ 32
    bare_room = omega (arith, bare_token_lem, f.token_fits)

    pub headed_bare : (place : ℕ) (out : List ℕ) {out₁ : List ℕ} → out₁ ≡ put (4 * place) (bytes_of ((at 2 q + at 1 q * 16777216) ∷ [])) out → Headed (head_of q) place out (place + 1) out₁
    headed_bare place out e = rw (← bare_token_lem, nothing) (record { next_is = refl; output_is = e })
