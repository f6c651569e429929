-- Laws of an operand's dword and its extension.
use Prim.Native.Nat.{ℕ, ◌+◌, ◌-◌, ◌*◌, ◌^◌, ◌≤◌}
use mathlib.Core.Path.{◌≡◌, refl, ap, ◌∙◌}
use mathlib.Core.Bool.{cond}
use lib.Dec.{ltb}
use mathlib.Core.List.{List, [], ◌∷◌, ◌++◌}
use native.Mathlib.Omega.{arith}
use lib.ListN.{length, take, drop}
use Rattle.format.specs.Dwords.{bytes_of, bits_from}
use Rattle.format.specs.Operands.{dimension, repr}
use Rattle.format.specs.Encoder.{at, extension_of, operand_dword}
use Rattle.output.specs.Puts.{put, Headed}
use Rattle.output.proofs.Puts.{dwords_more}
use Rattle.operand_emit.specs.Emits.{head_of, words_left, Lone}

module _ (q : List ℕ) (place t : ℕ) (out : List ℕ) (et : t + length (extension_of (at 3 q)) * 2 ^ 31 ≡ operand_dword q) where
  module _ {x : ℕ} (ex : x ∷ [] ≡ extension_of (at 3 q)) where
    dword_is : t + 2147483648 ≡ operand_dword q
    dword_is = omega (arith, et, ap length ex)

    pub headed_two : 4 * (place + length (head_of q)) ≤ length out → {out₁ out₂ : List ℕ} → out₁ ≡ put (4 * place) (bytes_of ((t + 2147483648) ∷ [])) out → out₂ ≡ put (4 * (place + 1)) (bytes_of (x ∷ [])) out₁ →
        Headed (head_of q) place out (place + 2) out₂
    headed_two h e₁ e₂ = rw (← dword_is, ← ex) (record { next_is = refl; output_is = dwords_more place (place + 1) ((t + 2147483648) ∷ []) (x ∷ []) out (omega (arith, ap length ex)) refl e₁ e₂ })

  module _ (m : at 3 q ≡ 0) where
    plain_dword : t ≡ operand_dword q
    unfolding extension_of
    plain_dword = omega (arith, et, ap (λ (j : ℕ). length (extension_of j)) m)

    pub two_put : (x : ℕ) → 4 * (place + 2) ≤ length out → {out₁ out₂ : List ℕ} → out₁ ≡ put (4 * place) (bytes_of (t ∷ [])) out → out₂ ≡ put (4 * (place + 1)) (bytes_of (x ∷ [])) out₁ →
        out₂ ≡ put (4 * place) (bytes_of (operand_dword q ∷ x ∷ [])) out
    two_put x h e₁ e₂ = rw (← plain_dword) (dwords_more place (place + 1) (t ∷ []) (x ∷ []) out (omega arith) refl e₁ e₂)

-- bit 31 is no part of a representation
same_dimension : (t n : ℕ) → dimension t ≡ dimension (t + n * 2 ^ 31)
same_dimension t n = omega arith

module _ (t n : ℕ) {d : ℕ} (e : t + n * 2 ^ 31 ≡ d) where
  same_at : (k : ℕ) → bits_from (22 + 3 * k) 3 t ≡ bits_from (22 + 3 * k) 3 (t + n * 2 ^ 31) → repr k t ≡ repr k d
  unfolding repr
  same_at k h = (λ i. cond (ltb k (same_dimension t n i)) (h i) 8) ∙ ap (repr k) e

  pub same_first : repr 0 t ≡ repr 0 d
  same_first = same_at 0 (omega arith)

  pub same_second : repr 1 t ≡ repr 1 d
  same_second = same_at 1 (omega arith)

  pub same_third : repr 2 t ≡ repr 2 d
  same_third = same_at 2 (omega arith)

-- ---- a head, and the words behind it
module _ (q ws : List ℕ) (word place : ℕ) (out : List ℕ) (g : Lone q (length ws) word place (length out)) where
  pub head_room : 4 * (place + length (head_of q)) ≤ length out
  head_room = omega (arith, g.head_fits, g.room)

  module _ {next : ℕ} {out₁ : List ℕ} (hd : Headed (head_of q) place out next out₁) where
    pub head_within : next ≤ place + at 15 q
    head_within = omega (arith, hd.next_is, g.head_fits)

    left_is : place + at 15 q - next ≡ words_left q
    left_is = omega (arith, hd.next_is, g.head_fits)

    pub words_room : (n : ℕ) → n ≡ length out → (place + at 15 q - next ≤ length ws - word) × (4 * (next + (place + at 15 q - next)) ≤ n)
    words_room n en = (omega (arith, left_is, g.words_there), omega (arith, head_within, g.room))

    pub lone_put : {out₂ : List ℕ} → out₂ ≡ put (4 * next) (bytes_of (take (place + at 15 q - next) (drop word ws))) out₁ →
        out₂ ≡ put (4 * place) (bytes_of (head_of q ++ take (words_left q) (drop word ws))) out
    lone_put e = dwords_more place next (head_of q) (take (words_left q) (drop word ws)) out head_room hd.next_is hd.output_is (rw left_is at e)
