-- Laws of dwords that are put into a list, as bytes.
use Prim.Native.Nat.{ℕ, suc, ◌+◌, ◌-◌, ◌*◌, ◌/◌, ◌%◌, ◌^◌, ◌<◌, ◌≤◌}
use mathlib.Core.Path.{◌≡◌, refl, sym, ap, ◌∙◌}
use mathlib.Core.List.{List, [], ◌∷◌, ◌++◌, append_assoc, append-nil}
use native.Mathlib.Nat.{add-zero}
use native.Mathlib.Omega.{arith}
use lib.ListN.{length, take, drop, get_or, set, length-append, length-drop, take-append-drop}
use lib.Seq.{take_at, drop_at, drop-drop, length-take-le, take-add, get_or-drop, drop-cons, sets-eq}
use Rattle.std.proofs.lemmas.List.{take_more}
use Rattle.format.specs.Dwords.{bytes_of}
use Rattle.format.proofs.Dwords.{length_bytes}
use Rattle.output.specs.Puts.{put, Headed}

-- ---- the bytes of dwords
pub bytes_append : (k l : List ℕ) → bytes_of (k ++ l) ≡ bytes_of k ++ bytes_of l
unfolding bytes_of
bytes_append [] l = refl
bytes_append (x ∷ k) l = ap (λ (r : List ℕ). x % 2 ^ 8 ∷ x / 2 ^ 8 % 2 ^ 8 ∷ x / 2 ^ 16 % 2 ^ 8 ∷ x / 2 ^ 24 % 2 ^ 8 ∷ r) (bytes_append k l)

-- ---- bytes that are put
put_none : (p : ℕ) (out : List ℕ) → put p [] out ≡ out
unfolding put
put_none p out = rw (append-nil (take p out), add-zero p) (take-append-drop p out)

pub put_length : (p : ℕ) (b out : List ℕ) → p + length b ≤ length out → length (put p b out) ≡ length out
unfolding put
put_length p b out h =
    length-append (take p out ++ b) (drop (p + length b) out)
    ∙ omega (arith, length-append (take p out) b, length-take-le p out (omega arith), length-drop (p + length b) out)

-- one behind the other
pub put_more : (p : ℕ) (a b out : List ℕ) → p + length a ≤ length out → put (p + length a) b (put p a out) ≡ put p (a ++ b) out
unfolding put
put_more p a b out h =
    let q : ℕ = p + length a in
    let len : length (take p out ++ a) ≡ q = length-append (take p out) a ∙ ap (λ (n : ℕ). n + length a) (length-take-le p out (omega arith)) in
    let front : take q (take p out ++ a ++ drop q out) ≡ take p out ++ a = take_at (take p out ++ a) (drop q out) q len in
    let tail : drop q (take p out ++ a ++ drop q out) ≡ drop q out = drop_at (take p out ++ a) (drop q out) q len in
    let sum : q + length b ≡ p + length (a ++ b) = omega (arith, length-append a b) in
    let rest : drop (q + length b) (take p out ++ a ++ drop q out) ≡ drop (p + length (a ++ b)) out =
    sym (drop-drop (length b) q _) ∙ ap (drop (length b)) tail ∙ drop-drop (length b) q out ∙ ap (λ (n : ℕ). drop n out) sum in
    rw (front, rest, append_assoc (take p out) a b)

-- ---- dwords that are put from a dword on
pub dwords_length : (at : ℕ) (l out : List ℕ) → 4 * (at + length l) ≤ length out → length (put (4 * at) (bytes_of l) out) ≡ length out
dwords_length at l out h = put_length (4 * at) (bytes_of l) out (omega (arith, length_bytes l))

pub dwords_none : (at : ℕ) (out : List ℕ) → out ≡ put (4 * at) (bytes_of []) out
unfolding bytes_of
dwords_none at out = sym (put_none (4 * at) out)

pub headed_none : (at : ℕ) (out : List ℕ) → Headed [] at out at out
headed_none at out = record { next_is = sym (add-zero at); output_is = dwords_none at out }

pub dwords_more : (at next : ℕ) (k l out : List ℕ) → 4 * (at + length k) ≤ length out → next ≡ at + length k → {out₁ out₂ : List ℕ} →
    out₁ ≡ put (4 * at) (bytes_of k) out → out₂ ≡ put (4 * next) (bytes_of l) out₁ → out₂ ≡ put (4 * at) (bytes_of (k ++ l)) out
dwords_more at next k l out h en {out₁} {out₂} e₁ e₂ =
    let p : 4 * next ≡ 4 * at + length (bytes_of k) = omega (arith, length_bytes k) in
    e₂ ∙ (λ i. put (p i) (bytes_of l) (e₁ i)) ∙ put_more (4 * at) (bytes_of k) (bytes_of l) out (omega (arith, length_bytes k)) ∙ ap (λ (b : List ℕ). put (4 * at) b out) (sym (bytes_append k l))

-- one more of some words
pub words_more : (at : ℕ) (ws : List ℕ) (word i n : ℕ) (out : List ℕ) → n ≤ length ws - word → 4 * (at + n) ≤ length out → i < n → {out₁ out₂ : List ℕ} →
    out₁ ≡ put (4 * at) (bytes_of (take i (drop word ws))) out → out₂ ≡ put (4 * (at + i)) (bytes_of (get_or ws (word + i) 0 ∷ [])) out₁ → out₂ ≡ put (4 * at) (bytes_of (take (i + 1) (drop word ws))) out
words_more at ws word i n out h room l {out₁} {out₂} e₁ e₂ =
    let k : length (take i (drop word ws)) ≡ i = length-take-le i (drop word ws) (omega (arith, length-drop word ws)) in
    rw (take_more (drop word ws) i 0 (omega (arith, length-drop word ws)), get_or-drop word ws i 0) (dwords_more at (at + i) (take i (drop word ws)) (get_or ws (word + i) 0 ∷ []) out (omega arith) (omega arith) e₁ e₂)

pub words_two : (at : ℕ) (ws : List ℕ) (word n : ℕ) (out : List ℕ) → n ≡ 2 → n ≤ length ws - word → 4 * (at + n) ≤ length out → {out₁ out₂ : List ℕ} →
    out₁ ≡ put (4 * at) (bytes_of (get_or ws word 0 ∷ [])) out → out₂ ≡ put (4 * (at + 1)) (bytes_of (get_or ws (word + 1) 0 ∷ [])) out₁ → out₂ ≡ put (4 * at) (bytes_of (take n (drop word ws))) out
words_two at ws word n out en h room {out₁} {out₂} e₁ e₂ =
    let one : out₁ ≡ put (4 * at) (bytes_of (take 1 (drop word ws))) out = rw (drop-cons ws word 0 (omega arith)) e₁ in
    rw en (words_more at ws word 1 n out h room (omega arith) one e₂)

-- two words, and the others behind them
pub words_behind : (at : ℕ) (ws : List ℕ) (word n : ℕ) (out : List ℕ) → (n ≡ 0 → ⊥) → (n ≡ 1 → ⊥) → n ≤ length ws - word → 4 * (at + n) ≤ length out → {out₁ out₂ out₃ : List ℕ} →
    out₁ ≡ put (4 * at) (bytes_of (get_or ws word 0 ∷ [])) out → out₂ ≡ put (4 * (at + 1)) (bytes_of (get_or ws (word + 1) 0 ∷ [])) out₁ →
    out₃ ≡ put (4 * (at + 2)) (bytes_of (take (n - 2) (drop (word + 2) ws))) out₂ → out₃ ≡ put (4 * at) (bytes_of (take n (drop word ws))) out
words_behind at ws word n out h₀ h₁ h room {out₁} {out₂} {out₃} e₁ e₂ e₃ =
    let l : 2 ≤ n = omega (arith, h₀, h₁) in
    let two : out₂ ≡ put (4 * at) (bytes_of (take 2 (drop word ws))) out = words_two at ws word 2 out refl (omega arith) (omega arith) e₁ e₂ in
    let t : length (take 2 (drop word ws)) ≡ 2 = length-take-le 2 (drop word ws) (omega (arith, length-drop word ws)) in
    let sum : 2 + (n - 2) ≡ n = omega arith in
    let z : take 2 (drop word ws) ++ take (n - 2) (drop (word + 2) ws) ≡ take n (drop word ws) =
    ap (λ (k : List ℕ). take 2 (drop word ws) ++ take (n - 2) k) (sym (drop-drop 2 word ws)) ∙ sym (take-add 2 (n - 2) (drop word ws)) ∙ ap (λ (j : ℕ). take j (drop word ws)) sum in
    rw z at (dwords_more at (at + 2) (take 2 (drop word ws)) (take (n - 2) (drop (word + 2) ws)) out (omega arith) (omega arith) two e₃)

-- four stores are a dword
pub stored : (out : List ℕ) (at x : ℕ) → 4 * (at + 1) ≤ length out →
    set (set (set (set out (4 * at) (x % 256)) (4 * at + 1) (x / 256 % 256)) (4 * at + 2) (x / 65536 % 256)) (4 * at + 3) (x / 16777216 % 256) ≡ put (4 * at) (bytes_of (x ∷ [])) out
unfolding bytes_of put
stored out at x h =
    let a : ℕ = 4 * at in
    let e₁ : a + 1 ≡ suc a = omega arith in
    let e₂ : a + 2 ≡ suc (suc a) = omega arith in
    let e₃ : a + 3 ≡ suc (suc (suc a)) = omega arith in
    (λ i. set (set (set (set out a (x % 256)) (e₁ i) (x / 256 % 256)) (e₂ i) (x / 65536 % 256)) (e₃ i) (x / 16777216 % 256))
    ∙ sets-eq (x % 256 ∷ x / 256 % 256 ∷ x / 65536 % 256 ∷ x / 16777216 % 256 ∷ []) out a (omega arith)
