-- Laws of a guess and of its row's numbers.
use Prim.Native.Nat.{ℕ, zero, suc, ◌+◌, ◌*◌, ◌/◌, ◌%◌, ◌^◌, ◌<◌, ◌≤◌}
use mathlib.Core.Path.{◌≡◌, refl, ap, ◌∙◌}
use mathlib.Core.Bool.{Bool, true, false, and-false}
use mathlib.Core.List.{List, [], ◌∷◌}
use native.Mathlib.Omega.{arith}
use lib.ListN.{length, get_or, take, drop}
use lib.Seq.{get_or-take, get_or-drop, drop-drop}
use lib.Dec.{ltb}
use borrow.Author.Tests.{eqb-true}
use Rattle.std.proofs.Common.{None}
use Rattle.format.specs.Dwords.{bits_from, bits}
use Rattle.format.specs.Operands as op
use Rattle.format.specs.Encoder.{extension_of}
use Rattle.format.proofs.Dwords.{both}
use Rattle.tokens.proofs.Fields.{reprs_small}
use Rattle.operand_deep.specs.Walks.{guessed}
use Rattle.operand_deep.specs.Walks as w
use Rattle.std.specs.Simd.{first_chunks}
use native.Mathlib.Nat.{mul-zero}

-- ---- an extension
pub extension_none : (m : ℕ) → m ≡ 0 → [] ≡ extension_of m
unfolding extension_of
extension_none m h = rw h

pub extension_some : (m : ℕ) → (m ≡ 0 → ⊥) → op.extension_with (m % 4) (m / 16) (m / 4 % 2) ∷ [] ≡ extension_of m
unfolding extension_of
extension_some zero h = absurd (h refl)
extension_some (suc m) h = refl

-- ---- what is exact is a dword
selection_small : (f t : ℕ) → bits_from 4 (get_or (0 ∷ 0 ∷ 4 ∷ 8 ∷ 2 ∷ []) f 0) t < 256
selection_small zero t = omega arith
selection_small (suc zero) t = omega arith
selection_small (suc (suc zero)) t = omega arith
selection_small (suc (suc (suc zero))) t = omega arith
selection_small (suc (suc (suc (suc zero)))) t = omega arith
selection_small (suc (suc (suc (suc (suc f))))) t = omega arith

low_small : (f : ℕ) → get_or (0 ∷ 1 ∷ 2 ∷ 6 ∷ 10 ∷ []) f 0 < 16
low_small zero = omega arith
low_small (suc zero) = omega arith
low_small (suc (suc zero)) = omega arith
low_small (suc (suc (suc zero))) = omega arith
low_small (suc (suc (suc (suc zero)))) = omega arith
low_small (suc (suc (suc (suc (suc f))))) = omega arith

pub exact_below : (t : ℕ) → op.exact_dword t ≡ true → t < 2 ^ 32
unfolding op.exact_dword op.selection
exact_below t x =
    let y : t ≡ op.dword_with (op.form t) (op.selection t) (op.type_of t) (op.dimension t) (op.reprs t) (bits 31 31 t) = eqb-true t _ x in
    omega (arith, y, selection_small (op.form t) t, low_small (op.form t), reprs_small t)

pub extension_below : (x : ℕ) → op.exact_extension (x ∷ []) ≡ true → x < 2 ^ 32
unfolding op.exact_extension
extension_below x h =
    let b = both (ltb 0 (op.modifiers (x ∷ []))) _ h in
    let z = eqb-true x _ b.1 in
    omega arith

-- ---- a guess of numbers that are too large for a dword
false_of : (b : Bool) → (b ≡ true → ⊥) → b ≡ false
false_of true h = absurd (h refl)
false_of false h = refl

pub no_token : (t : ℕ) (e : List ℕ) → 2 ^ 32 ≤ t → None ≡ guessed t e
unfolding guessed
no_token t e h = rw (false_of (op.exact_dword t) (λ z. let l = exact_below t z in omega arith))

pub no_extension : (t x : ℕ) → 2 ^ 32 ≤ x → None ≡ guessed t (x ∷ [])
unfolding guessed
no_extension t x h = rw (false_of (op.exact_extension (x ∷ [])) (λ z. let l = extension_below x z in omega arith), and-false (op.exact_dword t))

-- the numbers of a row in its pool
pub row_at : (rs : List ℕ) (o i : ℕ) → i < 16 → get_or (take 16 (drop o rs)) i 0 ≡ get_or rs (o + i) 0
row_at rs o i h = get_or-take 16 (drop o rs) i 0 h ∙ get_or-drop o rs i 0

chunk_at : (n k : ℕ) (xs : List ℕ) (i : ℕ) (d : List ℕ) → i < k → get_or (first_chunks n k xs) i d ≡ take n (drop (n * i) xs)
chunk_at n zero xs i d h = absurd (let f : ⊥ = omega arith in f)
chunk_at n (suc k) xs zero d h = rw mul-zero
chunk_at n (suc k) xs (suc i) d h = let e : n + n * i ≡ n * suc i = omega arith in chunk_at n k (drop n xs) i d (omega arith) ∙ ap (take n) (drop-drop (n * i) n xs ∙ ap (λ (j : ℕ). drop j xs) e)

-- row r, as the code finds it
pub its_row : (rs : List ℕ) (r : ℕ) {rows : List (List ℕ)} {q : List ℕ} → rows ≡ first_chunks 16 (length rs / 16) rs → r < length rs / 16 → q ≡ get_or rows r [] → q ≡ w.row_at r rs
its_row rs r e h f = f ∙ ap (λ (l : List (List ℕ)). get_or l r []) e ∙ chunk_at 16 (length rs / 16) rs r [] h
