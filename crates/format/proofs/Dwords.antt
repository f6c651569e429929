-- Laws of dwords and readers: what is read, with what is left, makes up the dwords.
use Prim.Native.Nat.{ℕ, zero, suc, ◌+◌, ◌*◌, ◌/◌, ◌%◌, ◌^◌, ◌<◌}
use mathlib.Core.Path.{◌≡◌, refl, sym, ap}
use mathlib.Core.List.{List, [], ◌∷◌, ◌++◌}
use mathlib.Core.Bool.{Bool, true, false, cond, ◌&&◌}
use lib.ListN.{length, get_or}
use lib.Pow.{shr-shr}
use native.Mathlib.Nat.{mod-add-div}
use native.Mathlib.Omega.{arith}
use Rattle.format.specs.Dwords.{bits_from, Bytes, dword_of, dwords_of, bytes_of, follows, Got, malformed, got, Reader, then, dword, some, none_left, chain}

pub impossible : {A : Type 0} → ◌≡◌ {A = ℕ} 0 1 → A
impossible z = let f : ⊥ = omega arith in absurd f

pub both : (a b : Bool) → (a && b) ≡ true → (a ≡ true) × (b ≡ true)
both true b e = (refl, e)
both false b e = impossible (cc)

-- bytes are those of their dwords
pub bytes_dwords : (l : List ℕ) → Bytes l → length l % 4 ≡ 0 → bytes_of (dwords_of l) ≡ l
unfolding bytes_of dwords_of
bytes_dwords [] b h = refl
bytes_dwords (x ∷ []) b h = impossible (omega arith)
bytes_dwords (x ∷ y ∷ []) b h = impossible (omega arith)
bytes_dwords (x ∷ y ∷ z ∷ []) b h = impossible (omega arith)
bytes_dwords (x ∷ y ∷ z ∷ w ∷ l) b h =
    let hx : x < 256 = b 0 (omega arith) in
    let hy : y < 256 = b 1 (omega arith) in
    let hz : z < 256 = b 2 (omega arith) in
    let hw : w < 256 = b 3 (omega arith) in
    let ex : dword_of x y z w % 2 ^ 8 ≡ x = omega arith in
    let qy : dword_of x y z w / 2 ^ 8 ≡ y + z * 256 + w * 65536 = omega arith in
    let qz : dword_of x y z w / 2 ^ 16 ≡ z + w * 256 = omega arith in
    let qw : dword_of x y z w / 2 ^ 24 ≡ w = omega arith in
    let ey : (y + z * 256 + w * 65536) % 2 ^ 8 ≡ y = omega arith in
    let ez : (z + w * 256) % 2 ^ 8 ≡ z = omega arith in
    let ew : w % 2 ^ 8 ≡ w = omega arith in
    rw (ex, qy, qz, qw, ey, ez, ew) (ap (λ (k : List ℕ). x ∷ y ∷ z ∷ w ∷ k) (bytes_dwords l (λ i g. b (suc (suc (suc (suc i)))) (omega arith)) (omega arith)))

pub length_dwords : (l : List ℕ) → length (dwords_of l) ≡ length l / 4
unfolding dwords_of
length_dwords [] = refl
length_dwords (a ∷ []) = refl
length_dwords (a ∷ b ∷ []) = refl
length_dwords (a ∷ b ∷ c ∷ []) = refl
length_dwords (a ∷ b ∷ c ∷ d ∷ l) = omega (arith, length_dwords l)

pub length_bytes : (l : List ℕ) → length (bytes_of l) ≡ 4 * length l
unfolding bytes_of
length_bytes [] = refl
length_bytes (t ∷ l) = omega (arith, length_bytes l)

-- whatever is read has a property
pub data All {A : Type 0} (P : A → List ℕ → Type 0) : Got A → Type 0 where
  unmet : All P malformed
  met : {a : A} {r : List ℕ} → P a r → All P (got a r)

pub all_then : {A B : Type 0} {P : A → List ℕ → Type 0} {Q : B → List ℕ → Type 0} {g : Got A} {f : A → Reader B} → All P g → ((a : A) (r : List ℕ) → P a r → All Q (f a r)) → All Q (then g f)
all_then unmet k = unmet
all_then (met {a = a} {r = r} x) k = k a r x

pub all_if : {A : Type 0} {Q : A → List ℕ → Type 0} (b : Bool) (p q : Reader A) (ds : List ℕ) → (b ≡ true → All Q (p ds)) → (b ≡ false → All Q (q ds)) → All Q (cond b p q ds)
all_if true p q ds x y = x refl
all_if false p q ds x y = y refl

pub all_weaken : {A : Type 0} {P Q : A → List ℕ → Type 0} {g : Got A} → ((a : A) (r : List ℕ) → P a r → Q a r) → All P g → All Q g
all_weaken k unmet = unmet
all_weaken k (met {a = a} {r = r} x) = met (k a r x)

pub all_both : {A : Type 0} {P Q : A → List ℕ → Type 0} {g : Got A} → All P g → All Q g → All (λ a r. P a r × Q a r) g
all_both unmet unmet = unmet
all_both (met p) (met q) = met (p, q)

-- with what is left, it makes up the dwords
abbrev pub Makes : {A : Type 0} → (A → List ℕ) → List ℕ → Got A → Type 0
Makes f ds g = All (λ a r. f a ++ r ≡ ds) g

pub makes_dword : (ds : List ℕ) → Makes (λ x. x ∷ []) ds (dword ds)
unfolding dword
makes_dword [] = unmet
makes_dword (x ∷ ds) = met refl

-- n dwords, taken off the front
pub some_length : (n : ℕ) (ds : List ℕ) → All (λ x r. (x ++ r ≡ ds) × (length x ≡ n)) (some n ds)
unfolding some
some_length zero ds = met (refl, refl)
some_length (suc n) [] = unmet
some_length (suc n) (x ∷ ds) = all_then (some_length n ds) (λ l r e. met (ap (λ (k : List ℕ). x ∷ k) e.0, ap suc e.1))

pub none_left_lem : {A : Type 0} (a : A) (ds : List ℕ) → All (λ b r. (b ≡ a) × (ds ≡ [])) (none_left a ds)
unfolding none_left
none_left_lem a [] = met (refl, refl)
none_left_lem a (x ∷ ds) = unmet

-- a chain, each of whose dwords says whether another follows
pub data Linked : Bool → List ℕ → Type 0 where
  end : Linked false []
  link : {x : ℕ} {l : List ℕ} → Linked (follows x) l → Linked true (x ∷ l)

pub chain_linked : (b : Bool) (ds : List ℕ) → All (λ e r. (e ++ r ≡ ds) × Linked b e) (chain b ds)
unfolding chain
chain_linked false [] = met (refl, end)
chain_linked false (x ∷ ds) = met (refl, end)
chain_linked true [] = unmet
chain_linked true (x ∷ ds) = all_then (chain_linked (follows x) ds) (λ l r e. met (ap (λ (k : List ℕ). x ∷ k) e.0, link e.1))

-- the bits of a number from a on: n of them, and those above
pub bits_above : (t a n : ℕ) → t / 2 ^ a ≡ bits_from a n t + 2 ^ n * (t / 2 ^ (a + n))
bits_above t a n = sym (rw (shr-shr t a n) at (mod-add-div (t / 2 ^ a) (2 ^ n)))

-- dwords of 32 bits are those of their bytes
dword_sum : (t a b c d x y z n : ℕ) → a + 2 ^ 8 * x ≡ t → x ≡ b + 2 ^ 8 * y → y ≡ c + 2 ^ 8 * z → z ≡ d + 2 ^ 8 * n → n ≡ 0 → dword_of a b c d ≡ t
dword_sum t a b c d x y z n ex ey ez en h = omega arith

dword_bytes : (t : ℕ) → t < 2 ^ 32 → dword_of (t % 2 ^ 8) (t / 2 ^ 8 % 2 ^ 8) (t / 2 ^ 16 % 2 ^ 8) (t / 2 ^ 24 % 2 ^ 8) ≡ t
dword_bytes t h = dword_sum t _ _ _ _ (t / 2 ^ 8) (t / 2 ^ 16) (t / 2 ^ 24) (t / 2 ^ 32) (mod-add-div t (2 ^ 8)) (bits_above t 8 8) (bits_above t 16 8) (bits_above t 24 8) (omega arith)

pub dwords_bytes : (l : List ℕ) → ((i : ℕ) → i < length l → get_or l i 0 < 2 ^ 32) → dwords_of (bytes_of l) ≡ l
unfolding bytes_of dwords_of
dwords_bytes [] f = refl
dwords_bytes (t ∷ l) f = rw (dword_bytes t (f 0 (omega arith)), dwords_bytes l (λ i h. f (suc i) (omega arith)))
