-- Dwords, little-endian; their bits; readers that take dwords off the front.
use Rattle.std.specs.Prelude.{ℕ, zero, suc, ◌+◌, ◌*◌, ◌-◌, ◌/◌, ◌%◌, ◌^◌, ◌<◌, List, [], ◌∷◌, Bool, true, false, length, get_or, eqb}

-- each is a byte
abbrev pub Bytes : List ℕ → Type 0
Bytes l = (i : ℕ) → i < length l → get_or l i 0 < 2 ^ 8

-- four bytes, the lowest first
abbrev pub dword_of : ℕ → ℕ → ℕ → ℕ → ℕ
dword_of a b c d = a + b * 2 ^ 8 + c * 2 ^ 16 + d * 2 ^ 24

-- the dwords of a run of bytes
unfoldable pub dwords_of : List ℕ → List ℕ
dwords_of [] = []
dwords_of (a ∷ []) = []
dwords_of (a ∷ b ∷ []) = []
dwords_of (a ∷ b ∷ c ∷ []) = []
dwords_of (a ∷ b ∷ c ∷ d ∷ l) = dword_of a b c d ∷ dwords_of l

-- the bytes of a run of dwords
unfoldable pub bytes_of : List ℕ → List ℕ
bytes_of [] = []
bytes_of (t ∷ l) = t % 2 ^ 8 ∷ t / 2 ^ 8 % 2 ^ 8 ∷ t / 2 ^ 16 % 2 ^ 8 ∷ t / 2 ^ 24 % 2 ^ 8 ∷ bytes_of l

-- n bits of a dword, from bit a on
abbrev pub bits_from : ℕ → ℕ → ℕ → ℕ
bits_from a n t = t / 2 ^ a % 2 ^ n

-- bits a to b of a dword, which the paper writes a-b
abbrev pub bits : ℕ → ℕ → ℕ → ℕ
bits a b t = bits_from a (b + 1 - a) t

-- bit 31: another dword follows
unfoldable pub follows : ℕ → Bool
follows t = eqb (bits 31 31 t) 1

-- what was read and the dwords after it; or it was short or malformed
pub data Got (A : Type 0) : Type 0 where
  malformed : Got A
  got : A → List ℕ → Got A

abbrev pub Reader : Type 0 → Type 0
Reader A = List ℕ → Got A

abbrev pub then : {A B : Type 0} → Got A → (A → Reader B) → Got B
then malformed f = malformed
then (got a r) f = f a r

abbrev pub ◌>>=◌ : {A B : Type 0} → Reader A → (A → Reader B) → Reader B
◌>>=◌ p f ds = then (p ds) f

abbrev pub give : {A : Type 0} → A → Reader A
give a ds = got a ds

abbrev pub fail : {A : Type 0} → Reader A
fail ds = malformed

-- one dword
unfoldable pub dword : Reader ℕ
dword [] = malformed
dword (x ∷ ds) = got x ds

-- n dwords
unfoldable pub some : ℕ → Reader (List ℕ)
some zero ds = got [] ds
some (suc n) [] = malformed
some (suc n) (x ∷ ds) = then (some n ds) (λ l. give (x ∷ l))

-- none is left
unfoldable pub none_left : {A : Type 0} → A → Reader A
none_left a [] = got a []
none_left a (x ∷ ds) = malformed

-- a chain of extension dwords, if there is one, each saying whether another follows
unfoldable pub chain : Bool → Reader (List ℕ)
chain false [] = got [] []
chain false (x ∷ ds) = got [] (x ∷ ds)
chain true [] = malformed
chain true (x ∷ ds) = then (chain (follows x) ds) (λ l. give (x ∷ l))
