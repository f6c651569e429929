-- "Framing": where each instruction ends, in every edition alike; and the codes that an edition knows.
use Rattle.std.specs.Prelude.{ℕ, zero, suc, ◌%◌, ◌^◌, List, [], ◌∷◌, Bool, cond, ◌&&◌, ◌||◌, get_or, eqb}
use Rattle.format.specs.Dwords.{bits, follows, Got, malformed, got, some}

-- code: token bits 0-10
abbrev pub code : ℕ → ℕ
code t = t % 2 ^ 11

-- the code of an instruction's dwords
unfoldable pub code_of : List ℕ → ℕ
code_of ds = code (get_or ds 0 0)

-- the long form of 145 and 146: bit 31 set
unfoldable pub long : ℕ → Bool
long t = (eqb (code t) 145 || eqb (code t) 146) && follows t

-- code 53 always, and 145 and 146 with bit 31 set, take the length from the next dword
unfoldable pub sized : ℕ → Bool
sized t = eqb (code t) 53 || long t

-- length in dwords: bits 24-30, or the next dword; no next dword counts as zero length
unfoldable pub length_of : ℕ → List ℕ → ℕ
length_of t next = cond (sized t) (get_or next 0 0) (bits 24 30 t)

-- instructions, each with its dwords, up to the chunk's end, to one of zero length or to one that passes the end
pub data Framed : Type 0 where
  whole zero_length past_end : Framed
  instruction : List ℕ → Framed → Framed

-- an instruction of n dwords, and those after it
abbrev pub cut : ℕ → Got (List ℕ) → (List ℕ → Framed) → Framed
cut zero g f = zero_length
cut (suc n) malformed f = past_end
cut (suc n) (got i l) f = instruction i (f l)

-- a payload; each instruction has a dword, so as many steps as dwords are enough
unfoldable pub frame : ℕ → List ℕ → Framed
frame zero ds = whole
frame (suc k) [] = whole
frame (suc k) (t ∷ ds) = cut (length_of t ds) (some (length_of t ds) (t ∷ ds)) (λ l. frame k l)

-- editions 0, 1, 2, 3 know codes below 107, 112, 210, 2048
unfoldable pub ceiling : ℕ → ℕ
ceiling e = get_or (107 ∷ 112 ∷ 210 ∷ 2048 ∷ []) e 0
