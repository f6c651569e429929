-- Where items that are dwords as they are end, in dwords that bytes hold or words are; or that they do not fit.
use Rattle.std.specs.Prelude.{ℕ, ◌+◌, ◌-◌, ◌%◌, ◌^◌, List, Bool, cond, ◌&&◌, length, get_or, eqb, ltb, leb, Option, Some, None, option_and_then}
use Rattle.layouts.specs.declared.Shape.{Shape}

-- k dwords on from a place among n, if there are so many
abbrev pub dwords_on : ℕ → ℕ → ℕ → Option ℕ
dwords_on n at k = cond (leb k (n - at)) (Some (at + k)) None

-- past a dword under 65,536, if there is to be one
abbrev pub small_on : ℕ → List ℕ → ℕ → Option ℕ
small_on k ds at = cond (eqb k 0) (Some at) (cond (ltb at (length ds) && ltb (get_or ds at 0) 65_536) (Some (at + 1)) None)

-- past a list whose length stands in so many bits of its first dword, if there is to be one
abbrev pub list_on : ℕ → List ℕ → ℕ → Option ℕ
list_on bits ds at = cond (eqb bits 0) (Some at) (cond (ltb at (length ds)) (dwords_on (length ds) (at + 1) (get_or ds at 0 % 2 ^ bits)) None)

-- to the end, if there is a tail
abbrev pub tail_on : Bool → ℕ → ℕ → ℕ
tail_on tail n at = cond tail n at

infixl 10 ◌>>=◌
abbrev pub ◌>>=◌ : {A B : Type 0} → Option A → (A → Option B) → Option B
o >>= f = option_and_then f o

-- past the items of a shape behind its operands
unfoldable pub rest_on : Bool → Shape → List ℕ → ℕ → Option ℕ
rest_on model51 x ds at = do
  a ← small_on x.small ds at
  b ← dwords_on (length ds) a (x.after + cond model51 x.extra 0)
  c ← list_on x.list ds b
  Some (tail_on x.tail (length ds) c)
