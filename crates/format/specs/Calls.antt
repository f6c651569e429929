-- "Rows", its last paragraph: what a caller gets who asks for a row's words, what it shows, its u, v, w.
use Rattle.std.specs.Prelude.{ℕ, ◌+◌, ◌*◌, ◌%◌, List, [], ◌∷◌, Bool, cond, ◌&&◌, length, get_or, take, drop, eqb, ltb, leb, ℤ, pos, ◌-ℤ◌}
use Rattle.std.specs.Float.{binary32}
use Rattle.std.specs.Float.Ieee.{of_bits}
use Rattle.format.specs.declared.Shown.{Shown}
use Rattle.format.specs.declared.Shown.TheVariants.{Factor, Count, Nothing}
use Rattle.format.specs.declared.Offsets.{Offsets}
use Rattle.format.specs.Dwords.{bits_from}
use Rattle.format.specs.Counts.{within}
use Rattle.format.specs.Declarations.{one_dword}

-- word k of a row
abbrev pub cell : ℕ → ℕ → List ℕ → ℕ
cell row k pool = get_or pool (16 * row + k) 0

-- the row number is under the count, and its row inside the pool
unfoldable pub reached : ℕ → ℕ → List ℕ → Bool
reached row count pool = ltb row count && leb (16 * row + 16) (length pool)

-- and its span inside the word pool
unfoldable pub spanned : ℕ → ℕ → List ℕ → List ℕ → Bool
spanned row count pool words = reached row count pool && leb (cell row 14 pool + cell row 15 pool) (length words)

-- the part of the word pool that holds a row's words, or an empty part
unfoldable pub part_of : ℕ → ℕ → List ℕ → List ℕ → List ℕ
part_of row count pool words = cond (spanned row count pool words) (take (cell row 15 pool) (drop (cell row 14 pool) words)) []

-- where that part starts; the empty part of no row starts at 0
unfoldable pub part_start : ℕ → ℕ → List ℕ → List ℕ → ℕ
part_start row count pool words = cond (spanned row count pool words) (cell row 14 pool) 0

-- the factor of 152, with the dword's own bits; other kind 4 codes of one d and no o show a count
unfoldable pub shown_for : ℕ → ℕ → ℕ → Shown
shown_for kind code x = cond (eqb kind 4 && within code one_dword) (cond (eqb code 152) (Factor (of_bits binary32 x)) (Count x)) Nothing

-- nothing where the part isn't one dword
unfoldable pub shown_in : ℕ → ℕ → List ℕ → Shown
shown_in kind code [] = Nothing
shown_in kind code (x ∷ []) = shown_for kind code x
shown_in kind code (x ∷ y ∷ l) = Nothing

unfoldable pub shows : ℕ → ℕ → List ℕ → List ℕ → Shown
shows row count pool words = shown_in (cell row 3 pool) (cell row 2 pool) (part_of row count pool words)

-- four bits as a signed number, from -8 to 7
unfoldable pub signed : ℕ → ℤ
signed n = cond (ltb n 8) (pos n) (pos n -ℤ pos 16)

-- nibble k of word 9; 0 without extension bit 1, for a row number at or past the count or a row outside its pool
unfoldable pub offset : ℕ → ℕ → ℕ → List ℕ → ℤ
offset k row count pool = cond (reached row count pool && eqb (cell row 8 pool % 2) 1) (signed (bits_from (4 * k) 4 (cell row 9 pool))) (pos 0)

unfoldable pub offsets : ℕ → ℕ → List ℕ → Offsets
offsets row count pool = record { u = offset 0 row count pool; v = offset 1 row count pool; w = offset 2 row count pool }
