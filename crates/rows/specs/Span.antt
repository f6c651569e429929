-- A span of the word pool: its words and where it starts.
use Rattle.std.specs.Prelude.{ℕ, ◌+◌, List, [], cond, length, take, drop, leb}

-- n words from a on; none where they aren't all in the pool
unfoldable pub span : ℕ → ℕ → List ℕ → List ℕ
span a n words = cond (leb (a + n) (length words)) (take n (drop a words)) []

-- where they start; 0 for the empty part
unfoldable pub span_start : ℕ → ℕ → List ℕ → ℕ
span_start a n words = cond (leb (a + n) (length words)) a 0
