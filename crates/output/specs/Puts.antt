-- Dwords that stand in an output, as bytes.
use Rattle.std.specs.Prelude.{ℕ, ◌+◌, ◌*◌, ◌≡◌, List, ◌++◌, length, take, drop}
use Rattle.format.specs.Dwords.{bytes_of}

-- bytes in a list from a place on, over what was there
unfoldable pub put : ℕ → List ℕ → List ℕ → List ℕ
put p b out = take p out ++ b ++ drop (p + length b) out

-- dwords stand there, and the next place is behind them
pub record Headed (l : List ℕ) (place : ℕ) (out : List ℕ) (next : ℕ) (out' : List ℕ) : Type 0 where
  pub next_is : next ≡ place + length l
  pub output_is : out' ≡ put (4 * place) (bytes_of l) out
