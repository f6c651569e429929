-- What encoding rows and words answers, and what it leaves in the output.
use Rattle.std.specs.Prelude.{ℕ, ◌≡◌, List, length, cond, ltb, Result}
use Rattle.format.specs.declared.Refusal.{Refusal}
use Rattle.format.specs.declared.Refusal.TheVariants.{Edition, NoReading}
use Rattle.format.specs.Encoder.{encode, encode_answer, output_after}
use Rattle.reading.specs.Walks.{lent}

pub record Encodes (edition version i o w : ℕ) (is os ws out : List ℕ) (a : Result ℕ Refusal) (out' : List ℕ) : Type 0 where
  pub answered : a ≡ encode_answer (encode edition (lent version i o w is os ws) (length out))
  pub output : out' ≡ output_after (encode edition (lent version i o w is os ws) (length out)) out

-- why there is no chunk
abbrev pub no_chunk : ℕ → Refusal
no_chunk edition = cond (ltb 3 edition) Edition NoReading
