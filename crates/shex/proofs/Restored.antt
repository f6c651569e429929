-- Over the contracts of the two calls: at every edition, what was read is encoded to its own bytes, and what was encoded is read to its
-- own rows and words.
use Prim.Native.Nat.{ℕ, ◌*◌, ◌≤◌}
use mathlib.Core.Path.{◌≡◌, refl, sym, ap, ◌∙◌, subst}
use mathlib.Core.List.{List, ◌++◌}
use mathlib.Core.Option.{none}
use lib.ListN.{length, take, drop}
use lib.Seq.{take_at}
use Rattle.std.specs.Prelude.{Result, Ok}
use Rattle.format.specs.declared.Accepted.{Accepted}
use Rattle.format.specs.declared.Refusal.{Refusal}
use Rattle.format.specs.Dwords.{Bytes}
use Rattle.format.specs.Instructions.{Instruction}
use Rattle.format.specs.Refusals.{Outcome, accepted, SHEX, header, room, read_chunk, decode, answer, pools_after, Pools, Rows, told, reading}
use Rattle.format.specs.Encoder.{held, Gives, Encoding, unencoded, encoded, encode, encode_answer, output_after}
use Rattle.format.proofs.Dwords.{impossible}
use Rattle.format.proofs.Refusals.{unless_accepted}
use Rattle.format.proofs.Encoder.{given, answer_accepted, held_after, read_SHEX, encoded_gives}
use Rattle.format.proofs.Demands.{accepted_gives, restored}
use Rattle.decode.specs.Decode.{Decoded}
use Rattle.decode.specs.Decode as pools
use Rattle.reading.specs.Walks.{lent}
use Rattle.encode.specs.Encode.{Encodes}

-- ---- decode, then encode
module _ (edition four : ℕ) (chunk is os ws is' os' ws' : List ℕ) (v i o w : ℕ) (d : Decoded edition four chunk is os ws (Ok (record { version = v; instructions = i; operands = o; words = w })) is' os' ws') where
  abbrev a : Outcome
  a = decode edition four chunk (pools.lent is os ws)

  rows_are : lent v i o w is' os' ws' ≡ reading a (pools.lent is os ws)
  unfolding reading
  rows_are =
      (λ k. record { version = v; instructions = i; operands = o; words = w; pools = record { instructions = d.instructions k; operands = d.operands k; words = d.words k } }) ∙
      ap (λ (x : Result Accepted Refusal). told x (pools_after a (pools.lent is os ws))) d.answered

  -- the output holds the chunk's bytes, and behind them what it held
  pub bytes_back : Bytes chunk → (out out' : List ℕ) (b : Result ℕ Refusal) → length chunk ≤ length out → Encodes edition v i o w is' os' ws' out b out' → (b ≡ Ok (length chunk)) × (out' ≡ chunk ++ drop (length chunk) out)
  unfolding encode_answer output_after
  bytes_back y out out' b h e =
      let g : Gives edition (reading a (pools.lent is os ws)) chunk = accepted_gives edition four chunk (pools.lent is os ws) (record { version = v; instructions = i; operands = o; words = w }) y (sym d.answered) in
      let z : encode edition (lent v i o w is' os' ws') (length out) ≡ encoded chunk = restored edition (lent v i o w is' os' ws') chunk (subst (λ (q : Rows). Gives edition q chunk) (sym rows_are) g) (length out) h in
      (e.answered ∙ ap encode_answer z, e.output ∙ ap (λ (x : Encoding). output_after x out) z)

-- ---- encode, then decode
wrote : (x : Encoding) (n : ℕ) → Ok n ≡ encode_answer x → (b : List ℕ) × (x ≡ encoded b) × (n ≡ length b)
unfolding encode_answer
wrote (unencoded r) n e = impossible (cc)
wrote (encoded b) n e = (b, refl, (cc))

-- an accepted chunk is read into any pools with room
decode_SHEX : (edition : ℕ) (chunk : List ℕ) (p : Pools) {v : ℕ} {l : List Instruction} → read_chunk edition SHEX chunk ≡ accepted v l → room chunk p ≡ none → decode edition SHEX chunk p ≡ accepted v l
unfolding read_chunk decode
decode_SHEX edition chunk p h k = let u = unless_accepted (header edition SHEX chunk) h in rw (u.0, k) u.1

module _ (edition v i o w : ℕ) (is os ws out out' : List ℕ) (n : ℕ) (e : Encodes edition v i o w is os ws out (Ok n) out') where
  abbrev q : Rows
  q = lent v i o w is os ws

  abbrev written : (b : List ℕ) × (encode edition q (length out) ≡ encoded b) × (n ≡ length b)
  written = wrote (encode edition q (length out)) n e.answered

  chunk_is : take n out' ≡ written.0
  unfolding output_after
  chunk_is =
      let b : List ℕ = written.0 in
      let z : out' ≡ b ++ drop (length b) out = e.output ∙ ap (λ (x : Encoding). output_after x out) written.1 in
      ap (take n) z ∙ take_at b (drop (length b) out) n (sym written.2)

  module _ (is₀ os₀ ws₀ is₁ os₁ ws₁ : List ℕ) (a : Result Accepted Refusal) (r : room (take n out') (pools.lent is₀ os₀ ws₀) ≡ none) (d : Decoded edition SHEX (take n out') is₀ os₀ ws₀ a is₁ os₁ ws₁) where
    abbrev p : Pools
    p = pools.lent is₀ os₀ ws₀

    abbrev g : Gives edition q written.0
    g = encoded_gives edition q (length out) written.0 written.1

    abbrev l : List Instruction
    l = (given g).list

    reads : decode edition SHEX (take n out') p ≡ accepted v l
    reads =
        let z : read_chunk edition SHEX (take n out') ≡ accepted v l = ap (read_chunk edition SHEX) chunk_is ∙ read_SHEX edition (given g).four written.0 (given g).read in
        decode_SHEX edition (take n out') p z r

    holds : held (reading (accepted v l) p) ≡ held q
    holds = held_after v l p ∙ sym (given g).rows

    -- the same version token and counts, and the same rows and words
    pub record RowsBack : Type 0 where
      pub answered : a ≡ Ok (record { version = v; instructions = i; operands = o; words = w })
      pub instructions : take (16 * i) is₁ ≡ take (16 * i) is
      pub operands : take (16 * o) os₁ ≡ take (16 * o) os
      pub words : take w ws₁ ≡ take w ws

    pub rows_back : RowsBack
    unfolding held reading answer
    rows_back = record {
      answered = d.answered ∙ ap answer reads ∙ answer_accepted v l (given g).instructions (given g).operands (given g).words;
      instructions = (λ k. take (16 * sym (given g).instructions k) ((d.instructions ∙ ap (λ (x : Outcome). (pools_after x p).instructions) reads) k)) ∙ ap (λ (x : Pools). x.instructions) holds;
      operands = (λ k. take (16 * sym (given g).operands k) ((d.operands ∙ ap (λ (x : Outcome). (pools_after x p).operands) reads) k)) ∙ ap (λ (x : Pools). x.operands) holds;
      words = (λ k. take (sym (given g).words k) ((d.words ∙ ap (λ (x : Outcome). (pools_after x p).words) reads) k)) ∙ ap (λ (x : Pools). x.words) holds;
    }
