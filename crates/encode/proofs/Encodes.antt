-- What encoding answers, by the chunk that gives the rows and words.
use Prim.Native.Nat.{ℕ, ◌+◌, ◌*◌, ◌/◌, ◌≤◌, ◌<◌}
use mathlib.Core.Path.{◌≡◌, refl, sym, ap, ◌∙◌}
use mathlib.Core.List.{List, ◌∷◌, ◌++◌}
use mathlib.Core.Option.{Option, none as nothing, some as just}
use mathlib.Core.Bool.{Bool, true, false, cond, not, ◌&&◌}
use lib.ListN.{length, take, drop, length-take}
use lib.Seq.{length-take-le}
use native.Mathlib.Omega.{arith}
use native.Mathlib.Nat.{zero-add}
use borrow.Author.Tests.{ltb-true, ltb-false, lt-ltb, le-ltb}
use lib.Dec.{ltb}
use Rattle.std.specs.Prelude.{Option as Code, Some, None, Result, Ok, Err}
use Rattle.std.specs.Option.{ok_or}
use Rattle.std.specs.Result.{IsErrAnd}
use Rattle.format.specs.declared.Refusal.{Refusal}
use Rattle.format.specs.declared.Refusal.TheVariants.{Edition, NoReading, OutputShort}
use Rattle.format.specs.Framing.{ceiling}
use Rattle.format.specs.Instructions.{Instruction, all_dwords}
use Rattle.format.specs.Refusals.{Rows, SHEX, first_of, header_tests, is_model51}
use Rattle.format.specs.Encoder.{past_pool, held, chunk_of, chunk_giving, into, Encoding, unencoded, encoded, encode, encode_answer, output_after}
use Rattle.format.proofs.Dwords.{impossible, length_bytes}
use Rattle.format.proofs.Encoder.{Counts, counts}
use Rattle.output.specs.Puts.{put}
use Rattle.reading.specs.Confirm.{untold, confirm_all, confirm_chunk}
use Rattle.reading.specs.Walks.{lent, read_of}
use Rattle.reading.proofs.Walks.{cond_just}
use Rattle.reading.proofs.All.{all_sound}
use Rattle.reading.proofs.Chunk.{Fit, chunk_of_all, chunk_confirmed, edition_unconfirmed}
use Rattle.encode.specs.Encode.{Encodes, no_chunk}
use Rattle.encode.specs.Emits.{Ready, Whole, Wrote}

-- what the walk over the rows told
no_size : {x : Option (List ℕ)} {r : Code ℕ} {y z : Refusal} → r ≡ read_of x → ◌≡◌ {A = Result ℕ Refusal} (Err y) (ok_or r z) → (x ≡ nothing) × (y ≡ z)
no_size {x} {r} {y} {z} a b = go x (b ∙ ap (λ (r : Code ℕ). ok_or r z) a)
  where
    go : (x : Option (List ℕ)) → ◌≡◌ {A = Result ℕ Refusal} (Err y) (ok_or (read_of x) z) → (x ≡ nothing) × (y ≡ z)
    go nothing e = (refl, (cc))
    go (just c) e = absurd (cc)

pub size_is : (r : Code ℕ) (z : Refusal) {d : ℕ} → Ok d ≡ ok_or r z → r ≡ Some d
size_is None z e = absurd (cc)
size_is (Some d) z e = cc

chunk_is : {x : Option (List ℕ)} {r : Code ℕ} {d : ℕ} → r ≡ read_of x → r ≡ Some d → (c : List ℕ) × (x ≡ just c) × (d ≡ length c / 4)
chunk_is {x} {r} {d} a b = go x (sym a ∙ b)
  where
    go : (x : Option (List ℕ)) → read_of x ≡ Some d → (c : List ℕ) × (x ≡ just c) × (d ≡ length c / 4)
    go nothing e = absurd (cc)
    go (just c) e = (c, refl, (cc))

all_some : (v : ℕ) (x : Option (List Instruction)) {c : List ℕ} → chunk_of_all v x ≡ just c → (l : List Instruction) × (x ≡ just l) × (c ≡ chunk_of v (all_dwords l))
all_some v nothing a = impossible (cc)
all_some v (just l) a = (l, refl, (cc))

not_past : (a b : Bool) → (not a && b) ≡ true → a ≡ false
not_past true b h = impossible (cc)
not_past false b h = refl

front : (b out : List ℕ) → put 0 b out ≡ b ++ drop (length b) out
unfolding put
front b out = ap (λ (k : ℕ). b ++ drop k out) (zero-add (length b))

-- of so many rows and words in the pools
record Counted (is os ws : List ℕ) (i o w dwords ceiling : ℕ) (model51 : Bool) (list : List Instruction) : Type 0 where
  instructions_inside : 16 * i ≤ length is
  operands_inside : 16 * o ≤ length os
  words_inside : w ≤ length ws
  confirmed : confirm_all ceiling model51 i 8 (take (16 * i) is) (take (16 * o) os) (take w ws) 0 0 ≡ just list
  dwords_are : dwords ≡ 2 + length (all_dwords list)
  small : dwords ≤ 262_144

-- ---- the chunk that was found goes into the output
module _ (v : ℕ) (is os ws : List ℕ) (i o w : ℕ) (out : List ℕ) {d c : ℕ} {m : Bool} {l : List Instruction} (y : Counted is os ws i o w d c m l) where
  abbrev chunk : List ℕ
  chunk = chunk_of v (all_dwords l)

  long : length chunk ≡ 4 * d
  unfolding chunk_of
  long = length_bytes (v ∷ (2 + length (all_dwords l)) ∷ all_dwords l) ∙ omega (arith, y.dwords_are)

  by_short : length out / 4 < d → (Err OutputShort ≡ encode_answer (into (length out) (just chunk))) × (out ≡ output_after (into (length out) (just chunk)) out)
  unfolding encode_answer output_after
  by_short h =
      let z : into (length out) (just chunk) ≡ unencoded OutputShort = rw (lt-ltb (length out) (length chunk) (omega (arith, long))) in
      (sym (ap encode_answer z), sym (ap (λ (x : Encoding). output_after x out) z))

  module _ (h : d ≤ length out / 4) where
    whole : Whole (take (i * 16) is) (take (o * 16) os) (take w ws) d (length out) c m l
    whole =
        let x : i * 16 ≡ 16 * i = omega arith in
        let y' : o * 16 ≡ 16 * o = omega arith in
        let n = length-take-le (16 * i) is y.instructions_inside in
        let k : length (take (16 * i) is) / 16 ≡ i = omega (arith, n) in
        rw (x, y') (record {
          whole = omega (arith, n);
          confirmed = ap (λ (j : ℕ). confirm_all c m j 8 (take (16 * i) is) (take (16 * o) os) (take w ws) 0 0) k ∙ y.confirmed;
          dwords_are = y.dwords_are;
          fits = omega (arith, y.small);
          room = omega arith;
        })

    by_chunk : {out' : List ℕ} → Wrote v (take (i * 16) is) (take (o * 16) os) (take w ws) d out out' →
        (Ok (d * 4) ≡ encode_answer (into (length out) (just chunk))) × (out' ≡ output_after (into (length out) (just chunk)) out)
    unfolding encode_answer output_after
    by_chunk {out'} t =
        let z : into (length out) (just chunk) ≡ encoded chunk = rw (le-ltb (length out) (length chunk) (omega (arith, long))) in
        let k₁ : ◌≡◌ {A = Result ℕ Refusal} (Ok (d * 4)) (Ok (length chunk)) = ap (λ (n : ℕ). Ok n) (omega (arith, long)) in
        let k₂ : out' ≡ chunk ++ drop (length chunk) out = t c m l whole ∙ front chunk out in
        (k₁ ∙ sym (ap encode_answer z), k₂ ∙ sym (ap (λ (u : Encoding). output_after u out) z))

-- ---- what encoding answers
module _ (e v i o w : ℕ) (is os ws out : List ℕ) where
  abbrev q : Rows
  q = lent v i o w is os ws

  -- without a chunk, also past the last edition
  none_is : chunk_giving e q ≡ nothing → encode e q (length out) ≡ unencoded (no_chunk e)
  unfolding encode
  none_is z = rw z (go (ltb 3 e))
    where
      go : (b : Bool) → cond b (unencoded Edition) (unencoded NoReading) ≡ unencoded (cond b Edition NoReading)
      go true = refl
      go false = refl

  pub by_none : {r : Code ℕ} → r ≡ read_of (chunk_giving e q) → {y x : Refusal} → ◌≡◌ {A = Result ℕ Refusal} (Err y) (ok_or r x) → x ≡ no_chunk e → {a : Result ℕ Refusal} → IsErrAnd a (λ z. z ≡ y) → Encodes e v i o w is os ws out a out
  unfolding encode_answer output_after
  by_none er {y} {x} ey ex {a} ea =
      let n = no_size er ey in
      let z : encode e q (length out) ≡ unencoded y = none_is n.0 ∙ ap unencoded (sym (n.1 ∙ ex)) in
      record { answered = is_err a ea ∙ ap encode_answer (sym z); output = ap (λ (y : Encoding). output_after y out) (sym z) }
    where
      is_err : (a : Result ℕ Refusal) → IsErrAnd a (λ z. z ≡ y) → a ≡ Err y
      is_err (Err u) h = ap (λ (z : Refusal). Err z) h
      is_err (Ok u) h = absurd h

  -- a chunk of d dwords gives them
  module _ {r : Code ℕ} {d : ℕ} (er : r ≡ read_of (chunk_giving e q)) (ed : r ≡ Some d) (f : Fit q) where
    abbrev given : (c : List ℕ) × (chunk_giving e q ≡ just c) × (d ≡ length c / 4)
    given = chunk_is er ed

    abbrev confirmed : (l : List Instruction) × (confirm_chunk e q ≡ just l) × (given.0 ≡ chunk_of v (all_dwords l))
    confirmed = all_some v (confirm_chunk e q) (sym (chunk_confirmed e q f) ∙ given.1)

    abbrev list : List Instruction
    list = confirmed.0

    known : e ≤ 3
    known = go (ltb 3 e) refl
      where
        go : (t : Bool) → ltb 3 e ≡ t → e ≤ 3
        go true h = impossible (cc (edition_unconfirmed e q (ltb-true 3 e h), confirmed.1))
        go false h = ltb-false 3 e h

    dwords_are : d ≡ 2 + length (all_dwords list)
    unfolding chunk_of
    dwords_are = omega (arith, given.2, ap length confirmed.2, length_bytes (v ∷ (2 + length (all_dwords list)) ∷ all_dwords list))

    abbrev tested : Bool
    tested = not (past_pool q) && untold (first_of (header_tests e SHEX 8 v 2))

    abbrev all : Option (List Instruction)
    all = confirm_all (ceiling e) (is_model51 v) i 8 (take (16 * i) is) (take (16 * o) os) (take w ws) 0 0

    opened : (tested ≡ true) × (all ≡ just list)
    unfolding confirm_chunk held
    opened = cond_just tested all confirmed.1

    inside : Counts q
    inside = counts q (not_past (past_pool q) _ opened.0)

    counted : Counted is os ws i o w d (ceiling e) (is_model51 v) list
    unfolding held
    counted =
        let n : length (take (16 * i) is) ≡ 16 * i = inside.instructions in
        let s = all_sound (ceiling e) (is_model51 v) i 8 (take (16 * i) is) (take (16 * o) os) (take w ws) 0 0 list n opened.1 in
        record {
          instructions_inside = omega (arith, n, length-take (16 * i) is);
          operands_inside = omega (arith, inside.operands, length-take (16 * o) os);
          words_inside = omega (arith, inside.words, length-take w ws);
          confirmed = opened.1;
          dwords_are = dwords_are;
          small = omega (arith, s.short (omega arith), dwords_are);
        }

    pub instructions_within : i * 16 ≤ length is
    instructions_within = omega (arith, counted.instructions_inside)

    pub operands_within : o * 16 ≤ length os
    operands_within = omega (arith, counted.operands_inside)

    pub words_within : w ≤ length ws
    words_within = counted.words_inside

    pub small : d ≤ 262_144
    small = counted.small

    in_chunk : {a : Encoding} → into (length out) (just (chunk_of v (all_dwords list))) ≡ a → encode e q (length out) ≡ a
    unfolding encode
    in_chunk z = rw (le-ltb 3 e known, given.1, confirmed.2) z

    pub by_room : length out / 4 < d → Encodes e v i o w is os ws out (Err OutputShort) out
    by_room h =
        let t = by_short v is os ws i o w out counted h in
        record { answered = t.0 ∙ ap encode_answer (sym (in_chunk refl)); output = t.1 ∙ ap (λ (y : Encoding). output_after y out) (sym (in_chunk refl)) }

    pub ready : d ≤ length out / 4 → Ready (take (i * 16) is) (take (o * 16) os) (take w ws) d (length out)
    ready h = record { ceiling = ceiling e; model51 = is_model51 v; list = list; whole = whole v is os ws i o w out counted h }

    pub by_writing : d ≤ length out / 4 → {out' : List ℕ} → Wrote v (take (i * 16) is) (take (o * 16) os) (take w ws) d out out' → Encodes e v i o w is os ws out (Ok (d * 4)) out'
    by_writing h p =
        let t = by_chunk v is os ws i o w out counted h p in
        record { answered = t.0 ∙ ap encode_answer (sym (in_chunk refl)); output = t.1 ∙ ap (λ (y : Encoding). output_after y out) (sym (in_chunk refl)) }
