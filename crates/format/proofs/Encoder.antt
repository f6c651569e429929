-- The encoder gives back each accepted chunk, and nothing else.
use Prim.Native.Nat.{ℕ, zero, suc, ◌*◌, ◌/◌, ◌-◌, ◌≤◌, ◌<◌}
use mathlib.Core.Path.{◌≡◌, refl, sym, ap, ◌∙◌, subst}
use mathlib.Core.List.{List, [], ◌∷◌}
use mathlib.Core.Logic.{◌↔◌}
use mathlib.Core.Option.{Option, none, some}
use mathlib.Core.Bool.{Bool, true, false, cond, ◌||◌}
use lib.ListN.{length, take, drop, replicate, length-take, length-replicate}
use lib.Seq.{take_at, length-take-le}
use lib.Dec.{ltb, eqb}
use native.Mathlib.Omega.{arith}
use Rattle.std.specs.Prelude.{Result, Ok, Err}
use borrow.Author.Tests.{ltb-true, ltb-false, le-ltb, eqb-true, eq-eqb}
use Rattle.format.specs.declared.Refusal.{Refusal}
use Rattle.format.specs.declared.Refusal.TheVariants.{Edition, NoReading, OutputShort}
use Rattle.format.specs.declared.Accepted.{Accepted}
use Rattle.format.specs.Dwords.{Bytes, bytes_of}
use Rattle.format.specs.Instructions.{Instruction}
use Rattle.format.specs.Rows.{instruction_rows, parts_rows, parts_words, parts_table, all_parts}
use Rattle.format.specs.Refusals.{Outcome, refused, accepted, SHEX, read_chunk, decode, answer, after, pools_after, Rows, told, reading, header, room, Pools}
use Rattle.format.specs.Encoder.{past_pool, held, chunk_of, made, same, gives, Gives, Encoding, unencoded, encoded, chunk_giving, into, encode}
use Rattle.format.proofs.Dwords.{impossible, both}
use Rattle.format.proofs.Rows.{rows_length, parts_length}
use Rattle.format.proofs.Refusals.{Chunk, chunk_accepted, chunk_restores, decode_accepted, header_SHEX, unless_accepted}
use Rattle.format.proofs.Remade.{reads_again}

pub same_refl : (l : List ℕ) → same l l ≡ true
unfolding same
same_refl [] = refl
same_refl (x ∷ l) = rw (eq-eqb x x refl) (same_refl l)

pub same_eq : (k l : List ℕ) → same k l ≡ true → k ≡ l
unfolding same
same_eq [] [] e = refl
same_eq [] (y ∷ l) e = impossible (cc)
same_eq (x ∷ k) [] e = impossible (cc)
same_eq (x ∷ k) (y ∷ l) e = let b = both (eqb x y) (same k l) e in let a₁ = eqb-true x y b.0 in let a₂ = same_eq k l b.1 in cc

-- what was read, as rows and words
abbrev pub rows_of : List Instruction → Pools
rows_of l = record { instructions = instruction_rows 8 0 0 l; operands = parts_table 0 0 (all_parts l); words = parts_words (all_parts l) }

-- what an accepted answer says
pub record Read (a : Outcome) (told : Accepted) : Type 0 where
  pub list : List Instruction
  pub is : a ≡ accepted told.version list
  pub instructions : length list ≡ told.instructions
  pub operands : parts_rows (all_parts list) ≡ told.operands
  pub words : length (parts_words (all_parts list)) ≡ told.words

pub answer_read : (a : Outcome) {told : Accepted} → answer a ≡ Ok told → Read a told
unfolding answer
answer_read (refused r) e = impossible (cc)
answer_read (accepted u l) {told} e = let z : u ≡ told.version = cc in record { list = l; is = ap (λ (k : ℕ). accepted k l) z; instructions = (cc); operands = (cc); words = (cc) }

pub answer_accepted : (v : ℕ) (l : List Instruction) {ni nr nw : ℕ} → length l ≡ ni → parts_rows (all_parts l) ≡ nr → length (parts_words (all_parts l)) ≡ nw →
    answer (accepted v l) ≡ Ok (record { version = v; instructions = ni; operands = nr; words = nw })
unfolding answer
answer_accepted v l a b c = λ i. Ok (record { version = v; instructions = a i; operands = b i; words = c i })

pub answer_refused : (a : Outcome) (r : Refusal) → (answer a ≡ Err r) ↔ (a ≡ refused r)
unfolding answer
answer_refused (refused x) r = ((λ e. let q : x ≡ r = cc in ap refused q), (λ e. let q : x ≡ r = cc in ap Err q))
answer_refused (accepted v l) r = ((λ e. impossible (cc)), (λ e. impossible (cc)))

-- a chunk that gives rows is read to them, and they are these
pub record Given (e : ℕ) (q : Rows) (chunk : List ℕ) : Type 0 where
  pub four : ℕ
  pub list : List Instruction
  pub read : read_chunk e four chunk ≡ accepted q.version list
  pub rows : held q ≡ rows_of list
  pub instructions : length list ≡ q.instructions
  pub operands : parts_rows (all_parts list) ≡ q.operands
  pub words : length (parts_words (all_parts list)) ≡ q.words

pub held_after : (v : ℕ) (l : List Instruction) (p : Pools) → held (reading (accepted v l) p) ≡ rows_of l
unfolding held reading answer pools_after after
held_after v l p = λ i. record {
  instructions = take_at (instruction_rows 8 0 0 l) (drop (length (instruction_rows 8 0 0 l)) p.instructions) (16 * length l) (rows_length 8 0 0 l) i;
  operands = take_at (parts_table 0 0 (all_parts l)) (drop (length (parts_table 0 0 (all_parts l))) p.operands) (16 * parts_rows (all_parts l)) (parts_length 0 0 (all_parts l)) i;
  words = take_at (parts_words (all_parts l)) (drop (length (parts_words (all_parts l))) p.words) (length (parts_words (all_parts l))) refl i;
}

pub given : {e : ℕ} {q : Rows} {chunk : List ℕ} → Gives e q chunk → Given e q chunk
given {e} {q} {chunk} g =
    let r = answer_read (decode e g.four chunk g.pools) g.answered in
    record {
      four = g.four;
      list = r.list;
      read = (decode_accepted e g.four chunk g.pools r.is).1;
      rows = sym g.holds ∙ ap (λ (a : Outcome). held (reading a g.pools)) r.is ∙ held_after q.version r.list g.pools;
      instructions = r.instructions;
      operands = r.operands;
      words = r.words;
    }

pub read_SHEX : (e four : ℕ) (chunk : List ℕ) {v : ℕ} {l : List Instruction} → read_chunk e four chunk ≡ accepted v l → read_chunk e SHEX chunk ≡ accepted v l
unfolding read_chunk
read_SHEX e four chunk h = let u = unless_accepted (header e four chunk) h in rw (header_SHEX e four chunk u.0) u.1

taken : (n : ℕ) (pool x : List ℕ) → take n pool ≡ x → length x ≡ n → ltb (length pool) n ≡ false
taken n pool x e h = le-ltb (length pool) n (omega (arith, length-take n pool, ap length e))

-- what the encoder finds of rows that a chunk gives
module _ {e : ℕ} {q : Rows} {chunk : List ℕ} (y : Bytes chunk) (g : Given e q chunk) where
  abbrev c : Chunk e g.four chunk q.version g.list
  c = chunk_accepted e g.four chunk g.read

  pub not_past : past_pool q ≡ false
  unfolding past_pool held
  not_past = rw (
    taken (16 * q.instructions) q.pools.instructions _ (ap (λ (p : Pools). p.instructions) g.rows) (rows_length 8 0 0 g.list ∙ ap (λ (n : ℕ). 16 * n) g.instructions),
    taken (16 * q.operands) q.pools.operands _ (ap (λ (p : Pools). p.operands) g.rows) (parts_length 0 0 (all_parts g.list) ∙ ap (λ (n : ℕ). 16 * n) g.operands),
    taken q.words q.pools.words _ (ap (λ (p : Pools). p.words) g.rows) g.words,
  )

  pub made_again : made q.version (held q) ≡ chunk
  unfolding made
  made_again =
      let n : length (instruction_rows 8 0 0 g.list) / 16 ≡ length g.list = omega (arith, rows_length 8 0 0 g.list) in
      rw (g.rows, n, reads_again c.body_read.reads 8 0 0) (chunk_restores y c)

  confirmed : gives q.version (held q) (read_chunk e SHEX chunk) ≡ true
  unfolding gives
  confirmed = rw (read_SHEX e g.four chunk g.read, g.rows, eq-eqb q.version q.version refl, same_refl (instruction_rows 8 0 0 g.list), same_refl (parts_table 0 0 (all_parts g.list)), same_refl (parts_words (all_parts g.list)))

  pub chunk_given : chunk_giving e q ≡ some chunk
  unfolding chunk_giving
  chunk_given = rw (made_again, not_past, confirmed)

  pub encode_given : (size : ℕ) → encode e q size ≡ cond (ltb size (length chunk)) (unencoded OutputShort) (encoded chunk)
  unfolding encode
  encode_given size = rw (le-ltb 3 e c.passes.known, chunk_given)

-- what it accepts is read, into pools with enough room, to those rows
pub bytes_of_lem : (l : List ℕ) → Bytes (bytes_of l)
unfolding bytes_of
bytes_of_lem [] i h = impossible (omega arith)
bytes_of_lem (t ∷ l) zero h = omega arith
bytes_of_lem (t ∷ l) (suc zero) h = omega arith
bytes_of_lem (t ∷ l) (suc (suc zero)) h = omega arith
bytes_of_lem (t ∷ l) (suc (suc (suc zero))) h = omega arith
bytes_of_lem (t ∷ l) (suc (suc (suc (suc i)))) h = bytes_of_lem l i (omega arith)

abbrev zeros : ℕ → List ℕ
zeros n = replicate n 0

roomy : List ℕ → Pools
roomy chunk = let m = length chunk / 4 - 2 in record { instructions = zeros (16 * m); operands = zeros (16 * m); words = zeros m }

has_room : (chunk : List ℕ) → room chunk (roomy chunk) ≡ none
unfolding room roomy
has_room chunk =
    let m : ℕ = length chunk / 4 - 2 in
    rw (length-replicate {A = ℕ} (16 * m) 0, length-replicate {A = ℕ} m 0, le-ltb (16 * m) (16 * m) (omega arith), le-ltb m m (omega arith))

decode_roomy : (e four : ℕ) (chunk : List ℕ) {v : ℕ} {l : List Instruction} → read_chunk e four chunk ≡ accepted v l → decode e four chunk (roomy chunk) ≡ accepted v l
unfolding read_chunk decode
decode_roomy e four chunk h = let u = unless_accepted (header e four chunk) h in rw (u.0, has_room chunk) u.1

record Same (q : Rows) (a : Outcome) : Type 0 where
  list : List Instruction
  is : a ≡ accepted q.version list
  rows : held q ≡ rows_of list

gives_same : (q : Rows) (a : Outcome) → gives q.version (held q) a ≡ true → Same q a
unfolding gives
gives_same q (refused r) e = impossible (cc)
gives_same q (accepted v l) e =
    let b₁ = both _ (same (parts_words (all_parts l)) (held q).words) e in
    let b₂ = both _ (same (parts_table 0 0 (all_parts l)) (held q).operands) b₁.0 in
    let b₃ = both (eqb v q.version) (same (instruction_rows 8 0 0 l) (held q).instructions) b₂.0 in
    let i = same_eq (instruction_rows 8 0 0 l) (held q).instructions b₃.1 in
    let o = same_eq (parts_table 0 0 (all_parts l)) (held q).operands b₂.1 in
    let w = same_eq (parts_words (all_parts l)) (held q).words b₁.1 in
    record { list = l; is = ap (λ (k : ℕ). accepted k l) (eqb-true v q.version b₃.0); rows = λ k. record { instructions = sym i k; operands = sym o k; words = sym w k } }

pub record Counts (q : Rows) : Type 0 where
  pub instructions : length (held q).instructions ≡ 16 * q.instructions
  pub operands : length (held q).operands ≡ 16 * q.operands
  pub words : length (held q).words ≡ q.words

or_none : (a b : Bool) → (a || b) ≡ false → (a ≡ false) × (b ≡ false)
or_none true b e = impossible (cc)
or_none false b e = (refl, e)

pub counts : (q : Rows) → past_pool q ≡ false → Counts q
unfolding past_pool held
counts q e =
    let a = or_none _ (ltb (length q.pools.words) q.words) e in
    let b = or_none (ltb (length q.pools.instructions) (16 * q.instructions)) (ltb (length q.pools.operands) (16 * q.operands)) a.0 in
    record {
      instructions = length-take-le (16 * q.instructions) q.pools.instructions (ltb-false _ _ b.0);
      operands = length-take-le (16 * q.operands) q.pools.operands (ltb-false _ _ b.1);
      words = length-take-le q.words q.pools.words (ltb-false _ _ a.1);
    }

same_gives : (e : ℕ) (q : Rows) (chunk : List ℕ) → Bytes chunk → past_pool q ≡ false → Same q (read_chunk e SHEX chunk) → Gives e q chunk
same_gives e q chunk y p s =
    let n = counts q p in
    let l = s.list in
    let d = decode_roomy e SHEX chunk s.is in
    let i : length l ≡ q.instructions = omega (arith, n.instructions, ap (λ (p : Pools). length p.instructions) s.rows, rows_length 8 0 0 l) in
    let o : parts_rows (all_parts l) ≡ q.operands = omega (arith, n.operands, ap (λ (p : Pools). length p.operands) s.rows, parts_length 0 0 (all_parts l)) in
    let w : length (parts_words (all_parts l)) ≡ q.words = sym (ap (λ (p : Pools). length p.words) s.rows) ∙ n.words in
    record {
      bytes = y;
      four = SHEX;
      pools = roomy chunk;
      answered = ap answer d ∙ answer_accepted q.version l i o w;
      holds = ap (λ (a : Outcome). held (reading a (roomy chunk))) d ∙ held_after q.version l (roomy chunk) ∙ sym s.rows;
    }

-- the encoder's answer: 1 or 15, or else a chunk that gives the rows
pub data Case (e : ℕ) (q : Rows) (size : ℕ) : Encoding → Type 0 where
  no_edition : 3 < e → Case e q size (unencoded Edition)
  no_reading : Case e q size (unencoded NoReading)
  a_chunk : {chunk : List ℕ} → Gives e q chunk → Case e q size (cond (ltb size (length chunk)) (unencoded OutputShort) (encoded chunk))

-- a chunk that gives the rows, or none is found
pub data Found (e : ℕ) (q : Rows) : Option (List ℕ) → Type 0 where
  not_found : Found e q none
  found : {chunk : List ℕ} → Gives e q chunk → Found e q (some chunk)

pub chunk_found : (e : ℕ) (q : Rows) → Found e q (chunk_giving e q)
unfolding chunk_giving
chunk_found e q = go (past_pool q) refl (gives q.version (held q) (read_chunk e SHEX b)) refl
  where
    b : List ℕ
    b = made q.version (held q)

    go : (y : Bool) → past_pool q ≡ y → (z : Bool) → gives q.version (held q) (read_chunk e SHEX b) ≡ z → Found e q (cond y none (cond z (some b) none))
    go true ey z ez = not_found
    go false ey false ez = not_found
    go false ey true ez = found (same_gives e q b (unfold made chunk_of in bytes_of_lem _) ey (gives_same q (read_chunk e SHEX b) ez))

pub encode_case : (e : ℕ) (q : Rows) (size : ℕ) → Case e q size (encode e q size)
unfolding encode
encode_case e q size = go (ltb 3 e) refl (chunk_found e q)
  where
    go : (x : Bool) → ltb 3 e ≡ x → {f : Option (List ℕ)} → Found e q f → Case e q size (cond x (unencoded Edition) (into size f))
    go true ex f = no_edition (ltb-true 3 e ex)
    go false ex not_found = no_reading
    go false ex (found g) = a_chunk g

-- so 15 is given exactly when no chunk gives the rows
cond_not_15 : (b : Bool) (chunk : List ℕ) → cond b (unencoded OutputShort) (encoded chunk) ≡ unencoded NoReading → ⊥
cond_not_15 true chunk e = impossible (cc)
cond_not_15 false chunk e = impossible (cc)

pub refused_none : (e : ℕ) (q : Rows) (size : ℕ) → encode e q size ≡ unencoded NoReading → (chunk : List ℕ) → Gives e q chunk → ⊥
refused_none e q size h chunk g = cond_not_15 (ltb size (length chunk)) chunk (sym (encode_given g.bytes (given g) size) ∙ h)

pub none_refused : (e : ℕ) (q : Rows) (size : ℕ) → e ≤ 3 → ((chunk : List ℕ) → Gives e q chunk → ⊥) → encode e q size ≡ unencoded NoReading
none_refused e q size k f = go (encode_case e q size)
  where
    go : {x : Encoding} → Case e q size x → x ≡ unencoded NoReading
    go (no_edition h) = impossible (omega arith)
    go no_reading = refl
    go (a_chunk {chunk = chunk} g) = absurd (f chunk g)

cond_encoded : (b : Bool) (chunk out : List ℕ) → cond b (unencoded OutputShort) (encoded chunk) ≡ encoded out → chunk ≡ out
cond_encoded true chunk out e = impossible (cc)
cond_encoded false chunk out e = cc

pub encoded_gives : (e : ℕ) (q : Rows) (size : ℕ) (out : List ℕ) → encode e q size ≡ encoded out → Gives e q out
encoded_gives e q size out h = go (encode_case e q size) h
  where
    go : {x : Encoding} → Case e q size x → x ≡ encoded out → Gives e q out
    go (no_edition k) z = impossible (cc)
    go no_reading z = impossible (cc)
    go (a_chunk {chunk = chunk} g) z = subst (Gives e q) (cond_encoded (ltb size (length chunk)) chunk out z) g

-- and rows determine their chunk, at whatever editions
pub gives_one : {e e' : ℕ} {q : Rows} {chunk chunk' : List ℕ} → Gives e q chunk → Gives e' q chunk' → chunk ≡ chunk'
gives_one g g' = sym (made_again g.bytes (given g)) ∙ made_again g'.bytes (given g')

pub accepted_gives : (e four : ℕ) (chunk : List ℕ) (p : Pools) (a : Accepted) → Bytes chunk → answer (decode e four chunk p) ≡ Ok a → Gives e (reading (decode e four chunk p) p) chunk
unfolding reading
accepted_gives e four chunk p a y h = record {
  bytes = y;
  four = four;
  pools = p;
  answered = h ∙ sym (ap (λ (b : Result Accepted Refusal). let q = told b (pools_after (decode e four chunk p) p) in Ok (record { version = q.version; instructions = q.instructions; operands = q.operands; words = q.words })) h);
  holds = refl;
}

pub restored : (e : ℕ) (q : Rows) (chunk : List ℕ) → Gives e q chunk → (size : ℕ) → length chunk ≤ size → encode e q size ≡ encoded chunk
restored e q chunk g size h = encode_given g.bytes (given g) size ∙ rw (le-ltb size (length chunk) h)
