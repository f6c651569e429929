-- The chunk of the instructions that are confirmed is the one that the encoder gives.
use Prim.Native.Nat.{ℕ, ◌+◌, ◌*◌, ◌^◌, ◌≤◌, ◌<◌}
use mathlib.Core.Path.{◌≡◌, refl, sym, ap, ◌∙◌}
use mathlib.Core.List.{List}
use mathlib.Core.Option.{Option, none as nothing, some as just}
use mathlib.Core.Bool.{Bool, true, false, cond, not, ◌&&◌}
use native.Mathlib.Omega.{arith}
use lib.ListN.{length, get_or, drop, length-drop}
use borrow.Author.Tests.{not-true, lt-ltb}
use Rattle.format.specs.declared.Refusal.{Refusal}
use Rattle.format.specs.Dwords.{Bytes, dwords_of}
use Rattle.format.specs.Framing.{ceiling}
use Rattle.format.specs.Instructions.{Instruction, all_dwords}
use Rattle.format.specs.Rows.{all_parts}
use Rattle.format.specs.Refusals.{SHEX, header_tests, first_of, is_model51, Rows, Pools}
use Rattle.format.specs.Encoder.{past_pool, held, chunk_of, chunk_giving}
use Rattle.format.proofs.Dwords.{impossible, both, length_dwords}
use Rattle.format.proofs.Rows.{parts_length}
use Rattle.format.proofs.Refusals.{chunk_accepted}
use Rattle.format.proofs.Encoder.{Given, given, not_past, chunk_given, bytes_of_lem, counts, Found, not_found, found, chunk_found}
use Rattle.reading.specs.Confirm.{confirm_all, untold, confirm_chunk}
use Rattle.format.proofs.Room as room
use Rattle.instruction_deep.proofs.Fits.{fit_each}
use Rattle.reading.proofs.Accepts.{header_untold, chunk_reads}
use Rattle.reading.proofs.All.{fit_take, all_sound, all_complete}

-- what u32 says of a version token and pools
pub record Fit (q : Rows) : Type 0 where
  pub version : q.version < 2 ^ 32
  pub instructions : (j : ℕ) → j < length q.pools.instructions → get_or q.pools.instructions j 0 < 2 ^ 32
  pub words : (j : ℕ) → j < length q.pools.words → get_or q.pools.words j 0 < 2 ^ 32

-- the chunk of some instructions, if there are any
abbrev pub chunk_of_all : ℕ → Option (List Instruction) → Option (List ℕ)
chunk_of_all version nothing = nothing
chunk_of_all version (just l) = just (chunk_of version (all_dwords l))

cond_just : {A : Type 0} (b : Bool) (x : Option A) (a : A) → cond b x nothing ≡ just a → (b ≡ true) × (x ≡ just a)
cond_just true x a e = (refl, e)
cond_just false x a e = impossible (cc)

untold_none : (o : Option Refusal) → untold o ≡ true → o ≡ nothing
untold_none nothing e = refl
untold_none (just r) e = impossible (cc)

-- no chunk is of a later edition
and-false : (b : Bool) → (b && false) ≡ false
and-false true = refl
and-false false = refl

pub edition_unconfirmed : (edition : ℕ) (q : Rows) → 3 < edition → confirm_chunk edition q ≡ nothing
unfolding confirm_chunk first_of
edition_unconfirmed edition q h = rw (lt-ltb 3 edition h, and-false (not (past_pool q)))

confirmed_given : (e : ℕ) (q : Rows) (l : List Instruction) → Fit q → confirm_chunk e q ≡ just l → Given e q (chunk_of q.version (all_dwords l))
unfolding confirm_chunk
confirmed_given e q l f h =
    let v : ℕ = q.version in
    let p : Pools = held q in
    let t : Bool = untold (first_of (header_tests e SHEX 8 v 2)) in
    let x = cond_just (not (past_pool q) && t) (confirm_all (ceiling e) (is_model51 v) q.instructions 8 p.instructions p.operands p.words 0 0) l h in
    let b = both (not (past_pool q)) t x.0 in
    let n = counts q (not-true (past_pool q) b.0) in
    let a = all_sound (ceiling e) (is_model51 v) q.instructions 8 p.instructions p.operands p.words 0 0 l n.instructions x.1 in
    let fi : room.Fit p.instructions = unfold held in fit_take (16 * q.instructions) q.pools.instructions (fit_each q.pools.instructions f.instructions) in
    let fw : room.Fit p.words = unfold held in fit_take q.words q.pools.words (fit_each q.pools.words f.words) in
    record {
      four = SHEX;
      list = l;
      read = chunk_reads e v (all_dwords l) (untold_none _ b.1) f.version (a.fit fi fw) (a.short (omega arith)) a.reads;
      rows = λ k. record { instructions = a.rows k; operands = a.operands k; words = a.words k };
      instructions = a.count;
      operands = omega (arith, n.operands, ap length a.operands, parts_length 0 0 (all_parts l));
      words = sym (ap length a.words) ∙ n.words;
    }

given_confirmed : (e : ℕ) (q : Rows) (chunk : List ℕ) → Bytes chunk → (g : Given e q chunk) → confirm_chunk e q ≡ just g.list
unfolding confirm_chunk
given_confirmed e q chunk y g =
    let c = chunk_accepted e g.four chunk g.read in
    let p = c.passes in
    let n : 8 + 4 * length (drop 2 (dwords_of chunk)) ≤ 1_048_576 = omega (arith, length-drop 2 (dwords_of chunk), length_dwords chunk, p.header_fits, p.short) in
    rw (not_past y g, header_untold c, g.rows, ← g.instructions) (all_complete c.body_read.reads 8 0 0 n)

-- the encoder gives the chunk of what is confirmed, or none
pub chunk_confirmed : (edition : ℕ) (q : Rows) → Fit q → chunk_giving edition q ≡ chunk_of_all q.version (confirm_chunk edition q)
chunk_confirmed edition q f = go (confirm_chunk edition q) refl
  where
    not_given : {o : Option (List ℕ)} → confirm_chunk edition q ≡ nothing → Found edition q o → o ≡ nothing
    not_given e not_found = refl
    not_given e (found {chunk = chunk} g) = let z = given_confirmed edition q chunk g.bytes (given g) in impossible (cc)

    go : (o : Option (List Instruction)) → confirm_chunk edition q ≡ o → chunk_giving edition q ≡ chunk_of_all q.version o
    go nothing e = not_given e (chunk_found edition q)
    go (just l) e = chunk_given (unfold chunk_of in bytes_of_lem _) (confirmed_given edition q l f e)
