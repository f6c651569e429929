-- Laws of the header, framing and the two passes: an accepted chunk is restored.
use Prim.Native.Nat.{ℕ, zero, suc, ◌+◌, ◌*◌, ◌%◌, ◌≤◌, ◌<◌}
use mathlib.Core.Path.{◌≡◌, refl, sym, ap, ◌∙◌}
use mathlib.Core.List.{List, [], ◌∷◌, ◌++◌, map}
use mathlib.Core.Option.{Option, none, some}
use mathlib.Core.Bool.{Bool, true, false, cond}
use lib.ListN.{length, get_or, drop, length-append, length-drop}
use native.Mathlib.Omega.{arith}
use borrow.Author.Tests.{ltb-false, eqb-true, not-false}
use Rattle.format.specs.declared.Refusal.{Refusal}
use Rattle.format.specs.Dwords.{Bytes, dwords_of, Got}
use Rattle.format.specs.Framing.{length_of, Framed, whole, zero_length, past_end, instruction, cut, frame, ceiling}
use Rattle.format.specs.Instructions.{Instruction, Reading, ok, miscounted, inexact, read, all_dwords}
use Rattle.format.specs.Counts.{within}
use Rattle.format.specs.Refusals.{Outcome, accepted, unless, either, first_pass, second_pass, readings, is_model51, body, header, header_tests, first_of, read_chunk, room, decode, Pools, SHEX}
use Rattle.format.specs.Encoder.{chunk_of}
use Rattle.format.proofs.Dwords.{impossible, bytes_dwords, length_dwords, All, unmet, met, some_length}
use Rattle.format.proofs.Instructions.{kept_ok, read_restores}

-- framing cuts a payload into instructions, each of its length
pub data Cuts : Framed → List ℕ → Type 0 where
  done : Cuts whole []
  zero_length_lem : {ds : List ℕ} → Cuts zero_length ds
  past_end_lem : {ds : List ℕ} → Cuts past_end ds
  more : (t : ℕ) (i left : List ℕ) {ds : List ℕ} {f : Framed} → length (t ∷ i) ≡ length_of t (i ++ left) → (t ∷ i) ++ left ≡ ds → Cuts f left → Cuts (instruction (t ∷ i) f) ds

cut_cuts : (n : ℕ) {g : Got (List ℕ)} (t : ℕ) (ds : List ℕ) (f : List ℕ → Framed) → n ≡ length_of t ds → All (λ x r. (x ++ r ≡ t ∷ ds) × (length x ≡ n)) g →
    ((l : List ℕ) → length l < length (t ∷ ds) → Cuts (f l) l) → Cuts (cut n g f) (t ∷ ds)
cut_cuts zero t ds f z a rec = zero_length_lem
cut_cuts (suc n) t ds f z unmet rec = past_end_lem
cut_cuts (suc n) t ds f z (met {a = []} {r = r} p) rec = impossible (omega (arith, p.1))
cut_cuts (suc n) t ds f z (met {a = u ∷ i} {r = r} p) rec =
    let e : u ≡ t = cc p.0 in
    let e₁ : i ++ r ≡ ds = cc p.0 in
    more u i r (p.1 ∙ z ∙ sym (rw (e, e₁))) p.0 (rec r (omega (arith, ap length p.0, length-append (u ∷ i) r)))

pub frame_cuts : (k : ℕ) (ds : List ℕ) → length ds ≤ k → Cuts (frame k ds) ds
unfolding frame
frame_cuts zero [] h = done
frame_cuts zero (t ∷ ds) h = impossible (omega arith)
frame_cuts (suc k) [] h = done
frame_cuts (suc k) (t ∷ ds) h = cut_cuts (length_of t ds) t ds (λ l. frame k l) refl (some_length (length_of t ds) (t ∷ ds)) (λ l s. frame_cuts k l (omega arith))

-- an accepted payload: instructions, each of its length and read from its own dwords
pub data Reads (c : ℕ) (m : Bool) : List ℕ → List Instruction → Type 0 where
  nil : Reads c m [] []
  cons : (t : ℕ) (i left : List ℕ) {ds : List ℕ} {j : Instruction} {l : List Instruction} →
      length (t ∷ i) ≡ length_of t (i ++ left) → (t ∷ i) ++ left ≡ ds → read c m (t ∷ i) ≡ ok j → Reads c m left l → Reads c m ds (j ∷ l)

pub unless_accepted : (r : Option Refusal) {a : Outcome} {v : ℕ} {l : List Instruction} → unless r a ≡ accepted v l → (r ≡ none) × (a ≡ accepted v l)
unless_accepted none e = (refl, e)
unless_accepted (some r) e = impossible (cc)

-- what both passes leave to the instructions after this one
pub record Passed (x : Reading) (a b : Option Refusal) : Type 0 where
  pub instruction : Instruction
  pub is : x ≡ ok instruction
  pub first : a ≡ none
  pub second : b ≡ none

pub passed : (x : Reading) (a b : Option Refusal) (r₁ r₂ : Refusal) → either x a (some r₁) a ≡ none → either x b b (some r₂) ≡ none → Passed x a b
passed (ok i) a b r₁ r₂ e₁ e₂ = record { instruction = i; is = refl; first = e₁; second = e₂ }
passed miscounted a b r₁ r₂ e₁ e₂ = impossible (cc)
passed inexact a b r₁ r₂ e₁ e₂ = impossible (cc)

passed_reads : (c : ℕ) (m : Bool) (at : ℕ) {f : Framed} {ds : List ℕ} → Cuts f ds → first_pass c m at f ≡ none → second_pass c m at f ≡ none → Reads c m ds (readings c m f)
unfolding first_pass second_pass readings
passed_reads c m at done e₁ e₂ = nil
passed_reads c m at zero_length_lem e₁ e₂ = impossible (cc)
passed_reads c m at past_end_lem e₁ e₂ = impossible (cc)
passed_reads c m at (more t i left n s k) e₁ e₂ =
    let p = passed (read c m (t ∷ i)) _ _ _ _ e₁ e₂ in
    rw p.is (cons t i left n s p.is (passed_reads c m (at + length (t ∷ i)) k p.first p.second))

-- what an accepted chunk past its header says
pub record Accepted (c : ℕ) (ds : List ℕ) (v : ℕ) (l : List Instruction) : Type 0 where
  pub version : get_or ds 0 0 ≡ v
  pub reads : Reads c (is_model51 v) (drop 2 ds) l

pub accepted_fields : {v v' : ℕ} {l l' : List Instruction} → accepted v l ≡ accepted v' l' → (v ≡ v') × (l ≡ l')
accepted_fields e = ((cc), (cc))

pub body_accepted : (c : ℕ) (ds : List ℕ) {v : ℕ} {l : List Instruction} → body c ds ≡ accepted v l → Accepted c ds v l
unfolding body
body_accepted c ds {v} {l} e =
    let m : Bool = is_model51 (get_or ds 0 0) in
    let f : Framed = frame (length ds) (drop 2 ds) in
    let a = unless_accepted (first_pass c m 2 f) e in
    let b = unless_accepted (second_pass c m 2 f) a.1 in
    let g = accepted_fields b.1 in
    let r : Reads c m (drop 2 ds) (readings c m f) = passed_reads c m 2 (frame_cuts (length ds) (drop 2 ds) (simp length-drop (omega arith))) a.0 b.0 in
    record { version = g.0; reads = rw (← g.0, ← g.1) r }

pub reads_dwords : {c : ℕ} {m : Bool} {ds : List ℕ} {l : List Instruction} → Reads c m ds l → all_dwords l ≡ ds
unfolding all_dwords
reads_dwords nil = refl
reads_dwords {c} {m} (cons t i left n s e r) = rw (kept_ok (read_restores c m (t ∷ i)) e, reads_dwords r, s)

-- no test of a header that passed holds
fails : (p : Bool × Refusal) (l : List (Bool × Refusal)) → first_of (p ∷ l) ≡ none → (p.0 ≡ false) × (first_of l ≡ none)
unfolding first_of
fails p l e = go p.0 e
  where
    go : (b : Bool) → cond b (some p.1) (first_of l) ≡ none → (b ≡ false) × (first_of l ≡ none)
    go true e = impossible (cc)
    go false e = (refl, e)

pub nth_fails : (n : ℕ) (l : List (Bool × Refusal)) → first_of l ≡ none → get_or (map (λ (p : Bool × Refusal). p.0) l) n false ≡ false
nth_fails n [] e = refl
nth_fails zero (p ∷ l) e = (fails p l e).0
nth_fails (suc n) (p ∷ l) e = nth_fails n l (fails p l e).1

-- and either FourCC will do
fail_both : (p q : Bool × Refusal) (l : List (Bool × Refusal)) → p.0 ≡ false → q.0 ≡ false → first_of l ≡ none → first_of (p ∷ q ∷ l) ≡ none
unfolding first_of
fail_both p q l a b e = rw (a, b) e

pub header_SHEX : (e four : ℕ) (chunk : List ℕ) → header e four chunk ≡ none → header e SHEX chunk ≡ none
unfolding header within
header_SHEX e four chunk h =
    let a = fails _ _ h in
    let b = fails _ _ a.1 in
    fail_both _ _ _ a.0 refl b.1

pub record Passing (e : ℕ) (chunk : List ℕ) : Type 0 where
  pub known : e ≤ 3
  pub header_fits : 8 ≤ length chunk
  pub whole : length chunk % 4 ≡ 0
  pub short : length chunk ≤ 1_048_576
  pub size : get_or (dwords_of chunk) 1 0 * 4 ≡ length chunk

pub passing : (e four : ℕ) (chunk : List ℕ) → header e four chunk ≡ none → Passing e chunk
unfolding header
passing e four chunk h = record {
  known = ltb-false 3 e (nth 0);
  header_fits = ltb-false (length chunk) 8 (nth 2);
  whole = eqb-true _ _ (not-false _ (nth 3));
  short = ltb-false 1_048_576 (length chunk) (nth 4);
  size = eqb-true _ _ (not-false _ (nth 8));
}
  where
    tests : List (Bool × Refusal)
    tests = header_tests e four (length chunk) (get_or (dwords_of chunk) 0 0) (get_or (dwords_of chunk) 1 0)

    nth : (n : ℕ) → get_or (map (λ (p : Bool × Refusal). p.0) tests) n false ≡ false
    nth n = nth_fails n tests h

two : (ds : List ℕ) → 2 ≤ length ds → ds ≡ get_or ds 0 0 ∷ get_or ds 1 0 ∷ drop 2 ds
two [] h = impossible (omega arith)
two (a ∷ []) h = impossible (omega arith)
two (a ∷ b ∷ l) h = refl

-- an accepted chunk is restored from what was read, byte for byte
pub record Chunk (e four : ℕ) (chunk : List ℕ) (v : ℕ) (l : List Instruction) : Type 0 where
  pub header_passed : header e four chunk ≡ none
  pub passes : Passing e chunk
  pub body_read : Accepted (ceiling e) (dwords_of chunk) v l

pub chunk_accepted : (e four : ℕ) (chunk : List ℕ) {v : ℕ} {l : List Instruction} → read_chunk e four chunk ≡ accepted v l → Chunk e four chunk v l
unfolding read_chunk
chunk_accepted e four chunk h =
    let u = unless_accepted (header e four chunk) h in
    record { header_passed = u.0; passes = passing e four chunk u.0; body_read = body_accepted (ceiling e) (dwords_of chunk) u.1 }

pub chunk_restores : {e four : ℕ} {chunk : List ℕ} {v : ℕ} {l : List Instruction} → Bytes chunk → Chunk e four chunk v l → chunk_of v (all_dwords l) ≡ chunk
unfolding chunk_of
chunk_restores {chunk = chunk} {l = l} b c =
    let ds : List ℕ = dwords_of chunk in
    let p = c.passes in
    let r : all_dwords l ≡ drop 2 ds = reads_dwords c.body_read.reads in
    let n : 2 + length (all_dwords l) ≡ get_or ds 1 0 = omega (arith, ap length r, length-drop 2 ds, length_dwords chunk, p.header_fits, p.whole, p.size) in
    rw (n, r, ← c.body_read.version, ← (two ds (omega (arith, length_dwords chunk, p.header_fits)))) (bytes_dwords chunk b p.whole)

-- the pools' room is all that a reading into pools asks besides
pub decode_accepted : (e four : ℕ) (chunk : List ℕ) (p : Pools) {v : ℕ} {l : List Instruction} → decode e four chunk p ≡ accepted v l → (room chunk p ≡ none) × (read_chunk e four chunk ≡ accepted v l)
unfolding decode read_chunk
decode_accepted e four chunk p h =
    let u = unless_accepted (header e four chunk) h in
    let w = unless_accepted (room chunk p) u.1 in
    (w.0, rw u.0 w.1)
