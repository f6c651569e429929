-- A payload that is read, behind a header that passes, is accepted.
use Prim.Native.Nat.{ℕ, zero, suc, ◌+◌, ◌*◌, ◌%◌, ◌^◌, ◌≤◌, ◌<◌}
use mathlib.Core.Path.{◌≡◌, refl, ap}
use mathlib.Core.List.{List, ◌∷◌, ◌++◌, map}
use mathlib.Core.Option.{none}
use mathlib.Core.Bool.{Bool, false}
use lib.ListN.{length, get_or, length-append}
use native.Mathlib.Omega.{arith}
use borrow.Author.Tests.{le-ltb, eq-eqb}
use Rattle.format.specs.declared.Refusal.{Refusal}
use Rattle.format.specs.Dwords.{dwords_of, bytes_of}
use Rattle.format.specs.Framing.{length_of, Framed, instruction, frame, ceiling}
use Rattle.format.specs.Instructions.{Instruction}
use Rattle.format.specs.Refusals.{SHEX, first_of, header_tests, header, first_pass, second_pass, readings, accepted, is_model51, body, read_chunk}
use Rattle.format.specs.Encoder.{chunk_of}
use Rattle.format.proofs.Dwords.{impossible, length_bytes, dwords_bytes}
use Rattle.format.proofs.Refusals.{Reads, nil, cons, nth_fails, header_SHEX, Chunk}
use Rattle.operand_deep.proofs.Lists.{some_of}
use Rattle.format.proofs.Room.{Fit, also, fit_all}

-- ---- framing and the two passes
frame_more : (k t : ℕ) (i left : List ℕ) → length (t ∷ i) ≡ length_of t (i ++ left) → frame (suc k) ((t ∷ i) ++ left) ≡ instruction (t ∷ i) (frame k left)
unfolding frame
frame_more k t i left n = rw (← n, some_of (t ∷ i) left (length (t ∷ i)) refl)

record Passes (c : ℕ) (m : Bool) (at : ℕ) (f : Framed) (l : List Instruction) : Type 0 where
  first : first_pass c m at f ≡ none
  second : second_pass c m at f ≡ none
  list : readings c m f ≡ l

reads_pass : {c : ℕ} {m : Bool} {ds : List ℕ} {l : List Instruction} → Reads c m ds l → (k at : ℕ) → length ds ≤ k → Passes c m at (frame k ds) l
unfolding frame first_pass second_pass readings
reads_pass nil zero at h = record { first = refl; second = refl; list = refl }
reads_pass nil (suc k) at h = record { first = refl; second = refl; list = refl }
reads_pass (cons t i left n s e r) zero at h = impossible (omega (arith, ap length s))
reads_pass {c} {m} (cons t i left n s e r) (suc k) at h =
    let p = reads_pass r k (at + length (t ∷ i)) (omega (arith, ap length s, length-append i left)) in
    rw (← s, frame_more k t i left n) record { first = rw e p.first; second = rw e p.second; list = rw (e, p.list) }

body_reads : {c v : ℕ} (n : ℕ) {ds : List ℕ} {l : List Instruction} → Reads c (is_model51 v) ds l → body c (v ∷ n ∷ ds) ≡ accepted v l
unfolding body
body_reads {v = v} n {ds} r = let p = reads_pass r (length (v ∷ n ∷ ds)) 2 (omega arith) in rw (p.first, p.second, p.list)

-- ---- the header of one size and of another
header_resized : (e v size second size' second' : ℕ) → first_of (header_tests e SHEX size v second) ≡ none → 8 ≤ size' → size' % 4 ≡ 0 → size' ≤ 1_048_576 → second' * 4 ≡ size' → first_of (header_tests e SHEX size' v second') ≡ none
unfolding first_of
header_resized e v size second size' second' h h₂ h₃ h₄ h₈ =
    rw (test 0, test 1, le-ltb size' 8 h₂, eq-eqb (size' % 4) 0 h₃, le-ltb 1_048_576 size' h₄, test 5, test 6, test 7, eq-eqb (second' * 4) size' h₈)
  where
    tests : List (Bool × Refusal)
    tests = header_tests e SHEX size v second

    test : (n : ℕ) → get_or (map (λ (p : Bool × Refusal). p.0) tests) n false ≡ false
    test n = nth_fails n tests h

pub header_untold : {e four : ℕ} {chunk : List ℕ} {v : ℕ} {l : List Instruction} → Chunk e four chunk v l → first_of (header_tests e SHEX 8 v 2) ≡ none
unfolding header
header_untold {e} {four} {chunk} c =
    let ds : List ℕ = dwords_of chunk in
    rw (← c.body_read.version) (header_resized e (get_or ds 0 0) (length chunk) (get_or ds 1 0) 8 2 (header_SHEX e four chunk c.header_passed) (omega arith) (omega arith) (omega arith) (omega arith))

-- ---- the chunk
pub chunk_reads : (e v : ℕ) (ds : List ℕ) {l : List Instruction} → first_of (header_tests e SHEX 8 v 2) ≡ none → v < 2 ^ 32 → Fit ds → 8 + 4 * length ds ≤ 1_048_576 → Reads (ceiling e) (is_model51 v) ds l →
    read_chunk e SHEX (chunk_of v ds) ≡ accepted v l
unfolding read_chunk header chunk_of
chunk_reads e v ds h hv f n r =
    let all : List ℕ = v ∷ (2 + length ds) ∷ ds in
    let g : Fit all = also v hv (also (2 + length ds) (omega arith) f) in
    let d : dwords_of (bytes_of all) ≡ all = dwords_bytes all (fit_all g) in
    let s : length (bytes_of all) ≡ 4 * length all = length_bytes all in
    rw (d, s, header_resized e v 8 2 (4 * length all) (2 + length ds) h (omega arith) (omega arith) (omega arith) (omega arith)) (body_reads (2 + length ds) r)
