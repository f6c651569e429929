-- A walk over a stream: each way past an instruction, and the end.
use Prim.Native.Nat.{ℕ, suc, ◌+◌, ◌*◌, ◌-◌, ◌≤◌, ◌<◌}
use mathlib.Core.Path.{◌≡◌, refl, sym, ap, ◌∙◌}
use mathlib.Core.List.{List}
use mathlib.Core.Option.{Option, none, some}
use mathlib.Core.Bool.{Bool}
use lib.ListN.{length, get_or, take, drop, length-append}
use lib.Seq.{length-slice, slice}
use native.Mathlib.Omega.{arith}
use Rattle.format.specs.declared.Refusal.{Refusal}
use Rattle.format.specs.declared.Refusal.TheVariants.{ZeroLength, PastEnd, OperandCount, Layout}
use Rattle.format.specs.Dwords.{dwords_of}
use Rattle.format.specs.Framing.{length_of, Framed, whole, zero_length, past_end, instruction, frame}
use Rattle.format.specs.Instructions.{Instruction, Reading, ok, miscounted, inexact, read}
use Rattle.format.specs.Refusals.{accepted, unless, first_pass, second_pass, readings}
use Rattle.format.specs.Rows.{parts_rows, parts_words, parts, all_parts}
use Rattle.format.proofs.Dwords.{impossible}
use Rattle.format.proofs.Instructions.{kept_ok, read_restores}
use Rattle.format.proofs.Rows.{rows_append, words_append, instruction_fits}
use Rattle.std.specs.Prelude.{Option as CodeOption, Some, None, Result, Ok, Err, IfSome}
use Rattle.std.specs.Option.{option_or}
use Rattle.instruction.specs.declared.Needs.{Needs as OneNeeds}
use Rattle.instruction.specs.declared.Fault.{Fault}
use Rattle.instruction.specs.declared.Fault.TheVariants.{Miscounted, Inexact}
use Rattle.instruction.specs.Measure.{verdict}
use Rattle.stream.specs.declared.Walk.{Walk}
use Rattle.stream.specs.Stream.{passes, needs, measured, told, since, onward, noted, Walking, Steps}
use Rattle.stream.proofs.Frames.{part_dwords, frame_end, frame_zero, frame_past, frame_next}

-- what a verdict says of the reading
pub record Fined (x : Reading) (n : OneNeeds) : Type 0 where
  pub one : Instruction
  pub is : x ≡ ok one
  pub rows : n.rows ≡ parts_rows (parts one)
  pub words : n.words ≡ length (parts_words (parts one))

pub fined : (x : Reading) (n : OneNeeds) → Ok n ≡ verdict x → Fined x n
fined (ok i) n p = record { one = i; is = refl; rows = (cc); words = (cc) }
fined miscounted n p = impossible (cc)
fined inexact n p = impossible (cc)

pub miscounts : (x : Reading) → Err Miscounted ≡ verdict x → x ≡ miscounted
miscounts (ok i) p = impossible (cc)
miscounts miscounted p = refl
miscounts inexact p = impossible (cc)

pub inexacts : (x : Reading) → Err Inexact ≡ verdict x → x ≡ inexact
inexacts (ok i) p = impossible (cc)
inexacts miscounted p = impossible (cc)
inexacts inexact p = refl

-- an instruction's own part of the chunk
pub part_some : (a b : ℕ) (l : List ℕ) → a < b → b ≤ length (dwords_of l) → 0 < length (dwords_of (take (b * 4 - a * 4) (drop (a * 4) l)))
part_some a b l h k = omega (arith, ap length (part_dwords a b l (omega arith) (omega arith)), length-slice a b (dwords_of l) k)

pub part_verdict : (c : ℕ) (m : Bool) (a b : ℕ) (l : List ℕ) → a < b → b ≤ length (dwords_of l) → {v : Result OneNeeds Fault} → v ≡ verdict (read c m (dwords_of (take (b * 4 - a * 4) (drop (a * 4) l)))) →
    v ≡ verdict (read c m (slice a b (dwords_of l)))
part_verdict c m a b l h k e = e ∙ ap (λ (ds : List ℕ). verdict (read c m ds)) (part_dwords a b l (omega arith) (omega arith))

told_totals : (a b : Option Refusal) {i o w i' o' w' : ℕ} → i ≡ i' → o ≡ o' → w ≡ w' → told a b i o w ≡ told a b i' o' w'
told_totals a b p q r = λ k. told a b (p k) (q k) (r k)

-- at the stream's start
told_whole : (a b : Option Refusal) (l : List Instruction) → told a b (length l) (parts_rows (all_parts l)) (length (parts_words (all_parts l))) ≡ measured (unless a (unless b (accepted 0 l)))
told_whole (some r) b l = refl
told_whole none (some r) l = refl
told_whole none none l = refl

pub begin : (c : ℕ) (m : Bool) (ds : List ℕ) → 2 ≤ length ds → Walking c m ds (record { at = 2; instructions = 0; operands = 0; words = 0; late = None })
unfolding onward passes
begin c m ds h = record { begun = omega arith; within = h; counted = omega arith; fits = omega arith; early = tt; same = from }
  where
    from : onward c m (frame (length ds) (drop 2 ds)) (record { at = 2; instructions = 0; operands = 0; words = 0; late = None }) ≡ measured (passes c m ds)
    from =
        let f : Framed = frame (length ds) (drop 2 ds) in
        told_totals (first_pass c m 2 f) (second_pass c m 2 f) (omega arith) (omega arith) (omega arith) ∙ told_whole (first_pass c m 2 f) (second_pass c m 2 f) (readings c m f)

-- what an instruction changes
module _ (c : ℕ) (m : Bool) (s : Walk) where
  at_zero : Err (ZeroLength (4 * s.at)) ≡ onward c m zero_length s
  unfolding onward first_pass
  at_zero = refl

  at_past : Err (PastEnd (4 * s.at)) ≡ onward c m past_end s
  unfolding onward first_pass
  at_past = refl

  module _ (i : List ℕ) (f : Framed) where
    at_miscounted : read c m i ≡ miscounted → Err (OperandCount (4 * s.at)) ≡ onward c m (instruction i f) s
    unfolding onward first_pass
    at_miscounted e = rw e

    module _ (end : ℕ) (z : end ≡ s.at + length i) where
      at_fine : (j : Instruction) → read c m i ≡ ok j → {r w : ℕ} → r ≡ parts_rows (parts j) → w ≡ length (parts_words (parts j)) →
          onward c m f (record { at = end; instructions = s.instructions + 1; operands = s.operands + r; words = s.words + w; late = s.late }) ≡ onward c m (instruction i f) s
      unfolding onward first_pass second_pass readings all_parts
      at_fine j e {r} {w} p q =
          let l : List Instruction = readings c m f in
          rw (e, z)
          (told_totals (first_pass c m (s.at + length i) f) (since s.late (second_pass c m (s.at + length i) f)) (omega arith) (omega (arith, rows_append (parts j) (all_parts l)))
          (omega (arith, ap length (words_append (parts j) (all_parts l)), length-append (parts_words (parts j)) (parts_words (all_parts l)))))

      since_first : (late : CodeOption ℕ) (p : ℕ) (b : Option Refusal) → since (option_or late (Some p)) b ≡ since late (some (Layout p))
      since_first None p b = refl
      since_first (Some k) p b = refl

      at_inexact : read c m i ≡ inexact → onward c m f (noted s end) ≡ onward c m (instruction i f) s
      unfolding onward first_pass second_pass readings
      at_inexact e =
          rw (e, z)
          (ap (λ (b : Option Refusal). told (first_pass c m (s.at + length i) f) b (s.instructions + length (readings c m f)) (s.operands + parts_rows (all_parts (readings c m f))) (s.words + length (parts_words (all_parts (readings c m f)))))
          (since_first s.late (4 * s.at) (second_pass c m (s.at + length i) f)))

-- the ways past an instruction
module _ {c : ℕ} {m : Bool} {ds : List ℕ} {s : Walk} (w : Walking c m ds s) (h : s.at < length ds) {n : ℕ} (e : n ≡ length_of (get_or ds s.at 0) (drop (suc s.at) ds)) where
  pub zero_off : n ≡ 0 → {p : ℕ} → p ≡ 4 * s.at → Steps c m ds s.at (Err (ZeroLength p))
  zero_off z q = ap (λ (k : ℕ). Err (ZeroLength k)) q ∙ at_zero c m s ∙ ap (λ (f : Framed). onward c m f s) (sym (frame_zero ds s.at n h e z)) ∙ w.same

  pub past_off : (n ≡ 0 → ⊥) → {d : ℕ} → d ≡ length ds → d - s.at < n → {p : ℕ} → p ≡ 4 * s.at → Steps c m ds s.at (Err (PastEnd p))
  past_off z ed k q = ap (λ (k : ℕ). Err (PastEnd k)) q ∙ at_past c m s ∙ ap (λ (f : Framed). onward c m f s) (sym (frame_past ds s.at n h e (omega arith) (omega arith))) ∙ w.same

  module _ (z : n ≡ 0 → ⊥) {d : ℕ} (ed : d ≡ length ds) (k : n ≤ d - s.at) where
    here : onward c m (instruction (slice s.at (s.at + n) ds) (frame (length ds) (drop (s.at + n) ds))) s ≡ measured (passes c m ds)
    here = ap (λ (f : Framed). onward c m f s) (sym (frame_next ds s.at n h e (omega arith) (omega arith))) ∙ w.same

    long : s.at + n ≡ s.at + length (slice s.at (s.at + n) ds)
    long = omega (arith, length-slice s.at (s.at + n) ds (omega arith))

    pub miscounted_off : read c m (slice s.at (s.at + n) ds) ≡ miscounted → {p : ℕ} → p ≡ 4 * s.at → Steps c m ds s.at (Err (OperandCount p))
    miscounted_off x q = ap (λ (k : ℕ). Err (OperandCount k)) q ∙ at_miscounted c m s _ _ x ∙ here

    -- rows and words are no more than dwords
    pub fine_fits : {a : OneNeeds} → Fined (read c m (slice s.at (s.at + n) ds)) a → a.rows + a.words ≤ n
    fine_fits x =
        omega (arith, x.rows, x.words, instruction_fits x.one, ap length (kept_ok (read_restores c m (slice s.at (s.at + n) ds)) x.is), long)

    -- a place that was noted stays behind the walk
    early_on : (late : CodeOption ℕ) → IfSome late (λ k. k ≤ 4 * s.at) → IfSome late (λ k. k ≤ 4 * (s.at + n))
    early_on None h = tt
    early_on (Some k) h = omega arith

    pub fine_on : {a : OneNeeds} → Fined (read c m (slice s.at (s.at + n) ds)) a →
        Steps c m ds s.at (Ok (record { at = s.at + n; instructions = s.instructions + 1; operands = s.operands + a.rows; words = s.words + a.words; late = s.late }))
    fine_on {a} x = (
      omega arith,
      record {
        begun = omega (arith, w.begun);
        within = omega arith;
        counted = omega (arith, w.counted);
        fits = omega (arith, w.fits, fine_fits x);
        early = early_on s.late w.early;
        same = at_fine c m s _ _ (s.at + n) long x.one x.is x.rows x.words ∙ here;
      },
    )

    first_early : (late : CodeOption ℕ) → IfSome late (λ k. k ≤ 4 * s.at) → IfSome (option_or late (Some (4 * s.at))) (λ k. k ≤ 4 * (s.at + n))
    first_early None h = omega arith
    first_early (Some k) h = omega arith

    pub inexact_on : read c m (slice s.at (s.at + n) ds) ≡ inexact → Steps c m ds s.at (Ok (noted s (s.at + n)))
    inexact_on x = (
      omega arith,
      record {
        begun = omega (arith, w.begun);
        within = omega arith;
        counted = omega (arith, w.counted);
        fits = omega (arith, w.fits);
        early = first_early s.late w.early;
        same = at_inexact c m s _ _ (s.at + n) long x ∙ here;
      },
    )

-- the end of the stream
module _ {c : ℕ} {m : Bool} {ds : List ℕ} {s : Walk} (w : Walking c m ds s) (h : length ds ≤ s.at) where
  ended : onward c m whole s ≡ measured (passes c m ds)
  ended = ap (λ (f : Framed). onward c m f s) (sym (frame_end (length ds) ds s.at h)) ∙ w.same

  pub late_told : {p : ℕ} → s.late ≡ Some p → Err (Layout p) ≡ measured (passes c m ds)
  unfolding onward first_pass second_pass
  late_told {p} z = go ∙ ended
    where
      go : Err (Layout p) ≡ onward c m whole s
      go = rw z refl

  pub fine_told : s.late ≡ None → {i o v : ℕ} → i ≡ s.instructions → o ≡ s.operands → v ≡ s.words → needs i o v ≡ measured (passes c m ds)
  unfolding onward first_pass second_pass readings all_parts parts_rows parts_words
  fine_told z {i} {o} {v} a b d = go ∙ ended
    where
      go : needs i o v ≡ onward c m whole s
      go = rw z (told_totals none none (omega arith) (omega arith) (omega arith))
