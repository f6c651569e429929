-- What comes of a chunk past its header: the answer, and what the pools hold.
use Prim.Native.Nat.{ℕ, ◌+◌, ◌*◌, ◌-◌, ◌/◌, ◌≤◌}
use mathlib.Core.Path.{◌≡◌, refl, sym, ap, ◌∙◌, subst}
use mathlib.Core.List.{List, ◌++◌}
use mathlib.Core.Option.{Option, none, some}
use mathlib.Core.Bool.{Bool, true, not, ◌||◌}
use lib.ListN.{length, get_or, drop, replicate, length-drop}
use lib.Dec.{ltb}
use native.Mathlib.Omega.{arith}
use Rattle.std.proofs.lemmas.Bool.Decides.{nat_tests}
use Rattle.format.specs.declared.Refusal.{Refusal}
use Rattle.format.specs.declared.Refusal.TheVariants.{OperandCount, Layout}
use Rattle.std.specs.Prelude.{Ok, Err}
use Rattle.format.specs.Dwords.{dwords_of}
use Rattle.format.specs.Framing.{Framed, whole, zero_length, past_end, instruction, frame}
use Rattle.format.specs.Instructions.{Instruction, Reading, ok, miscounted, inexact, read}
use Rattle.format.specs.Refusals.{Outcome, refused, accepted, number, either, unless, first_pass, second_pass, readings, is_model51, body, answer, after}
use Rattle.format.specs.Rows.{parts_words, parts_table, instruction_rows, all_parts}
use Rattle.format.proofs.Dwords.{impossible, length_dwords}
use Rattle.format.proofs.Refusals.{unless_accepted, accepted_fields, body_accepted, reads_dwords}
use Rattle.format.proofs.Rows.{all_fit}
use Rattle.format.proofs.Room.{reads_count}
use Rattle.header.specs.Header.{has_room}
use Rattle.stream.specs.declared.Needs.{Needs}
use Rattle.stream.specs.Stream.{passes, measured}
use Rattle.stream.proofs.Outcomes.{refused_body, fine_body}
use Rattle.operand_rows.proofs.Lists.{over_front}
use Rattle.stream_write.specs.Writing.{start, stream, rest, Writing, Left}
use Rattle.decode.specs.Decode.{Entered, Ends}

-- refusals past the header are 11 to 14
abbrev Late : Option Refusal → Type 0
Late none = Unit
Late (some r) = ltb 10 (number r) ≡ true

either_late : (x : Reading) (a b d : Option Refusal) → Late a → Late b → Late d → Late (either x a b d)
either_late (ok j) a b d p q r = p
either_late miscounted a b d p q r = q
either_late inexact a b d p q r = r

module _ (c : ℕ) (m : Bool) where
  first_late : (at : ℕ) (f : Framed) → Late (first_pass c m at f)
  unfolding first_pass
  first_late at whole = tt
  first_late at zero_length = refl
  first_late at past_end = refl
  first_late at (instruction i f) = let n : Option Refusal = first_pass c m (at + length i) f in either_late (read c m i) n (some (OperandCount (4 * at))) n (first_late (at + length i) f) refl (first_late (at + length i) f)

  second_late : (at : ℕ) (f : Framed) → Late (second_pass c m at f)
  unfolding second_pass
  second_late at whole = tt
  second_late at zero_length = tt
  second_late at past_end = tt
  second_late at (instruction i f) = let n : Option Refusal = second_pass c m (at + length i) f in either_late (read c m i) n n (some (Layout (4 * at))) (second_late (at + length i) f) (second_late (at + length i) f) refl

unless_late : (a b : Option Refusal) (v : ℕ) (l : List Instruction) {r : Refusal} → Late a → Late b → unless a (unless b (accepted v l)) ≡ refused r → ltb 10 (number r) ≡ true
unless_late (some x) b v l {r = r} p q e = let z : x ≡ r = cc in subst (λ (k : Refusal). ltb 10 (number k) ≡ true) z p
unless_late none (some x) v l {r = r} p q e = let z : x ≡ r = cc in subst (λ (k : Refusal). ltb 10 (number k) ≡ true) z q
unless_late none none v l p q e = impossible (cc)

body_late : (c : ℕ) (ds : List ℕ) {r : Refusal} → body c ds ≡ refused r → ltb 10 (number r) ≡ true
unfolding body
body_late c ds e =
    let m : Bool = is_model51 (get_or ds 0 0) in
    let f : Framed = frame (length ds) (drop 2 ds) in
    unless_late (first_pass c m 2 f) (second_pass c m 2 f) (get_or ds 0 0) (readings c m f) (first_late c m 2 f) (second_late c m 2 f) e

zeroed : (rows : List Instruction → List ℕ) {o : Outcome} {r : Refusal} → o ≡ refused r → ltb 10 (number r) ≡ true → (pool pool' : List ℕ) → pool' ≡ replicate (length pool) 0 → pool' ≡ after rows o pool
unfolding after
zeroed rows e k pool pool' z = rw (e, k) z

module _ (c : ℕ) (ds : List ℕ) {m : Bool} (q : m ≡ is_model51 (get_or ds 0 0)) where
  pub refused_ends : {r : Refusal} → Err r ≡ measured (passes c m ds) → (is os ws is' os' ws' : List ℕ) → is' ≡ replicate (length is) 0 → os' ≡ replicate (length os) 0 → ws' ≡ replicate (length ws) 0 →
      Ends (body c ds) is os ws (Err r) is' os' ws'
  refused_ends x is os ws is' os' ws' a b d =
      let e = refused_body c ds q x in
      let k = body_late c ds e in
      record {
        answered = sym (ap answer e ∙ unfold answer in refl);
        instructions = zeroed (instruction_rows 8 0 0) e k is is' a;
        operands = zeroed (λ l. parts_table 0 0 (all_parts l)) e k os os' b;
        words = zeroed (λ l. parts_words (all_parts l)) e k ws ws' d;
      }

  -- neither pass refuses a chunk that is accepted, and what was read is the stream's
  record Both (l : List Instruction) : Type 0 where
    first : first_pass c m 2 (stream c m ds 2) ≡ none
    second : second_pass c m 2 (stream c m ds 2) ≡ none
    same : l ≡ rest c m ds 2

  both : {v : ℕ} {l : List Instruction} → body c ds ≡ accepted v l → Both l
  unfolding body
  both e =
      let e' = (rw (← q) at e) in
      let a = unless_accepted (first_pass c m 2 (stream c m ds 2)) e' in
      let b = unless_accepted (second_pass c m 2 (stream c m ds 2)) a.1 in
      record { first = a.0; second = b.0; same = sym (accepted_fields b.1).1 }

  hold : (rows : List Instruction → List ℕ) {v : ℕ} {l : List Instruction} → body c ds ≡ accepted v l → (pool pool' : List ℕ) → pool' ≡ rows l ++ drop (length (rows l)) pool → pool' ≡ after rows (body c ds) pool
  unfolding after
  hold rows e pool pool' z = rw e z

  pub fine_ends : {v : ℕ} {n : Needs} → v ≡ get_or ds 0 0 → Ok n ≡ measured (passes c m ds) → (is os ws is' os' ws' : List ℕ) → Left c m ds start is os ws is' os' ws' → Ends (body c ds) is os ws (Ok (record { version = v; instructions = n.instructions; operands = n.operands; words = n.words })) is' os' ws'
  fine_ends {v} {n} ev x is os ws is' os' ws' l =
      let k = fine_body c ds q x in
      let b = both k.is in
      record {
        answered = (λ j. Ok (record { version = ev j; instructions = k.instructions j; operands = k.operands j; words = k.words j })) ∙ sym (ap answer k.is ∙ unfold answer in refl);
        instructions = hold (instruction_rows 8 0 0) k.is is is' (over_front (instruction_rows 8 0 0 k.list) is is' (rw (← b.same) at l.rows_put));
        operands = hold (λ l. parts_table 0 0 (all_parts l)) k.is os os' (over_front (parts_table 0 0 (all_parts k.list)) os os' (rw (← b.same) at l.operands_put));
        words = hold (λ l. parts_words (all_parts l)) k.is ws ws' (over_front (parts_words (all_parts k.list)) ws ws' (rw (← b.same) at l.words_put));
      }

room_numbers : (a b d x y z : ℕ) → not (ltb x a || ltb y b || ltb z d) ≡ true → (a ≤ x) × (b ≤ y) × (d ≤ z)
room_numbers a b d x y z e = grind (arith, nat_tests)

-- a chunk that was measured can be written
pub begins : (c : ℕ) (chunk : List ℕ) {m : Bool} {v is os ws : ℕ} {n : Needs} → m ≡ is_model51 v → Entered chunk v is os ws → Ok n ≡ measured (passes c m (dwords_of chunk)) → Writing c m (dwords_of chunk) start is os ws
begins c chunk {m} {v} {is} {os} {ws} {n} em e x =
    let ds : List ℕ = dwords_of chunk in
    let q : m ≡ is_model51 (get_or ds 0 0) = em ∙ ap is_model51 e.version_is in
    let k = fine_body c ds q x in
    let b = both c ds q k.is in
    let k₁ = room_numbers (16 * (length chunk / 4 - 2)) (16 * (length chunk / 4 - 2)) (length chunk / 4 - 2) is os ws (unfold has_room in e.roomy) in
    let r = (body_accepted c ds k.is).reads in
    let d : length (drop 2 ds) ≡ length chunk / 4 - 2 = length-drop 2 ds ∙ omega (arith, length_dwords chunk) in
    let f = all_fit k.list in
    let g = ap length (reads_dwords r) in
    let h = reads_count r in
    record {
      within = omega (arith, length_dwords chunk, e.header_fits);
      few = omega (arith, length_dwords chunk, e.short);
      counted = omega arith;
      fits = omega arith;
      first = b.first;
      second = b.second;
      for_rows = rw (← b.same) (omega (arith, k₁.0, h, d));
      for_operands = rw (← b.same) (omega (arith, k₁.1, f, g, d));
      for_words = rw (← b.same) (omega (arith, k₁.2, f, g, d));
    }
