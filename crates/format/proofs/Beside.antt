-- Demand 3: an older edition's answer and pools beside a newer's.
use Prim.Native.Nat.{ℕ, zero, suc, ◌+◌, ◌*◌, ◌/◌, ◌-◌, ◌≤◌, ◌<◌}
use mathlib.Core.Path.{◌≡◌, refl, sym, ap, ◌∙◌, subst, subst₂}
use mathlib.Core.List.{List, [], ◌∷◌, ◌++◌, append-nil, map}
use mathlib.Core.Option.{Option, none, some}
use mathlib.Core.Bool.{Bool, true, false, cond}
use lib.ListN.{length, take, drop}
use lib.Seq.{take_at, drop-drop, drop-append_seam}
use lib.Dec.{ltb, lit≤}
use native.Mathlib.Omega.{arith}
use native.Mathlib.Nat.{add-zero, add-suc}
use Rattle.std.specs.Prelude.{Ok, Err}
use borrow.Author.Tests.{lt-ltb, le-ltb}
use Rattle.format.specs.declared.Refusal.{Refusal}
use Rattle.format.specs.declared.Accepted.{Accepted}
use Rattle.format.specs.Dwords.{dwords_of}
use Rattle.format.specs.Framing.{code_of, ceiling}
use Rattle.format.specs.Instructions.{Instruction, unread, pieces, dwords, all_dwords}
use Rattle.format.specs.Rows.{tree_words, tree_table, parts_words, parts_rows, parts_table, parts, unread_row, instruction_row, all_parts}
use Rattle.format.specs.Refusals.{number, place, Outcome, refused, accepted, answer, unless, header, first_of, room, body, decode, Pools, reading}
use Rattle.format.specs.Encoder.{at}
use Rattle.format.specs.Editions.{Entry, entry, ◌holds◌, dwords_at, Unread, Beside}
use Rattle.format.proofs.Dwords.{impossible}
use Rattle.format.proofs.Instructions.{kept_ok}
use Rattle.format.proofs.Refusals.{Reads, nil, cons, unless_accepted, reads_dwords, chunk_accepted, decode_accepted}
use Rattle.format.proofs.Remade.{read_sound, kind_under, sound_kind}
use Rattle.format.proofs.Encoder.{answer_read, answer_accepted, answer_refused}
use Rattle.format.proofs.Editions.{lower, Known, body_accepts, body_refuses}
use Rattle.format.proofs.Entries.{entry_of, nth, row_places, entry_nth, entry_moved}

length_map : (f : Instruction → Instruction) (l : List Instruction) → length (map f l) ≡ length l
length_map f [] = refl
length_map f (i ∷ l) = omega (arith, length_map f l)

-- ---- one instruction
lower_known : (lo : ℕ) (i : Instruction) → code_of (dwords i) < lo → lower lo i ≡ i
unfolding lower
lower_known lo i h = rw (lt-ltb (code_of (dwords i)) lo h)

lower_unknown : (lo : ℕ) (i : Instruction) → lo ≤ code_of (dwords i) → lower lo i ≡ unread (dwords i)
unfolding lower
lower_unknown lo i h = rw (le-ltb (code_of (dwords i)) lo h)

lower_dwords : (lo : ℕ) (i : Instruction) → dwords (lower lo i) ≡ dwords i
unfolding lower dwords
lower_dwords lo i = go (ltb (code_of (dwords i)) lo)
  where
    go : (b : Bool) → dwords (cond b i (unread (dwords i))) ≡ dwords i
    go true = refl
    go false = refl

record Front (at₀ r w : ℕ) (i : Instruction) : Type 0 where
  offset : at 0 (instruction_row at₀ r w i) ≡ at₀
  size : at 1 (instruction_row at₀ r w i) ≡ length (dwords i)
  code : at 2 (instruction_row at₀ r w i) ≡ code_of (dwords i)
  both : take 2 (instruction_row at₀ r w i) ≡ at₀ ∷ length (dwords i) ∷ []

front : (at₀ r w : ℕ) (i : Instruction) → Front at₀ r w i
unfolding instruction_row unread_row dwords code_of
front at₀ r w (unread ds) = record { offset = refl; size = refl; code = refl; both = refl }
front at₀ r w (pieces t e ps) = record { offset = refl; size = refl; code = refl; both = refl }

holds_own : (at₀ r w : ℕ) (i : Instruction) → entry_of at₀ r w i holds entry_of at₀ 0 0 i
holds_own at₀ r w i = let p = row_places at₀ r w i in rw (p.0, p.1) (entry_moved at₀ r w i)

module _ (chunk : List ℕ) where
  unread_entry : (at₀ r w : ℕ) (ds rest : List ℕ) → drop (at₀ / 4) (dwords_of chunk) ≡ ds ++ rest → Unread chunk (entry_of at₀ r w (unread ds))
  unfolding instruction_row unread_row dwords_at parts parts_table parts_words tree_table tree_words
  unread_entry at₀ r w ds rest z =
      let e : take (length ds) (drop (at₀ / 4) (dwords_of chunk)) ≡ ds = rw z (take_at ds rest (length ds) refl) in
      record { row = rw e; operands = refl; words = rw (e, append-nil, append-nil ds) }

  beside : (lo at₀ r w r' w' : ℕ) (i : Instruction) (rest : List ℕ) → drop (at₀ / 4) (dwords_of chunk) ≡ dwords i ++ rest → Beside lo chunk (entry_of at₀ r w i) (entry_of at₀ r' w' (lower lo i))
  beside lo at₀ r w r' w' i rest z =
      let f = front at₀ r w i in
      record {
        boundaries = f.both ∙ rw (← (lower_dwords lo i)) (sym (front at₀ r' w' (lower lo i)).both);
        known = λ h. rw (lower_known lo i (rw f.code at h)) (entry_of at₀ 0 0 i, holds_own at₀ r w i, holds_own at₀ r' w' i);
        unknown = λ h. rw (lower_unknown lo i (rw f.code at h)) (unread_entry at₀ r' w' (dwords i) rest z);
      }

  -- ---- all of them
  besides : (lo n r w r' w' : ℕ) (l : List Instruction) → drop n (dwords_of chunk) ≡ all_dwords l → (k : ℕ) → k < length l → Beside lo chunk (nth (4 * n) r w l k) (nth (4 * n) r' w' (map (lower lo) l) k)
  unfolding nth all_dwords
  besides lo n r w r' w' [] z k h = impossible (omega arith)
  besides lo n r w r' w' (i ∷ l) z zero h =
      let q : 4 * n / 4 ≡ n = omega arith in
      beside lo (4 * n) r w r' w' i (all_dwords l) (rw q z)
  besides lo n r w r' w' (i ∷ l) z (suc k) h =
      let d : length (dwords (lower lo i)) ≡ length (dwords i) = ap length (lower_dwords lo i) in
      let q : 4 * (n + length (dwords i)) ≡ 4 * n + 4 * length (dwords i) = omega arith in
      let s : drop (n + length (dwords i)) (dwords_of chunk) ≡ all_dwords l = sym (drop-drop (length (dwords i)) n (dwords_of chunk)) ∙ ap (drop (length (dwords i))) z ∙ drop-append_seam (dwords i) (all_dwords l) in
      let x = besides lo (n + length (dwords i)) (r + parts_rows (parts i)) (w + length (parts_words (parts i))) (r' + parts_rows (parts (lower lo i))) (w' + length (parts_words (parts (lower lo i)))) l s k (omega arith) in
      subst₂ (λ (a b : ℕ). Beside lo chunk (nth a (r + parts_rows (parts i)) (w + length (parts_words (parts i))) l k) (nth b (r' + parts_rows (parts (lower lo i))) (w' + length (parts_words (parts (lower lo i)))) (map (lower lo) l) k)) q (q ∙ ap (λ (y : ℕ). 4 * n + 4 * y) (sym d)) x

-- ---- kinds
kinds : {c : ℕ} {m : Bool} {ds : List ℕ} {l : List Instruction} → Reads c m ds l → (at₀ r w k : ℕ) → k < length l → at 3 (nth at₀ r w l k).row ≡ kind_under c (at 2 (nth at₀ r w l k).row)
unfolding nth
kinds nil at₀ r w k h = impossible (omega arith)
kinds {c} {m} (cons t i left {j = j} n s e q) at₀ r w zero h = sound_kind (kept_ok (read_sound c m t i) e) at₀ r w
kinds (cons t i left {j = j} n s e q) at₀ r w (suc k) h = kinds q (at₀ + 4 * length (dwords j)) (r + parts_rows (parts j)) (w + length (parts_words (parts j))) k (omega arith)

-- ---- the editions
ceiling_step : (e : ℕ) → e < 3 → ceiling e ≤ ceiling (suc e)
unfolding ceiling
ceiling_step zero h = lit≤ tt
ceiling_step (suc zero) h = lit≤ tt
ceiling_step (suc (suc zero)) h = lit≤ tt
ceiling_step (suc (suc (suc e))) h = impossible (omega arith)

ceilings_rise : (e d : ℕ) → e + d ≤ 3 → ceiling e ≤ ceiling (e + d)
ceilings_rise e zero h = rw (add-zero e) (omega arith)
ceilings_rise e (suc d) h = rw (add-suc e d) (omega (arith, ceilings_rise e d (omega arith), ceiling_step (e + d) (omega arith)))

ceilings : (older newer : ℕ) → older ≤ newer → newer ≤ 3 → ceiling older ≤ ceiling newer
ceilings older newer h k = let z : older + (newer - older) ≡ newer = omega arith in rw z at (ceilings_rise older (newer - older) (omega arith))

header_same : (e e' four : ℕ) (chunk : List ℕ) → e ≤ 3 → e' ≤ 3 → header e four chunk ≡ header e' four chunk
unfolding header first_of
header_same e e' four chunk a b = rw (le-ltb 3 e a, le-ltb 3 e' b)

module _ (older newer four : ℕ) (chunk : List ℕ) (p p' : Pools) (h : older ≤ newer) (k : newer ≤ 3) (room-p : room chunk p ≡ none) (room-p' : room chunk p' ≡ none) where
  -- with room, only the body may differ
  decode_body : (e : ℕ) (q : Pools) → room chunk q ≡ none → decode e four chunk q ≡ unless (header e four chunk) (body (ceiling e) (dwords_of chunk))
  unfolding decode
  decode_body e q z = rw z

  older_accepts : {v : ℕ} {l : List Instruction} → decode newer four chunk p ≡ accepted v l → decode older four chunk p' ≡ accepted v (map (lower (ceiling older)) l)
  older_accepts e =
      let a = unless_accepted (header newer four chunk) (sym (decode_body newer p room-p) ∙ e) in
      decode_body older p' room-p' ∙ rw (header_same older newer four chunk (omega arith) k, a.0) (body_accepts (ceiling older) (ceiling newer) (ceilings older newer h k) (dwords_of chunk) a.1)

  older_refuses : {r : Refusal} → decode newer four chunk p ≡ refused r → Known (ceiling older) (dwords_of chunk) r → decode older four chunk p' ≡ refused r
  older_refuses {r} e n = decode_body older p' room-p' ∙ rw (header_same older newer four chunk (omega arith) k) (go (header newer four chunk) (sym (decode_body newer p room-p) ∙ e))
    where
      go : (o : Option Refusal) → unless o (body (ceiling newer) (dwords_of chunk)) ≡ refused r → unless o (body (ceiling older) (dwords_of chunk)) ≡ refused r
      go none e = body_refuses (ceiling older) (ceiling newer) (ceilings older newer h k) (dwords_of chunk) e n
      go (some x) e = e

  -- stated about the answers and what the pools hold after the two calls
  pub older_answers : (a : Accepted) → answer (decode newer four chunk p) ≡ Ok a → (o' : ℕ) × (w' : ℕ) × (answer (decode older four chunk p') ≡ Ok (record a { operands = o'; words = w' }))
  older_answers a e =
      let r = answer_read (decode newer four chunk p) e in
      let l = map (lower (ceiling older)) r.list in
      let z : length l ≡ a.instructions = length_map (lower (ceiling older)) r.list ∙ r.instructions in
      (parts_rows (all_parts l), length (parts_words (all_parts l)), ap answer (older_accepts r.is) ∙ answer_accepted a.version l z refl refl)

  pub entries_beside : (a : Accepted) → answer (decode newer four chunk p) ≡ Ok a → (k : ℕ) → k < a.instructions →
      Beside (ceiling older) chunk (entry (reading (decode newer four chunk p) p) k) (entry (reading (decode older four chunk p') p') k)
  entries_beside a e k hk =
      let r = answer_read (decode newer four chunk p) e in
      let lo = ceiling older in
      let c = chunk_accepted newer four chunk (decode_accepted newer four chunk p r.is).1 in
      let s : drop 2 (dwords_of chunk) ≡ all_dwords r.list = sym (reads_dwords c.body_read.reads) in
      let kl : k < length r.list = subst (λ (m : ℕ). k < m) (sym r.instructions) hk in
      let kl' : k < length (map (lower lo) r.list) = subst (λ (m : ℕ). k < m) (sym (length_map (lower lo) r.list)) kl in
      let new : entry (reading (decode newer four chunk p) p) k ≡ nth 8 0 0 r.list k = ap (λ (x : Outcome). entry (reading x p) k) r.is ∙ entry_nth a.version r.list p k kl in
      let old : entry (reading (decode older four chunk p') p') k ≡ nth 8 0 0 (map (lower lo) r.list) k = ap (λ (x : Outcome). entry (reading x p') k) (older_accepts r.is) ∙ entry_nth a.version (map (lower lo) r.list) p' k kl' in
      subst₂ (Beside lo chunk) (sym new) (sym old) (besides chunk lo 2 0 0 0 0 r.list s k kl)

  pub older_refusal : (r : Refusal) → answer (decode newer four chunk p) ≡ Err r → (12 < number r → code_of (drop (place r / 4) (dwords_of chunk)) < ceiling older) → answer (decode older four chunk p') ≡ Err r
  older_refusal r e n = (answer_refused _ r).1 (older_refuses ((answer_refused _ r).0 e) n)

-- an instruction's kind depends on its code and the edition only
pub kind_depends : (edition four : ℕ) (chunk : List ℕ) (p : Pools) (a : Accepted) → answer (decode edition four chunk p) ≡ Ok a → (k : ℕ) → k < a.instructions →
    at 3 (entry (reading (decode edition four chunk p) p) k).row ≡ kind_under (ceiling edition) (at 2 (entry (reading (decode edition four chunk p) p) k).row)
kind_depends edition four chunk p a e k hk =
    let r = answer_read (decode edition four chunk p) e in
    let c = chunk_accepted edition four chunk (decode_accepted edition four chunk p r.is).1 in
    let kl : k < length r.list = subst (λ (m : ℕ). k < m) (sym r.instructions) hk in
    let new : entry (reading (decode edition four chunk p) p) k ≡ nth 8 0 0 r.list k = ap (λ (x : Outcome). entry (reading x p) k) r.is ∙ entry_nth a.version r.list p k kl in
    subst (λ (x : Entry). at 3 x.row ≡ kind_under (ceiling edition) (at 2 x.row)) (sym new) (kinds c.body_read.reads 8 0 0 k kl)
