-- Under a lower ceiling a chunk has the same answer, with the codes that it does not know unread.
use Prim.Native.Nat.{ℕ, ◌+◌, ◌*◌, ◌/◌, ◌≤◌, ◌<◌}
use mathlib.Core.Path.{◌≡◌, refl, sym, ap, ◌∙◌, subst}
use mathlib.Core.List.{List, ◌∷◌, map}
use mathlib.Core.Option.{Option, none, some}
use mathlib.Core.Bool.{Bool, true, false, cond}
use lib.ListN.{length, get_or, drop, length-drop}
use lib.Seq.{drop-drop, drop-append_seam}
use lib.Dec.{ltb}
use native.Mathlib.Omega.{arith}
use native.Mathlib.Decide.{dec_lt}
use borrow.Author.Tests.{lt-ltb, le-ltb}
use Rattle.format.specs.declared.Refusal.{Refusal}
use Rattle.format.specs.declared.Refusal.TheVariants.{OperandCount, Layout}
use Rattle.format.specs.Framing.{code_of, Framed, whole, zero_length, past_end, instruction, frame}
use Rattle.format.specs.Instructions.{Instruction, unread, Reading, ok, miscounted, inexact, read, dwords}
use Rattle.format.specs.Refusals.{number, place, Outcome, refused, accepted, unless, either, first_pass, second_pass, readings, is_model51, body}
use Rattle.format.proofs.Dwords.{impossible}
use Rattle.format.proofs.Instructions.{kept_ok, read_restores, read_known, read_unknown}
use Rattle.format.proofs.Refusals.{Cuts, done, zero_length_lem, past_end_lem, more, frame_cuts, unless_accepted, accepted_fields, passed}

-- an instruction under a lower ceiling: as it is, or unread, holding exactly its dwords
unfoldable pub lower : ℕ → Instruction → Instruction
lower lo i = cond (ltb (code_of (dwords i)) lo) i (unread (dwords i))

pub data Order (a b : ℕ) : Type 0 where
  below : a < b → Order a b
  above : b ≤ a → Order a b

pub order : (a b : ℕ) → Order a b
order a b = elim (dec_lt a b) [ yes h ↦ below h | no h ↦ above (omega arith) ]

-- a refusal inside an instruction has a number past 12; the lower ceiling knows that instruction's code
abbrev pub Known : ℕ → List ℕ → Refusal → Type 0
Known lo ds r = 12 < number r → code_of (drop (place r / 4) ds) < lo

module _ (lo hi : ℕ) (lh : lo ≤ hi) (m : Bool) (ds : List ℕ) where
  read_same : (i : List ℕ) → code_of i < lo → read lo m i ≡ read hi m i
  read_same i h = read_known lo m i h ∙ sym (read_known hi m i (omega arith))

  -- a pass over the stream, of which a reading may be hit; where it ends doesn't depend on the ceiling
  record Pass (pass : ℕ → ℕ → Framed → Option Refusal) (hit : Reading → Bool) (r : ℕ → Refusal) : Type 0 where
    step : (c at : ℕ) (i : List ℕ) (f : Framed) → pass c at (instruction i f) ≡ cond (hit (read c m i)) (some (r at)) (pass c (at + length i) f)
    ends : (at : ℕ) → (pass lo at whole ≡ pass hi at whole) × (pass lo at zero_length ≡ pass hi at zero_length) × (pass lo at past_end ≡ pass hi at past_end)
    spares : (i : Instruction) → hit (ok i) ≡ false
    inside : (at : ℕ) → (12 < number (r at)) × (place (r at) / 4 ≡ at)

  module _ {pass : ℕ → ℕ → Framed → Option Refusal} {hit : Reading → Bool} {r : ℕ → Refusal} (p : Pass pass hit r) where
    abbrev Fine : Option Refusal → Type 0
    Fine o = (x : Refusal) → o ≡ some x → Known lo ds x

    same_step : (at : ℕ) (i : List ℕ) (a b : Option Refusal) → Order (code_of i) lo → code_of i ≡ code_of (drop at ds) → Fine (cond (hit (read hi m i)) (some (r at)) b) → (Fine b → a ≡ b) →
        cond (hit (read lo m i)) (some (r at)) a ≡ cond (hit (read hi m i)) (some (r at)) b
    same_step at i a b (below h) z k f = rw (read_same i h) (go (hit (read hi m i)) k)
      where
        go : (x : Bool) → Fine (cond x (some (r at)) b) → cond x (some (r at)) a ≡ cond x (some (r at)) b
        go true k = refl
        go false k = f k
    same_step at i a b (above h) z k f = rw (read_unknown lo m i h, p.spares (unread i)) (go (hit (read hi m i)) k)
      where
        go : (x : Bool) → Fine (cond x (some (r at)) b) → a ≡ cond x (some (r at)) b
        go true k =
            let q = p.inside at in
            let n : code_of (drop (place (r at) / 4) ds) < lo = k (r at) refl q.0 in
            let n₁ : code_of (drop at ds) < lo = rw q.1 at n in
            impossible (omega arith)
        go false k = f k

    same_pass : (at : ℕ) {f : Framed} {l : List ℕ} → Cuts f l → l ≡ drop at ds → Fine (pass hi at f) → pass lo at f ≡ pass hi at f
    same_pass at done z k = (p.ends at).0
    same_pass at zero_length_lem z k = (p.ends at).1
    same_pass at past_end_lem z k = (p.ends at).2
    same_pass at (more t i left {f = f} n s q) z k =
        let next : left ≡ drop (at + length (t ∷ i)) ds = sym (drop-append_seam (t ∷ i) left) ∙ ap (drop (length (t ∷ i))) (s ∙ z) ∙ drop-drop (length (t ∷ i)) at ds in
        rw (p.step lo at (t ∷ i) f, p.step hi at (t ∷ i) f)
        (same_step at (t ∷ i) _ _ (order (code_of (t ∷ i)) lo) (unfold code_of in ap code_of (s ∙ z)) (rw (p.step hi at (t ∷ i) f) at k) (same_pass (at + length (t ∷ i)) q next))

  -- 11, 12 and 13; and 14
  first_pass_lem : Pass (λ c at f. first_pass c m at f) (λ (x : Reading). either x false true false) (λ at. OperandCount (4 * at))
  unfolding first_pass
  first_pass_lem = record { step = λ c at i f. go (read c m i) _ _; ends = λ at. (refl, refl, refl); spares = λ i. refl; inside = λ at. (omega arith, omega arith) }
    where
      go : (x : Reading) (a : Option Refusal) (r : Refusal) → either x a (some r) a ≡ cond (either x false true false) (some r) a
      go (ok i) a r = refl
      go miscounted a r = refl
      go inexact a r = refl

  second_pass_lem : Pass (λ c at f. second_pass c m at f) (λ (x : Reading). either x false false true) (λ at. Layout (4 * at))
  unfolding second_pass
  second_pass_lem = record { step = λ c at i f. go (read c m i) _ _; ends = λ at. (refl, refl, refl); spares = λ i. refl; inside = λ at. (omega arith, omega arith) }
    where
      go : (x : Reading) (a : Option Refusal) (r : Refusal) → either x a a (some r) ≡ cond (either x false false true) (some r) a
      go (ok i) a r = refl
      go miscounted a r = refl
      go inexact a r = refl

  -- what both passes let by is read, lowered
  lower_one : {j : Instruction} (i : List ℕ) → read hi m i ≡ ok j → Order (code_of i) lo → read lo m i ≡ ok (lower lo j)
  unfolding lower
  lower_one {j = j} i e o = rw (kept_ok (read_restores hi m i) e) (go o)
    where
      go : Order (code_of i) lo → read lo m i ≡ ok (cond (ltb (code_of i) lo) j (unread i))
      go (below h) = rw (read_same i h, e, lt-ltb (code_of i) lo h)
      go (above h) = rw (read_unknown lo m i h, le-ltb (code_of i) lo h)

  lower_all : (at : ℕ) (f : Framed) → first_pass hi m at f ≡ none → second_pass hi m at f ≡ none → readings lo m f ≡ map (lower lo) (readings hi m f)
  unfolding first_pass second_pass readings
  lower_all at whole e₁ e₂ = refl
  lower_all at zero_length e₁ e₂ = refl
  lower_all at past_end e₁ e₂ = refl
  lower_all at (instruction i f) e₁ e₂ =
      let p = passed (read hi m i) _ _ _ _ e₁ e₂ in
      rw (p.is, lower_one i p.is (order (code_of i) lo)) (ap (λ (l : List Instruction). lower lo p.instruction ∷ l) (lower_all (at + length i) f p.first p.second))

-- a refusal is a pass's own, or comes later
data Stage (o : Option Refusal) (a : Outcome) (r : Refusal) : Type 0 where
  here : o ≡ some r → Stage o a r
  later : o ≡ none → a ≡ refused r → Stage o a r

stage : (o : Option Refusal) {a : Outcome} {r : Refusal} → unless o a ≡ refused r → Stage o a r
stage none e = later refl e
stage (some x) {r = r} e = let q : x ≡ r = cc in here (ap some q)

module _ (lo hi : ℕ) (lh : lo ≤ hi) (ds : List ℕ) where
  abbrev m : Bool
  m = is_model51 (get_or ds 0 0)

  abbrev f : Framed
  f = frame (length ds) (drop 2 ds)

  cuts : Cuts f (drop 2 ds)
  cuts = frame_cuts (length ds) (drop 2 ds) (simp length-drop (omega arith))

  nothing_found : {o : Option Refusal} → o ≡ none → (x : Refusal) → o ≡ some x → Known lo ds x
  nothing_found e x z = impossible (cc)

  found : {o : Option Refusal} {r : Refusal} → o ≡ some r → Known lo ds r → (x : Refusal) → o ≡ some x → Known lo ds x
  found {r = r} e k x z = let q : r ≡ x = cc in subst (Known lo ds) q k

  first_same : ((x : Refusal) → first_pass hi m 2 f ≡ some x → Known lo ds x) → first_pass lo m 2 f ≡ first_pass hi m 2 f
  first_same k = same_pass lo hi lh m ds (first_pass_lem lo hi lh m ds) 2 cuts refl k

  second_same : ((x : Refusal) → second_pass hi m 2 f ≡ some x → Known lo ds x) → second_pass lo m 2 f ≡ second_pass hi m 2 f
  second_same k = same_pass lo hi lh m ds (second_pass_lem lo hi lh m ds) 2 cuts refl k

  -- what the higher ceiling accepts the lower accepts, lowered
  pub body_accepts : {v : ℕ} {l : List Instruction} → body hi ds ≡ accepted v l → body lo ds ≡ accepted v (map (lower lo) l)
  unfolding body
  body_accepts {v} {l} e =
      let a = unless_accepted (first_pass hi m 2 f) e in
      let b = unless_accepted (second_pass hi m 2 f) a.1 in
      let z = accepted_fields b.1 in
      rw (first_same (nothing_found a.0), a.0, second_same (nothing_found b.0), b.0, lower_all lo hi lh m ds 2 f a.0 b.0) (λ i. accepted (z.0 i) (map (lower lo) (z.1 i)))

  -- what it refuses in framing, or inside an instruction that the lower knows, the lower refuses so too
  pub body_refuses : {r : Refusal} → body hi ds ≡ refused r → Known lo ds r → body lo ds ≡ refused r
  unfolding body
  body_refuses {r} e k = go (stage (first_pass hi m 2 f) e)
    where
      last : Outcome
      last = accepted (get_or ds 0 0) (readings lo m f)

      go₂ : first_pass hi m 2 f ≡ none → Stage (second_pass hi m 2 f) (accepted (get_or ds 0 0) (readings hi m f)) r → unless (first_pass lo m 2 f) (unless (second_pass lo m 2 f) last) ≡ refused r
      go₂ z (here y) = rw (first_same (nothing_found z), z, second_same (found y k), y)
      go₂ z (later y x) = impossible (cc)

      go : Stage (first_pass hi m 2 f) (unless (second_pass hi m 2 f) (accepted (get_or ds 0 0) (readings hi m f))) r → unless (first_pass lo m 2 f) (unless (second_pass lo m 2 f) last) ≡ refused r
      go (here y) = rw (first_same (found y k), y)
      go (later z x) = go₂ z (stage (second_pass hi m 2 f) x)
