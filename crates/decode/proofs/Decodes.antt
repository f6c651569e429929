-- A chunk, header and all.
use Prim.Native.Nat.{ℕ}
use mathlib.Core.Path.{◌≡◌, refl, sym, subst}
use mathlib.Core.List.{List, [], ◌∷◌}
use mathlib.Core.Option.{none, some}
use mathlib.Core.Bool.{Bool, true, false}
use lib.ListN.{length, get_or}
use lib.Dec.{ltb}
use Rattle.format.specs.declared.Refusal.{Refusal}
use Rattle.format.specs.declared.Refusal.TheVariants.{Room}
use Rattle.std.specs.Prelude.{Result, Err}
use Rattle.format.specs.declared.Accepted.{Accepted}
use Rattle.format.specs.Dwords.{dwords_of}
use Rattle.format.specs.Framing.{ceiling}
use Rattle.format.specs.Refusals.{Outcome, refused, number, first_of, header, body, decode, answer, after, pools_after}
use Rattle.format.proofs.Dwords.{impossible}
use Rattle.format.proofs.Refusals.{passing}
use Rattle.header.specs.Header.{has_room}
use Rattle.header.proofs.Room.{room_of}
use Rattle.decode.specs.Decode.{lent, Entered, Ends, Decoded}

-- refusals of the header are 1 to 9
data Early : List (Bool × Refusal) → Type 0 where
  end : Early []
  early : (b : Bool) (r : Refusal) {l : List (Bool × Refusal)} → ltb 10 (number r) ≡ false → Early l → Early ((b, r) ∷ l)

first_early : {l : List (Bool × Refusal)} → Early l → {r : Refusal} → first_of l ≡ some r → ltb 10 (number r) ≡ false
unfolding first_of
first_early end e = impossible (cc)
first_early (early true x p k) {r} e = let z : x ≡ r = cc in subst (λ (n : Refusal). ltb 10 (number n) ≡ false) z p
first_early (early false x p k) e = first_early k e

header_early : (edition four : ℕ) (chunk : List ℕ) {r : Refusal} → header edition four chunk ≡ some r → ltb 10 (number r) ≡ false
unfolding header
header_early edition four chunk e =
    first_early (early _ _ refl (early _ _ refl (early _ _ refl (early _ _ refl (early _ _ refl (early _ _ refl (early _ _ refl (early _ _ refl (early _ _ refl end))))))))) e

module _ (edition four : ℕ) (chunk is os ws : List ℕ) where
  -- what is said of the outcome is said of the call
  decoded : {o : Outcome} {a : Result Accepted Refusal} {is' os' ws' : List ℕ} → decode edition four chunk (lent is os ws) ≡ o → Ends o is os ws a is' os' ws' → Decoded edition four chunk is os ws a is' os' ws'
  unfolding pools_after
  decoded q e = record {
    answered = rw q e.answered;
    instructions = rw q e.instructions;
    operands = rw q e.operands;
    words = rw q e.words;
  }

  -- untouched
  untouched : {r : Refusal} → ltb 10 (number r) ≡ false → Ends (refused r) is os ws (Err r) is os ws
  unfolding after answer
  untouched k = record { answered = refl; instructions = rw k refl; operands = rw k refl; words = rw k refl }

  pub by_header : {r : Refusal} → header edition four chunk ≡ some r → Decoded edition four chunk is os ws (Err r) is os ws
  unfolding decode
  by_header e = decoded (rw e refl) (untouched (header_early edition four chunk e))

  module _ (p : header edition four chunk ≡ none) where
    pub by_room : false ≡ has_room (length chunk) (length is) (length os) (length ws) → Decoded edition four chunk is os ws (Err Room) is os ws
    unfolding decode
    by_room e = decoded (rw (p, room_of chunk (lent is os ws), ← e) refl) (untouched refl)

    pub by_body : true ≡ has_room (length chunk) (length is) (length os) (length ws) → {a : Result Accepted Refusal} {is' os' ws' : List ℕ} {c : ℕ} → c ≡ ceiling edition → Ends (body c (dwords_of chunk)) is os ws a is' os' ws' →
        Decoded edition four chunk is os ws a is' os' ws'
    unfolding decode
    by_body e z k = decoded (rw (p, room_of chunk (lent is os ws), ← e, z) refl) k

    pub entered : {v : ℕ} → v ≡ get_or (dwords_of chunk) 0 0 → true ≡ has_room (length chunk) (length is) (length os) (length ws) → Entered chunk v (length is) (length os) (length ws)
    entered ev e =
        let k = passing edition four chunk p in
        record { header_fits = k.header_fits; whole = k.whole; short = k.short; version_is = ev; roomy = sym e }
