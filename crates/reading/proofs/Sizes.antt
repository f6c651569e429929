-- What a walk over lent rows and words says of the chunk that gives them.
use Prim.Native.Nat.{ℕ, zero, suc, ◌+◌, ◌*◌, ◌/◌, ◌≤◌, ◌<◌}
use mathlib.Core.Path.{◌≡◌, refl, sym, ap, ◌∙◌}
use mathlib.Core.List.{List, ◌∷◌}
use mathlib.Core.Option.{Option as Maybe, none as nothing, some as just}
use Rattle.std.specs.Prelude.{Option, Some, None}
use mathlib.Core.Bool.{Bool, true, false, ◌||◌}
use lib.ListN.{length, take}
use lib.Seq.{length-take-le}
use native.Mathlib.Omega.{arith}
use borrow.Author.Tests.{lt-ltb, le-ltb}
use lib.Dec.{ltb}
use Rattle.format.specs.Framing.{ceiling}
use Rattle.format.specs.Instructions.{Instruction, all_dwords}
use Rattle.format.specs.Refusals.{Rows, SHEX, first_of, header_tests, is_model51}
use Rattle.format.specs.Encoder.{past_pool, held, chunk_of, chunk_giving}
use Rattle.format.proofs.Dwords.{length_bytes}
use Rattle.reading.specs.Confirm.{untold, confirm_all, confirm_chunk}
use Rattle.reading.specs.Walks.{lent, read_of, dwords_from}
use Rattle.reading.proofs.Chunk.{Fit, chunk_of_all, chunk_confirmed}

pub ceiling_small : (e : ℕ) → ceiling e ≤ 2048
unfolding ceiling
ceiling_small zero = omega arith
ceiling_small (suc zero) = omega arith
ceiling_small (suc (suc zero)) = omega arith
ceiling_small (suc (suc (suc zero))) = omega arith
ceiling_small (suc (suc (suc (suc e)))) = omega arith

pub whole_rows : (n : ℕ) (l : List ℕ) → n * 16 ≤ length l → 16 * (length (take (n * 16) l) / 16) ≡ length (take (n * 16) l)
whole_rows n l h = rw (length-take-le (n * 16) l h) (omega arith)

-- a count past a pool
past_none : (e : ℕ) (q : Rows) → past_pool q ≡ true → None ≡ read_of (chunk_giving e q)
unfolding chunk_giving
past_none e q h = rw h

or_left : (a b : Bool) → a ≡ true → (a || b) ≡ true
or_left a b h = rw h

or_right : (a b : Bool) → b ≡ true → (a || b) ≡ true
or_right true b h = refl
or_right false b h = h

-- the dwords of the chunk
all_dwords_lem : (v : ℕ) (x : Maybe (List Instruction)) → dwords_from 2 x ≡ read_of (chunk_of_all v x)
unfolding chunk_of
all_dwords_lem v nothing = refl
all_dwords_lem v (just l) =
    let n : 2 + length (all_dwords l) ≡ length (chunk_of v (all_dwords l)) / 4 = omega (arith, length_bytes (v ∷ (2 + length (all_dwords l)) ∷ all_dwords l)) in
    ap (λ (k : ℕ). Some k) n

module _ (e v i o w : ℕ) (is os ws : List ℕ) where
  abbrev q : Rows
  q = lent v i o w is os ws

  pub instructions_past : length is < 16 * i → None ≡ read_of (chunk_giving e q)
  unfolding past_pool
  instructions_past h = past_none e q (or_left _ _ (or_left _ _ (lt-ltb (length is) (16 * i) h)))

  pub operands_past : length os < 16 * o → None ≡ read_of (chunk_giving e q)
  unfolding past_pool
  operands_past h = past_none e q (or_left _ _ (or_right (ltb (length is) (16 * i)) _ (lt-ltb (length os) (16 * o) h)))

  pub words_past : length ws < w → None ≡ read_of (chunk_giving e q)
  unfolding past_pool
  words_past h = past_none e q (or_right (ltb (length is) (16 * i) || ltb (length os) (16 * o)) _ (lt-ltb (length ws) w h))

  module _ (f : Fit q) (hi : 16 * i ≤ length is) (ho : 16 * o ≤ length os) (hw : w ≤ length ws) where
    inside : past_pool q ≡ false
    unfolding past_pool
    inside = rw (le-ltb (length is) (16 * i) hi, le-ltb (length os) (16 * o) ho, le-ltb (length ws) w hw)

    as_confirmed : dwords_from 2 (confirm_chunk e q) ≡ read_of (chunk_giving e q)
    as_confirmed = all_dwords_lem v (confirm_chunk e q) ∙ ap read_of (sym (chunk_confirmed e q f))

    pub version_none : false ≡ untold (first_of (header_tests e SHEX 8 v 2)) → None ≡ read_of (chunk_giving e q)
    unfolding confirm_chunk
    version_none h =
        let z : confirm_chunk e q ≡ nothing = rw (inside, ← h) in
        sym (ap (dwords_from 2) z) ∙ as_confirmed

    pub all_walked : true ≡ untold (first_of (header_tests e SHEX 8 v 2)) → {c : ℕ} {m : Bool} → c ≡ ceiling e → m ≡ is_model51 v → {r : Option ℕ} →
        r ≡ dwords_from 2 (confirm_all c m (length (take (i * 16) is) / 16) 8 (take (i * 16) is) (take (o * 16) os) (take w ws) 0 0) → r ≡ read_of (chunk_giving e q)
    unfolding confirm_chunk held
    all_walked h {c} {m} ec em er =
        let za : i * 16 ≡ 16 * i = omega arith in
        let zb : o * 16 ≡ 16 * o = omega arith in
        let k : length (take (16 * i) is) / 16 ≡ i = omega (arith, length-take-le (16 * i) is hi) in
        let z : confirm_all (ceiling e) (is_model51 v) i 8 (take (16 * i) is) (take (16 * o) os) (take w ws) 0 0 ≡ confirm_chunk e q = rw (inside, ← h) in
        er ∙ (λ j. dwords_from 2 (confirm_all (ec j) (em j) (length (take (za j) is) / 16) 8 (take (za j) is) (take (zb j) os) (take w ws) 0 0)) ∙ ap (λ (y : ℕ). dwords_from 2 (confirm_all (ceiling e) (is_model51 v) y 8 (take (16 * i) is) (take (16 * o) os) (take w ws) 0 0)) k ∙ ap (dwords_from 2) z ∙ as_confirmed
