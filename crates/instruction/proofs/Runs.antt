-- Operands one after the other, at places.
use Prim.Native.Nat.{ℕ, suc, ◌+◌, ◌-◌, ◌≤◌, ◌<◌}
use mathlib.Core.Path.{◌≡◌, sym, ap, ◌∙◌}
use mathlib.Core.List.{List, ◌∷◌, ◌++◌}
use mathlib.Core.Bool.{Bool, true, ◌&&◌}
use lib.ListN.{length, drop, replicate}
use native.Mathlib.Omega.{arith}
use Rattle.std.specs.Prelude.{None}
use Rattle.format.specs.Dwords.{malformed}
use Rattle.format.specs.Declarations.{Item, o}
use Rattle.format.specs.Operands as op
use Rattle.format.specs.Instructions.{read_item}
use Rattle.operand.proofs.Seen.{Seen}
use Rattle.instruction_fields.specs.Fields.{add, sum_of}
use Rattle.instruction.specs.Measure.{Ran, Run}
use Rattle.instruction_fields.proofs.Items.{add_add, add-zero, item_step, item_off}

-- i of k operands have been read, up to a place
pub record Reading (k : ℕ) (ds : List ℕ) (from i at rows words : ℕ) (exact : Bool) : Type 0 where
  pub some : i ≤ k
  pub begun : from ≤ at
  pub within : at ≤ length ds
  pub fits : rows + words ≤ at - from
  pub adds : (m : Bool) (l : List Item) → sum_of m (replicate k o ++ l) (drop from ds) ≡ add rows words exact (sum_of m (replicate (k - i) o ++ l) (drop at ds))

pub begin : (k : ℕ) (ds : List ℕ) (from : ℕ) → from ≤ length ds → Reading k ds from 0 from 0 0 true
begin k ds from h = record {
  some = omega arith;
  begun = omega arith;
  within = h;
  fits = omega arith;
  adds = λ m l. let z : k - 0 ≡ k = omega arith in rw z (sym (add-zero _));
}

one_less : (k i : ℕ) (l : List Item) → i < k → replicate (k - i) o ++ l ≡ o ∷ (replicate (k - (i + 1)) o ++ l)
one_less k i l h = let z : k - i ≡ suc (k - (i + 1)) = omega arith in rw z

module _ {k : ℕ} {ds : List ℕ} {from i at rows words : ℕ} {exact : Bool} (q : Reading k ds from i at rows words exact) where
  -- the loop's turns
  module _ (h : i < k) {r w d : ℕ} {e : Bool} (s : Seen (op.operand 64 (drop at ds)) ds at r w d e) where
    next : (m : Bool) (l : List Item) → sum_of m (replicate (k - i) o ++ l) (drop at ds) ≡ add r w e (sum_of m (replicate (k - (i + 1)) o ++ l) (drop (at + d) ds))
    next m l =
        let rest : List Item = replicate (k - (i + 1)) o ++ l in
        ap (λ (y : List Item). sum_of m y (drop at ds)) (one_less k i l h) ∙ item_step m o rest (drop at ds) s.tree (drop (at + d) ds) (unfold read_item in s.is) ∙
        (λ j. add (s.rows_are j) (s.words_are j) (s.exact_is j) (sum_of m rest (drop (at + d) ds)))

    pub turn : Reading k ds from (i + 1) (at + d) (rows + r) (words + w) (exact && e)
    turn = record {
      some = omega arith;
      begun = omega (arith, q.begun);
      within = s.within;
      fits = omega (arith, q.fits, s.fewer, q.begun);
      adds = λ m l. q.adds m l ∙ ap (add rows words exact) (next m l) ∙ add_add rows words r w exact e (sum_of m (replicate (k - (i + 1)) o ++ l) (drop (at + d) ds));
    }

  pub stopped : i < k → op.operand 64 (drop at ds) ≡ malformed → Run k ds from None
  stopped h e m l =
      q.adds m l ∙ ap (add rows words exact) (ap (λ (y : List Item). sum_of m y (drop at ds)) (one_less k i l h) ∙ item_off m o (replicate (k - (i + 1)) o ++ l) (drop at ds) (unfold read_item in e))

  pub finished : k ≤ i → Ran k ds from (record { rows = rows; words = words; end = at; exact = exact })
  finished h = record {
    begun = q.begun;
    within = q.within;
    fits = q.fits;
    adds = λ m l. let z : k - i ≡ 0 = omega arith in rw z at (q.adds m l);
  }

-- at most one
pub one_ran : {k : ℕ} {ds : List ℕ} {at r w d : ℕ} {e : Bool} → at ≤ length ds → 0 < k → k ≤ 1 → Seen (op.operand 64 (drop at ds)) ds at r w d e → Ran k ds at (record { rows = r; words = w; end = at + d; exact = e })
one_ran {k} {ds} {at} {r} {w} {d} {e} h l m s =
    let a : 0 + r ≡ r = omega arith in
    let b : 0 + w ≡ w = omega arith in
    rw (a, b) at (finished (turn (begin k ds at h) l s) (omega arith))
