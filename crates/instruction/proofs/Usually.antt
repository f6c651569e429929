-- Operands behind a token, most of them usual: passed by the number of their dwords, and looked at for the end only then.
use Prim.Native.Nat.{ℕ, zero, suc, ◌+◌, ◌-◌, ◌/◌, ◌%◌, ◌^◌, ◌<◌, ◌≤◌}
use mathlib.Core.Path.{◌≡◌, refl, sym, ap, ◌∙◌}
use mathlib.Core.Bool.{Bool, true, false, cond, not, ◌&&◌, and-true}
use mathlib.Core.List.{List, [], ◌∷◌}
use native.Mathlib.Omega.{arith}
use lib.Dec.{eqb, ltb}
use lib.ListN.{length, get_or, drop}
use lib.Seq.{slice, slice-cons, slice_empty}
use borrow.Author.Tests.{ltb-true, ltb-false, eqb-true, eq-eqb, not-true}
use Rattle.format.specs.Dwords.{Got, malformed, got, dword, chain, follows, Reader, some}
use Rattle.format.specs.Operands as op
use Rattle.format.specs.Operands.{Tree, operand, read_immediates, read_indices}
use Rattle.format.specs.Rows.{tree_rows}
use Rattle.format.proofs.Dwords.{impossible, both, All, unmet, met, all_then, all_if}
use Rattle.tokens.specs.Usuals.{usual_length}
use Rattle.tokens.specs.Chains.{ends}
use Rattle.tokens.proofs.Usuals.{immediates_few}
use Rattle.tokens.proofs.Chains.{begun, ended}
use Rattle.tokens.proofs.Places.{passed as chain_passed}
use Rattle.std.specs.Prelude.{Option, Some, None}
use Rattle.operand.specs.Measures.{read, measured, Flat}
use Rattle.operand.specs.declared.Measured.{Measured}
use Rattle.operand.proofs.Seen.{Seen, operand_seen, lost}
use Rattle.operand.proofs.Fronts.{Opened, opened, front_read, low_opened, low_flat, leaf_short, leaf_read, leaf_is, tree_is, operand_end}
use Rattle.operand.proofs.FlatTrees.{measured_short, measured_flat}
use Rattle.instruction.specs.declared.Surplus.{Surplus}
use Rattle.instruction.specs.Measure.{Run, surplus}
use Rattle.instruction.proofs.Runs.{Reading, begin, turn, stopped}

-- ---- an operand at a place that is as long as its dword says, if it fits
pub record Long (ds : List ℕ) (at k : ℕ) : Type 0 where
  pub some : 0 < k
  pub few : k ≤ 5
  pub fits : at + k ≤ length ds → Seen (operand 64 (drop at ds)) ds at 1 (k - 1) k true
  pub off : length ds < at + k → operand 64 (drop at ds) ≡ malformed

module _ (ds : List ℕ) (at : ℕ) (l : at < length ds) (t : ℕ) (et : t ≡ get_or ds at 0) where
  as_long : (w k : ℕ) → k ≡ 1 + w → w ≤ 4 → (w ≤ length ds - (at + 1) → read 1 w (at + 1 - at + w) true ≡ measured (operand 64 (drop at ds))) → (length ds - (at + 1) < w → None ≡ measured (operand 64 (drop at ds))) → Long ds at k
  as_long w k e h f g = record {
    some = omega arith;
    few = omega arith;
    fits = λ n.
        let a : k - 1 ≡ w = omega arith in
        let b : at + 1 - at + w ≡ k = omega arith in
        rw a (operand_seen 64 ds at (omega arith) (record { rows = 1; words = w; dwords = k; exact = true }) (ap (λ (d : ℕ). read 1 w d true) (sym b) ∙ f (omega arith)));
    off = λ n. lost (operand 64 (drop at ds)) (g (omega arith));
  }

  module _ (q : t < 2 ^ 22) (x : op.exact_dword t ≡ true) where
    here : Opened 64 ds at t (at + 1) true
    here = low_opened 64 ds at (λ z. omega arith) l t et q true (sym x)

    immediates_long : op.immediate t ≡ true → t < 2 ^ 20 → (k : ℕ) → k ≡ 1 + op.immediates t → Long ds at k
    immediates_long i s k e =
        as_long (op.immediates t) k e (immediates_few t)
        (λ n. leaf_is here true (sym i) refl (leaf_read here.stands 0 (omega arith) refl (op.immediates t) refl (length ds) refl n))
        (λ n. leaf_is here true (sym i) refl (leaf_short here.stands 0 (omega arith) refl (op.immediates t) refl (length ds) refl n))

    indices_long : op.immediate t ≡ false → (k : ℕ) → k ≡ 1 + t / 2 ^ 20 → Long ds at k
    indices_long i k e =
        let d : op.dimension t ≡ t / 2 ^ 20 = omega arith in
        as_long (op.dimension t) k (omega arith) (omega arith)
        (λ n. tree_is here false (sym i) refl (measured_flat here.stands (low_flat t q) (op.dimension t) refl (length ds) refl n (operand 63)))
        (λ n. tree_is here false (sym i) refl (measured_short here.stands (low_flat t q) (op.dimension t) refl (length ds) refl n (operand 63)))

  -- a length that was told
  pub long : (k : ℕ) → Some k ≡ usual_length t → Long ds at k
  unfolding usual_length
  long k e = go (ltb t 0x400000 && op.exact_dword t) refl e
    where
      go : (b : Bool) → (ltb t 0x400000 && op.exact_dword t) ≡ b → Some k ≡ cond b (cond (op.immediate t) (cond (ltb t 0x100000) (Some (1 + op.immediates t)) None) (Some (1 + t / 0x100000))) None → Long ds at k
      go false p e = impossible (cc)
      go true p e = within (op.immediate t) refl e
        where
          q : t < 2 ^ 22
          q = ltb-true t 0x400000 (both (ltb t 0x400000) (op.exact_dword t) p).0

          x : op.exact_dword t ≡ true
          x = (both (ltb t 0x400000) (op.exact_dword t) p).1

          within : (i : Bool) → op.immediate t ≡ i → Some k ≡ cond i (cond (ltb t 0x100000) (Some (1 + op.immediates t)) None) (Some (1 + t / 0x100000)) → Long ds at k
          within false i e = indices_long q x i k ((cc))
          within true i e = small (ltb t 0x100000) refl e
            where
              small : (b : Bool) → ltb t 0x100000 ≡ b → Some k ≡ cond b (Some (1 + op.immediates t)) None → Long ds at k
              small false s e = impossible (cc)
              small true s e = immediates_long q x i (ltb-true t 0x100000 s) k ((cc))

-- ---- an operand with one extension
module _ (ds : List ℕ) (at : ℕ) (l : at + 1 < length ds) (t : ℕ) (et : t ≡ get_or ds at 0) (x : ℕ) (ex : x ≡ get_or ds (at + 1) 0) (b : Bool)
    (eb : b ≡ (eqb (t / 0x400000) 512 && op.exact_dword t && not (op.immediate t) && not (follows x) && op.exact_extension (x ∷ []))) (yes : b ≡ true) where
  record Once : Type 0 where
    top : t / 0x400000 ≡ 512
    sharp : op.exact_dword t ≡ true
    indexed : op.immediate t ≡ false
    last : follows x ≡ false
    good : op.exact_extension (x ∷ []) ≡ true

  once : Once
  once =
      let a = both (eqb (t / 0x400000) 512 && op.exact_dword t && not (op.immediate t) && not (follows x)) (op.exact_extension (x ∷ [])) (sym eb ∙ yes) in
      let c = both (eqb (t / 0x400000) 512 && op.exact_dword t && not (op.immediate t)) (not (follows x)) a.0 in
      let e = both (eqb (t / 0x400000) 512 && op.exact_dword t) (not (op.immediate t)) c.0 in
      let f = both (eqb (t / 0x400000) 512) (op.exact_dword t) e.0 in
      record { top = eqb-true _ _ f.0; sharp = f.1; indexed = not-true _ e.1; last = not-true _ c.1; good = a.1 }

  followed : true ≡ follows t
  unfolding follows
  followed = sym (eq-eqb (t / 2 ^ 31 % 2) 1 (omega (arith, once.top)))

  ext : Opened 64 ds at t (at + 2) true
  ext =
      let two : at + 1 + 1 ≡ at + 2 = omega arith in
      let next : suc (at + 1) ≡ at + 2 = omega arith in
      let g : Some (at + 2) ≡ ends (at + 1) (chain true (drop (at + 1) ds)) = rw two at (ended (begun ds (at + 1) refl) l ex (sym once.last) refl) in
      let w = chain_passed true ds (at + 1) (at + 2) (omega arith) g in
      let y : true ≡ op.exact_extension (slice (at + 1) (at + 2) ds) = rw (slice-cons (at + 1) (at + 2) ds 0 (omega arith) w.within, next, slice_empty (at + 2) ds, ← ex) (sym once.good) in
      opened 64 ds at (t, at + 2, true) (front_read 64 ds at (λ z. omega arith) (omega arith) t et true followed (at + 2) g true true true (sym once.sharp) y refl)

  flat : Flat t
  flat = omega (arith, once.top)

  module _ (n : ℕ) (en : n ≡ length ds - at) (k : ℕ) (ek : k ≡ op.dimension t) where
    pub once_read : k ≤ n - 2 → read 1 k (2 + k) true ≡ measured (operand 64 (drop at ds))
    once_read h =
        let z : at + 2 - at + k ≡ 2 + k = omega arith in
        ap (λ (j : ℕ). read 1 k j true) (sym z) ∙ tree_is ext false (sym once.indexed) refl (measured_flat ext.stands flat k ek (length ds) refl (omega arith) (operand 63))

    pub once_short : n - 2 < k → None ≡ measured (operand 64 (drop at ds))
    once_short h = tree_is ext false (sym once.indexed) refl (measured_short ext.stands flat k ek (length ds) refl (omega arith) (operand 63))

-- ---- an operand that was read has a row
anything : {A : Type 0} (g : Got A) → All (λ x r. 0 < 1) g
anything malformed = unmet
anything (got x r) = met (omega arith)

immediates_some : (t : ℕ) (e l : List ℕ) → All (λ x r. 0 < tree_rows x) (read_immediates t e l)
unfolding read_immediates tree_rows
immediates_some t e l = all_if (eqb (op.dimension t) 0) _ _ l (λ z. all_then (anything (some (op.immediates t) l)) (λ m r _. met (omega arith))) (λ z. unmet)

indices_some : (p : Reader Tree) (t : ℕ) (e l : List ℕ) → All (λ x r. 0 < tree_rows x) (read_indices p t e l)
unfolding read_indices tree_rows
indices_some p t e l =
    all_then (anything (op.read_index p (op.repr 0 t) l)) (λ a l₁ _. all_then (anything (op.read_index p (op.repr 1 t) l₁)) (λ b l₂ _. all_then (anything (op.read_index p (op.repr 2 t) l₂)) (λ c l₃ _. met (omega arith))))

rows_some : (k : ℕ) (ds : List ℕ) → All (λ x r. 0 < tree_rows x) (operand k ds)
unfolding operand
rows_some zero ds = unmet
rows_some (suc k) ds =
    all_then (anything (dword ds)) (λ t ds₁ _. all_then (anything (chain (follows t) ds₁)) (λ e ds₂ _. all_if (op.immediate t) _ _ ds₂ (λ i. immediates_some t e ds₂) (λ i. indices_some (operand k) t e ds₂)))

pub some_row : {ds : List ℕ} {at r w d : ℕ} {e : Bool} → Seen (operand 64 (drop at ds)) ds at r w d e → 0 < r
some_row {ds} {at} x = go (rows_some 64 (drop at ds)) x.is x.rows_are
  where
    go : {g : Got Tree} {t : Tree} {l : List ℕ} {r : ℕ} → All (λ x r. 0 < tree_rows x) g → g ≡ got t l → tree_rows t ≡ r → 0 < r
    go unmet q z = impossible (cc)
    go {t = t} (met {a = y} h) q z = let k : y ≡ t = cc in let m : tree_rows y ≡ tree_rows t = ap tree_rows k in omega arith

-- what was told of one that is not usual
pub record Surpassed (ds : List ℕ) (at : ℕ) (s : Surplus) : Type 0 where
  pub rows : ℕ
  pub words : ℕ
  pub seen : Seen (operand 64 (drop at ds)) ds at rows words s.dwords s.exact
  pub more : rows - 1 ≡ s.rows
  pub skipped : s.dwords - words - rows ≡ s.skipped

pub surpassed : (ds : List ℕ) (at : ℕ) → at ≤ length ds → (s : Surplus) → Some s ≡ surplus (measured (operand 64 (drop at ds))) → Surpassed ds at s
surpassed ds at h s p = go (measured (operand 64 (drop at ds))) refl p
  where
    go : (z : Option Measured) → measured (operand 64 (drop at ds)) ≡ z → Some s ≡ surplus z → Surpassed ds at s
    go None f k = impossible (cc)
    go (Some m) f k =
        let a : m.dwords ≡ s.dwords = cc in
        let b : m.exact ≡ s.exact = cc in
        let c : m.dwords - m.words - m.rows ≡ s.skipped = cc in
        record { rows = m.rows; words = m.words; seen = rw (← a, ← b) (operand_seen 64 ds at h m (sym f)); more = (cc); skipped = rw (← a) c }

pub surplus_lost : (g : Got Tree) → None ≡ surplus (measured g) → g ≡ malformed
surplus_lost malformed p = refl
surplus_lost (got t l) p = impossible (cc)

-- ---- the loop: so many operands are passed up to a place, with rows beside their own and dwords that are no words; or the last of them ran off
pub data Passing (k : ℕ) (ds : List ℕ) (from i at more skipped : ℕ) (exact : Bool) : Type 0 where
  inside : {words : ℕ} → Reading k ds from i at (i + more) words exact → words + (i + more) + skipped ≡ at - from → Passing k ds from i at more skipped exact
  outside : length ds < at → at ≤ length ds + 5 → i ≤ k → Run k ds from None → Passing k ds from i at more skipped exact

pub start : (k : ℕ) (ds : List ℕ) (from : ℕ) → from ≤ length ds → Passing k ds from 0 from 0 0 true
start k ds from h = inside (begin k ds from h) (omega arith)

module _ {k : ℕ} {ds : List ℕ} {from i at more skipped : ℕ} {exact : Bool} where
  -- past the end the operands are lost
  pub lost_past : Passing k ds from i at more skipped exact → i < k → length ds ≤ at → Run k ds from None
  lost_past (inside q e) h l = stopped q h (operand_end 64 ds at l)
  lost_past (outside a b c r) h l = r

  pub lost_deep : Passing k ds from i at more skipped exact → i < k → operand 64 (drop at ds) ≡ malformed → Run k ds from None
  lost_deep (inside q e) h z = stopped q h z
  lost_deep (outside a b c r) h z = r

  -- a usual operand
  pub past_usual : Passing k ds from i at more skipped exact → i < k → at < length ds → (n : ℕ) → Long ds at n → Passing k ds from (i + 1) (at + n) more skipped exact
  past_usual (outside a b c r) h l n w = absurd (omega arith)
  past_usual (inside {words = words} q e) h l n w = go (ltb (length ds) (at + n)) refl
    where
      go : (b : Bool) → ltb (length ds) (at + n) ≡ b → Passing k ds from (i + 1) (at + n) more skipped exact
      go true z = outside (ltb-true _ _ z) (omega (arith, w.few)) (omega arith) (stopped q h (w.off (ltb-true _ _ z)))
      go false z = kept (turn q h (w.fits (ltb-false _ _ z)))
        where
          kept : Reading k ds from (i + 1) (at + n) (i + more + 1) (words + (n - 1)) (exact && true) → Passing k ds from (i + 1) (at + n) more skipped exact
          kept y =
              let a : i + more + 1 ≡ i + 1 + more = omega arith in
              let m : 0 < n = w.some in
              inside (rw (a, and-true exact) at y) (omega (arith, q.begun))

  -- another
  module _ (p : Passing k ds from i at more skipped exact) (h : i < k) (l : at < length ds) {s : Surplus} (x : Surpassed ds at s) where
    pub room : (more + s.rows ≤ length ds) × (skipped + s.skipped ≤ length ds) × (at + s.dwords ≤ length ds)
    room = go p
      where
        go : Passing k ds from i at more skipped exact → (more + s.rows ≤ length ds) × (skipped + s.skipped ≤ length ds) × (at + s.dwords ≤ length ds)
        go (inside q z) =
            let w = some_row x.seen in
            (omega (arith, x.seen, w, x.more, x.skipped), omega (arith, x.seen, w, x.more, x.skipped), x.seen.within)
        go (outside a b c r) = absurd (omega arith)

    pub past_other : Passing k ds from (i + 1) (at + s.dwords) (more + s.rows) (skipped + s.skipped) (exact && s.exact)
    past_other = go p
      where
        go : Passing k ds from i at more skipped exact → Passing k ds from (i + 1) (at + s.dwords) (more + s.rows) (skipped + s.skipped) (exact && s.exact)
        go (outside a b c r) = absurd (omega arith)
        go (inside {words = words} q z) =
            let w = some_row x.seen in
            let a : i + more + x.rows ≡ i + 1 + (more + s.rows) = omega (arith, w, x.more) in
            inside (rw a at (turn q h x.seen)) (omega (arith, x.seen, w, x.more, x.skipped, q.begun))
