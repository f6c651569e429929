-- What the code's places say of items that are dwords as they are.
use Prim.Native.Nat.{ℕ, suc, ◌+◌, ◌-◌, ◌%◌, ◌^◌, ◌≤◌, ◌<◌}
use mathlib.Core.Path.{◌≡◌, refl, sym, ap, ◌∙◌, subst}
use mathlib.Core.List.{List, [], ◌∷◌}
use mathlib.Core.Bool.{Bool, true, false, cond, ◌&&◌}
use lib.ListN.{length, get_or, drop, replicate, length-drop, drop_of_length-le}
use lib.Seq.{drop-cons, drop-drop}
use mathlib.Core.Logic.{◌⊎◌, inl, inr}
use native.Mathlib.Omega.{arith}
use lib.Dec.{eqb, leb, ltb}
use borrow.Author.Tests.{eqb-true, eqb-false, leb-true, leb-false, ltb-true, ltb-false}
use Rattle.format.specs.Declarations.{Item, d, small, list}
use Rattle.format.proofs.Dwords.{impossible}
use Rattle.layouts.specs.Shapes.{listed}
use Rattle.std.specs.Prelude.{Some, None, is_some}
use Rattle.instruction_fields.specs.Places.{dwords_on, small_on, list_on}
use Rattle.instruction_fields.specs.Fields.{add, sum_of, Passes, to, out, low, all, Listed, unlisted, counted, IsSmall}
use Rattle.instruction_fields.proofs.Items.{add-zero, dwords_whole, dwords_short, small_whole, small_large, small_none, list_whole, list_short, list_none}

module _ (ds : List ℕ) (at : ℕ) (h : at ≤ length ds) where
  left : length (drop at ds) ≡ length ds - at
  left = length-drop at ds

  at_front : at < length ds → drop at ds ≡ get_or ds at 0 ∷ drop (suc at) ds
  at_front k = drop-cons ds at 0 k

  at_end : length ds ≤ at → drop at ds ≡ []
  at_end k = drop_of_length-le ds k

  -- no items
  pub stays : Passes [] ds at (Some at)
  stays = to {k = at} (omega arith) h (λ m l. let z : at - at ≡ 0 = omega arith in rw z (sym (add-zero _)))

  pub passes_dwords : (k : ℕ) → k ≤ length ds - at → Passes (replicate k d) ds at (Some (at + k))
  passes_dwords k n = to {k = at + k} (omega arith) (omega arith) (λ m l.
      let z : at + k - at ≡ k = omega arith in
      rw z (dwords_whole m l k (drop at ds) (rw left n) ∙ ap (λ (x : List ℕ). add 0 k true (sum_of m l x)) (drop-drop k at ds)))

  pub passes_off : (k : ℕ) → length ds - at < k → Passes (replicate k d) ds at None
  passes_off k n = out (λ m l. dwords_short m l k (drop at ds) (rw left n))

  -- a small dword
  pub passes_small : at < length ds → get_or ds at 0 < 65_536 → Passes (replicate 1 small) ds at (Some (at + 1))
  passes_small k n = to {k = at + 1} (omega arith) (omega arith) (λ m l.
      let z : at + 1 - at ≡ 1 = omega arith in
      let y : at + 1 ≡ suc at = omega arith in
      rw (z, y, at_front k) (small_whole m l (get_or ds at 0) (drop (suc at) ds) n))

  pub small_off : at < length ds → 65_536 ≤ get_or ds at 0 → Passes (replicate 1 small) ds at None
  small_off k n = out (λ m l. rw (at_front k) (small_large m l (get_or ds at 0) (drop (suc at) ds) n))

  pub small_end : length ds ≤ at → Passes (replicate 1 small) ds at None
  small_end k = out (λ m l. rw (at_end k) (small_none m l))

  -- a list
  module _ (b : ℕ) where
    abbrev items : List Item
    items = list b ∷ []

    abbrev more : ℕ
    more = get_or ds at 0 % 2 ^ b

    pub passes_list : at < length ds → more ≤ length ds - at - 1 → Passes items ds at (Some (at + 1 + more))
    passes_list k n = to {k = at + 1 + more} (omega arith) (omega arith) (λ m l.
        let z : at + 1 + more - at ≡ 1 + more = omega arith in
        let y : at + 1 + more ≡ suc at + more = omega arith in
        let r : length (drop (suc at) ds) ≡ length ds - suc at = length-drop (suc at) ds in
        rw (z, y, at_front k) (list_whole m l (get_or ds at 0) (drop (suc at) ds) b (omega arith) ∙ ap (λ (x : List ℕ). add 0 (1 + more) true (sum_of m l x)) (drop-drop more (suc at) ds)))

    pub list_off : at < length ds → length ds - at - 1 < more → Passes items ds at None
    list_off k n = out (λ m l.
        let r : length (drop (suc at) ds) ≡ length ds - suc at = length-drop (suc at) ds in
        rw (at_front k) (list_short m l (get_or ds at 0) (drop (suc at) ds) b (omega arith)))

    pub list_end : length ds ≤ at → Passes items ds at None
    list_end k = out (λ m l. rw (at_end k) (list_none m l b))

-- where they end
module _ (ds : List ℕ) (at : ℕ) (h : at ≤ length ds) where
  pub dwords_pass : (k : ℕ) → Passes (replicate k d) ds at (dwords_on (length ds) at k)
  dwords_pass k = go (leb k (length ds - at)) refl
    where
      go : (b : Bool) → leb k (length ds - at) ≡ b → Passes (replicate k d) ds at (cond b (Some (at + k)) None)
      go true e = passes_dwords ds at h k (leb-true k (length ds - at) e)
      go false e = passes_off ds at h k (leb-false k (length ds - at) e)

  one_small : (k : ℕ) → k ≤ 1 → eqb k 0 ≡ false → k ≡ 1
  one_small k l e = let n = eqb-false k 0 e in omega arith

  pub small_passes : (k : ℕ) → k ≤ 1 → Passes (replicate k small) ds at (small_on k ds at)
  small_passes k l = go (eqb k 0) refl (ltb at (length ds)) refl (ltb (get_or ds at 0) 65_536) refl
    where
      go : (a : Bool) → eqb k 0 ≡ a → (b : Bool) → ltb at (length ds) ≡ b → (c : Bool) → ltb (get_or ds at 0) 65_536 ≡ c → Passes (replicate k small) ds at (cond a (Some at) (cond (b && c) (Some (at + 1)) None))
      go true ea b eb c ec = rw (eqb-true k 0 ea) (stays ds at h)
      go false ea false eb c ec = rw (one_small k l ea) (small_end ds at h (ltb-false at (length ds) eb))
      go false ea true eb true ec = rw (one_small k l ea) (passes_small ds at h (ltb-true at (length ds) eb) (ltb-true (get_or ds at 0) 65_536 ec))
      go false ea true eb false ec = rw (one_small k l ea) (small_off ds at h (ltb-true at (length ds) eb) (ltb-false (get_or ds at 0) 65_536 ec))

  pub list_passes : (b : ℕ) → Passes (listed b) ds at (list_on b ds at)
  list_passes b = go (eqb b 0) (ltb at (length ds)) refl (leb (get_or ds at 0 % 2 ^ b) (length ds - (at + 1))) refl
    where
      go : (z : Bool) (y : Bool) → ltb at (length ds) ≡ y → (x : Bool) → leb (get_or ds at 0 % 2 ^ b) (length ds - (at + 1)) ≡ x
          → Passes (cond z [] (list b ∷ [])) ds at (cond z (Some at) (cond y (cond x (Some (at + 1 + get_or ds at 0 % 2 ^ b)) None) None))
      go true y ey x ex = stays ds at h
      go false false ey x ex = list_end ds at h b (ltb-false at (length ds) ey)
      go false true ey true ex = let k = leb-true (get_or ds at 0 % 2 ^ b) (length ds - (at + 1)) ex in passes_list ds at h b (ltb-true at (length ds) ey) (omega arith)
      go false true ey false ex = let k = leb-false (get_or ds at 0 % 2 ^ b) (length ds - (at + 1)) ex in list_off ds at h b (ltb-true at (length ds) ey) (omega arith)

  pub no_list : (n : ℕ) → n ≡ length ds → (k : ℕ) → k ≡ 0 → Passes (listed k) ds at (Some at)
  no_list n e k z = rw z (stays ds at h)

pub listed_of : {b : ℕ} → (b ≡ 0) ⊎ ((b ≡ 16) ⊎ (b ≡ 32)) → Listed b
listed_of (inl e) = subst Listed (sym e) unlisted
listed_of (inr (inl e)) = subst Listed (sym e) (counted low)
listed_of (inr (inr e)) = subst Listed (sym e) (counted all)

-- whether a small dword is there, if there is to be one
pub small_told : (k : ℕ) (ds : List ℕ) (at : ℕ) → k ≤ 1 → IsSmall k ds at (is_some (small_on k ds at))
small_told k ds at l e h = go (eqb k 0) refl (ltb at (length ds) && ltb (get_or ds at 0) 65_536) e (small_passes ds at h k l)
  where
    go : (a : Bool) → eqb k 0 ≡ a → (b : Bool) → is_some (cond a (Some at) (cond b (Some (at + 1)) None)) ≡ true → Passes (replicate k small) ds at (cond a (Some at) (cond b (Some (at + 1)) None)) → Passes (replicate k small) ds at (Some (at + k))
    go true ea b e f = let z : at + k ≡ at = (let n = eqb-true k 0 ea in omega arith) in rw z f
    go false ea true e f = let z : at + k ≡ at + 1 = (let n = one_small ds at h k l ea in omega arith) in rw z f
    go false ea false e f = impossible (cc)
