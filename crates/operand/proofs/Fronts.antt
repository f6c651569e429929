-- Laws of an operand's front, and of an operand of immediates.
use Prim.Native.Nat.{ℕ, zero, suc, ◌+◌, ◌-◌, ◌/◌, ◌%◌, ◌^◌, ◌<◌, ◌≤◌}
use mathlib.Core.Path.{◌≡◌, refl, sym, ◌∙◌, ap}
use mathlib.Core.Bool.{Bool, true, false, cond, ◌&&◌, and-true}
use mathlib.Core.List.{List, [], ◌∷◌, ◌++◌, append-nil}
use native.Mathlib.Numerals.{add-one, sub-one}
use native.Mathlib.Omega.{arith}
use lib.ListN.{length, get_or, take, drop, length-append}
use lib.Seq.{slice, slice_empty, length-slice}
use lib.Dec.{ltb}
use borrow.Author.Tests.{ltb-true, ltb-false, eq-eqb, ne_eqb}
use Rattle.format.specs.Dwords.{dwords_of, follows, Got, malformed, got, Reader, then, give, chain}
use Rattle.format.specs.Operands.{Tree, immediate, immediates, dimension, read_immediates, read_indices, operand, dwords, exact, exact_dword, exact_extension}
use Rattle.format.specs.Rows.{tree_rows, tree_words}
use Rattle.format.proofs.Dwords.{impossible}
use Rattle.tokens.specs.Chains.{ends}
use Rattle.tokens.proofs.Chains.{not_begun}
use Rattle.tokens.proofs.Places.{dword_at_lem, dword_end, some_whole, some_length, some_short, Passed, passed, ran_off}
use Rattle.std.specs.Prelude.{Option, Some, None}
use Rattle.std.proofs.lemmas.Option.{none-some}
use Rattle.operand.specs.Standing.{Stands}
use Rattle.operand.specs.Measures.{read, measured, front, fronted, told, Flat}
use Rattle.operand.specs.declared.front.Front.{Front}
use Rattle.operand.specs.declared.Measured.{Measured}

-- what follows an operand's dword t and its extensions e
abbrev pub body : ℕ → ℕ → List ℕ → Reader Tree
body left t e = cond (immediate t) (read_immediates t e) (read_indices (operand (left - 1)) t e)

-- where no chain follows, none is passed
pub no_chain : (ds : List ℕ) (at : ℕ) → at ≤ length ds → Passed false ds at at
no_chain ds at h = passed false ds at at h (not_begun ds at refl)

-- the two readers, a step in
module _ (left : ℕ) (ds : List ℕ) (at : ℕ) where
  front_some : (left ≡ 0 → ⊥) → at < length ds → front left (drop at ds) ≡ then (chain (follows (get_or ds at 0)) (drop (at + 1) ds)) (λ e. give (get_or ds at 0, e))
  unfolding front
  front_some h l = go left h
    where
      go : (k : ℕ) → (k ≡ 0 → ⊥) → front k (drop at ds) ≡ then (chain (follows (get_or ds at 0)) (drop (at + 1) ds)) (λ e. give (get_or ds at 0, e))
      go zero h = absurd (h refl)
      go (suc k) h = rw (dword_at_lem ds at l, add-one at)

  pub operand_some : (left ≡ 0 → ⊥) → at < length ds → operand left (drop at ds) ≡ then (chain (follows (get_or ds at 0)) (drop (at + 1) ds)) (λ e. body left (get_or ds at 0) e)
  unfolding operand
  operand_some h l = go left h
    where
      go : (k : ℕ) → (k ≡ 0 → ⊥) → operand k (drop at ds) ≡ then (chain (follows (get_or ds at 0)) (drop (at + 1) ds)) (λ e. body k (get_or ds at 0) e)
      go zero h = absurd (h refl)
      go (suc k) h = rw (dword_at_lem ds at l, add-one at, sub-one (suc k))

  pub front_none : left ≡ 0 → None ≡ fronted at (front left (drop at ds))
  unfolding front
  front_none h = rw h

  pub front_end : length ds ≤ at → None ≡ fronted at (front left (drop at ds))
  unfolding front
  front_end l = go left
    where
      go : (k : ℕ) → None ≡ fronted at (front k (drop at ds))
      go zero = refl
      go (suc k) = rw (dword_end ds at l)

  pub operand_end : length ds ≤ at → operand left (drop at ds) ≡ malformed
  unfolding operand
  operand_end l = go left
    where
      go : (k : ℕ) → operand k (drop at ds) ≡ malformed
      go zero = refl
      go (suc k) = rw (dword_end ds at l)

  -- the code's steps
  module _ (h : left ≡ 0 → ⊥) (l : at < length ds) (t : ℕ) (et : t ≡ get_or ds at 0) (m : Bool) (em : m ≡ follows t) where
    pub front_off : None ≡ ends (at + 1) (chain m (drop (at + 1) ds)) → None ≡ fronted at (front left (drop at ds))
    front_off e = sym (ap (fronted at) (front_some h l) ∙ rw (← et, ← em, ran_off (at + 1) (chain m (drop (at + 1) ds)) e))

    pub front_passed : (b : ℕ) → Some b ≡ ends (at + 1) (chain m (drop (at + 1) ds)) → Passed m ds (at + 1) b
    front_passed b e = passed m ds (at + 1) b (omega arith) e

    pub front_read : (b : ℕ) → Some b ≡ ends (at + 1) (chain m (drop (at + 1) ds)) → (x y z : Bool) → x ≡ exact_dword t → y ≡ exact_extension (slice (at + 1) b ds) → z ≡ (x && y) → Some (t, b, z) ≡ fronted at (front left (drop at ds))
    front_read b e x y z ex ey ez =
        let w = front_passed b e in
        let q : b ≡ at + 1 + length (slice (at + 1) b ds) = omega (arith, length-slice (at + 1) b ds w.within, w.from) in
        let eq : z ≡ (exact_dword t && exact_extension (slice (at + 1) b ds)) = cc in
        (λ i. Some (t, q i, eq i)) ∙ sym (ap (fronted at) (front_some h l) ∙ rw (← et, ← em, w.is))

-- an operand's dword t at a place is read, and its extensions are passed: its body is at b
pub record Opened (left : ℕ) (ds : List ℕ) (at t b : ℕ) (x : Bool) : Type 0 where
  pub deep : 0 < left
  pub stands : Stands ds at t b x
  pub is : operand left (drop at ds) ≡ body left t (slice (at + 1) b ds) (drop b ds)

module _ (left : ℕ) (ds : List ℕ) (at : ℕ) where
  deeper : (v : ℕ × ℕ × Bool) → Some v ≡ fronted at (front left (drop at ds)) → left ≡ 0 → ⊥
  deeper v e z = none-some v (front_none left ds at z ∙ sym e)

  before : (v : ℕ × ℕ × Bool) → Some v ≡ fronted at (front left (drop at ds)) → at < length ds
  before v e = go (ltb at (length ds)) refl
    where
      go : (c : Bool) → ltb at (length ds) ≡ c → at < length ds
      go true q = ltb-true at (length ds) q
      go false q = absurd (none-some v (front_end left ds at (ltb-false at (length ds) q) ∙ sym e))

  pub opened : (v : ℕ × ℕ × Bool) → Some v ≡ fronted at (front left (drop at ds)) → Opened left ds at v.0 v.1 v.2
  opened v e = let h = deeper v e in let l = before v e in go h l (chain (follows (get_or ds at 0)) (drop (at + 1) ds)) refl (e ∙ ap (fronted at) (front_some left ds at h l))
    where
      go : (left ≡ 0 → ⊥) → at < length ds → (g : Got (List ℕ)) → chain (follows (get_or ds at 0)) (drop (at + 1) ds) ≡ g → Some v ≡ fronted at (then g (λ y. give (get_or ds at 0, y))) → Opened left ds at v.0 v.1 v.2
      go h l malformed q z = impossible (cc)
      go h l (got y r) q z =
          let et : v.0 ≡ get_or ds at 0 = cc in
          let eb : v.1 ≡ at + 1 + length y = cc in
          let w = passed (follows (get_or ds at 0)) ds (at + 1) v.1 (omega arith) (ap Some eb ∙ ap (ends (at + 1)) (sym q)) in
          let ey : y ≡ slice (at + 1) v.1 ds = cc (q, w.is) in
          record {
            deep = omega arith;
            stands =
                record {
                  from = omega (arith, w.from);
                  within = w.within;
                  good = let ex : v.2 ≡ (exact_dword (get_or ds at 0) && exact_extension y) = cc in rw (et, ← ey) ex;
                };
            is = operand_some left ds at h l ∙ rw (w.is, et);
          }

  pub shut : None ≡ fronted at (front left (drop at ds)) → operand left (drop at ds) ≡ malformed
  unfolding operand
  shut e = at_depth left refl
    where
      at_length : (left ≡ 0 → ⊥) → (c : Bool) → ltb at (length ds) ≡ c → operand left (drop at ds) ≡ malformed
      at_length h true q = go (chain (follows (get_or ds at 0)) (drop (at + 1) ds)) refl (e ∙ ap (fronted at) (front_some left ds at h (ltb-true at (length ds) q)))
        where
          go : (g : Got (List ℕ)) → chain (follows (get_or ds at 0)) (drop (at + 1) ds) ≡ g → None ≡ fronted at (then g (λ y. give (get_or ds at 0, y))) → operand left (drop at ds) ≡ malformed
          go malformed p z = operand_some left ds at h (ltb-true at (length ds) q) ∙ rw p
          go (got y r) p z = impossible (cc)
      at_length h false q = operand_end left ds at (ltb-false at (length ds) q)

      at_depth : (k : ℕ) → left ≡ k → operand left (drop at ds) ≡ malformed
      at_depth zero z = rw z
      at_depth (suc k) z = at_length (λ y. omega arith) (ltb at (length ds)) refl

-- an operand of immediates
module _ {ds : List ℕ} {at t b : ℕ} {x : Bool} (s : Stands ds at t b x) (d : ℕ) (ed : d ≡ dimension t) where
  pub leaf_deep : (d ≡ 0 → ⊥) → None ≡ measured (read_immediates t (slice (at + 1) b ds) (drop b ds))
  unfolding read_immediates
  leaf_deep z = rw (← ed, ne_eqb d 0 z)

  module _ (hd : d ≡ 0) (m : ℕ) (em : m ≡ immediates t) (n : ℕ) (en : n ≡ length ds) where
    pub leaf_short : n - b < m → None ≡ measured (read_immediates t (slice (at + 1) b ds) (drop b ds))
    unfolding read_immediates
    leaf_short l = rw (← ed, eq-eqb d 0 hd, ← em, some_short m ds b s.within (omega arith))

    pub leaf_read : m ≤ n - b → read 1 m (b - at + m) x ≡ measured (read_immediates t (slice (at + 1) b ds) (drop b ds))
    unfolding read_immediates tree_rows tree_words dwords exact
    leaf_read l =
        let e = slice (at + 1) b ds in
        let i = take m (drop b ds) in
        let le : length e ≡ b - (at + 1) = length-slice (at + 1) b ds s.within in
        let li : length i ≡ m = some_length m ds b (omega (arith, s.within)) in
        let w : m ≡ length (i ++ [] ++ [] ++ []) = sym (simp append-nil li) in
        let n : b - at + m ≡ length (t ∷ e ++ i ++ [] ++ [] ++ []) = simp length-append (omega (arith, s.from)) in
        let g : (exact_dword t && exact_extension e) ≡ (exact_dword t && exact_extension e && true && true && true) = simp and-true in
        (λ j. read 1 (w j) (n j) ((s.good ∙ g) j)) ∙ sym (rw (← ed, eq-eqb d 0 hd, ← em, some_whole m ds b (omega (arith, s.within))))

    pub leaf_words : cond (ltb (n - b) m) None (read 1 m (b - at + m) x) ≡ measured (read_immediates t (slice (at + 1) b ds) (drop b ds))
    leaf_words = go (ltb (n - b) m) refl
      where
        go : (c : Bool) → ltb (n - b) m ≡ c → cond c None (read 1 m (b - at + m) x) ≡ measured (read_immediates t (slice (at + 1) b ds) (drop b ds))
        go true q = leaf_short (ltb-true (n - b) m q)
        go false q = leaf_read (ltb-false (n - b) m q)

-- an operand with the dword t is measured by what stands behind its front
module _ {left : ℕ} {ds : List ℕ} {at t b : ℕ} {x : Bool} (o : Opened left ds at t b x) (m : Bool) (em : m ≡ immediate t) {a : Option Measured} where
  pub leaf_is : m ≡ true → a ≡ measured (read_immediates t (slice (at + 1) b ds) (drop b ds)) → a ≡ measured (operand left (drop at ds))
  leaf_is h e = e ∙ sym (ap measured o.is ∙ rw (sym em ∙ h))

  pub tree_is : m ≡ false → a ≡ measured (read_indices (operand (left - 1)) t (slice (at + 1) b ds) (drop b ds)) → a ≡ measured (operand left (drop at ds))
  tree_is h e = e ∙ sym (ap measured o.is ∙ rw (sym em ∙ h))

-- a front that was read at a place of a part
module _ (left : ℕ) {part : List ℕ} {at : ℕ} (f : Front) (e : told (Some f) ≡ fronted at (front left (drop at (dwords_of part)))) (q : (f.part.now ≡ part) × (f.at ≡ at)) where
  pub front_opened : Opened left (dwords_of f.part.now) f.at f.token f.body f.exact
  front_opened = opened left (dwords_of f.part.now) f.at (f.token, f.body, f.exact) (rw (q.0, q.1) e)

  pub front_is : {a : Option Measured} → a ≡ measured (operand left (drop f.at (dwords_of f.part.now))) → a ≡ measured (operand left (drop at (dwords_of part)))
  front_is h = rw (← q.0, ← q.1) h

-- an operand's dword below bit 22 has neither representations nor extensions
pub low_flat : (t : ℕ) → t < 2 ^ 22 → Flat t
low_flat t h = omega arith

pub low_ends : (t : ℕ) → t < 2 ^ 22 → follows t ≡ false
unfolding follows
low_ends t h = ne_eqb (t / 2 ^ 31 % 2) 1 (λ z. omega arith)

module _ (left : ℕ) (ds : List ℕ) (at : ℕ) where
  pub low_opened : (left ≡ 0 → ⊥) → at < length ds → (t : ℕ) → t ≡ get_or ds at 0 → t < 2 ^ 22 → (x : Bool) → x ≡ exact_dword t → Opened left ds at t (at + 1) x
  unfolding exact_extension
  low_opened h l t et q x ex =
      opened left ds at (t, at + 1, x)
      (front_read left ds at h l t et false (sym (low_ends t q)) (at + 1) (not_begun ds (at + 1) refl) x true x ex (sym (ap exact_extension (slice_empty (at + 1) ds))) (sym (and-true x)))
