-- The items of a shape behind its operands, in the code's order.
use Prim.Native.Nat.{ℕ, zero, suc, ◌+◌, ◌-◌, ◌≤◌}
use mathlib.Core.Path.{◌≡◌, refl, sym, ap, ◌∙◌, subst}
use mathlib.Core.List.{List, [], ◌∷◌, ◌++◌}
use mathlib.Core.Bool.{Bool, true, false, cond}
use lib.ListN.{length, get_or, drop, replicate, length-drop, drop_of_length-le}
use lib.Seq.{drop-cons}
use native.Mathlib.Omega.{arith}
use native.Mathlib.Decide.{ℕ_discrete}
use lib.Dec.{eqb}
use borrow.Author.Tests.{eq-eqb, ne_eqb}
use Rattle.layouts.specs.Shapes.{listed, tailed}
use Rattle.layouts.specs.declared.Shape.{Shape}
use Rattle.format.specs.Dwords.{some}
use Rattle.format.specs.Instructions.{read_item}
use Rattle.format.specs.Declarations.{Item, d, small, s, tail}
use Rattle.format.proofs.Dwords.{impossible}
use Rattle.std.specs.Prelude.{Option, Some, None}
use Rattle.std.specs.Option.{option_eq}
use Rattle.layouts.specs.Shapes.{Sound}
use Rattle.instruction_fields.specs.Places.{◌>>=◌, dwords_on, small_on, list_on, tail_on, rest_on}
use Rattle.instruction_fields.proofs.Passing.{dwords_pass, small_passes, list_passes}
use Rattle.instruction_fields.specs.Fields.{off, sum, add, sum_of, Passes, to, out, Ends, rest}
use Rattle.instruction_fields.proofs.Items.{item_off, one_dword_lem, extras, all_left, nothing_left, something_left}

-- the same after a run of dwords
under : (m : Bool) (k l : List Item) → ((ds : List ℕ) → sum_of m k ds ≡ sum_of m l ds) → (a : ℕ) (ds : List ℕ) → sum_of m (replicate a d ++ k) ds ≡ sum_of m (replicate a d ++ l) ds
under m k l f zero ds = f ds
under m k l f (suc a) [] = item_off m d (replicate a d ++ k) [] (unfold read_item some in refl) ∙ sym (item_off m d (replicate a d ++ l) [] (unfold read_item some in refl))
under m k l f (suc a) (x ∷ ds) = one_dword_lem m [] (replicate a d ++ k) x ds ∙ ap (add 0 1 true) (under m k l f a ds) ∙ sym (one_dword_lem m [] (replicate a d ++ l) x ds)

joined : (a b : ℕ) (l : List Item) → replicate a d ++ (replicate b d ++ l) ≡ replicate (a + b) d ++ l
joined zero b l = let z : 0 + b ≡ b = omega arith in rw z
joined (suc a) b l = let z : suc a + b ≡ suc (a + b) = omega arith in rw z (ap (λ (k : List Item). d ∷ k) (joined a b l))

pub after_extra : (m : Bool) (a x : ℕ) (l : List Item) (ds : List ℕ) → sum_of m (replicate a d ++ (replicate x s ++ l)) ds ≡ sum_of m (replicate (a + cond m x 0) d ++ l) ds
after_extra m a x l ds = under m (replicate x s ++ l) (replicate (cond m x 0) d ++ l) (λ ds. extras m l x ds) a ds ∙ ap (λ (k : List Item). sum_of m k ds) (joined a (cond m x 0) l)

module _ (m : Bool) (ds : List ℕ) (at : ℕ) where
  pub off_first : (items l : List Item) → Passes items ds at None → Ends m (items ++ l) ds at false
  off_first items l (out f) = f m l

  pub then_ends : (items l : List Item) (k : ℕ) (r : Bool) → Passes items ds at (Some k) → Ends m l ds k r → Ends m (items ++ l) ds at r
  then_ends items l k r (to a b f) e = f m l ∙ ap (add 0 (k - at) true) e ∙ go r
    where
      z : k - at + (length ds - k) ≡ length ds - at
      z = omega arith

      go : (r : Bool) → add 0 (k - at) true (cond r (sum 0 (length ds - k) true) off) ≡ cond r (sum 0 (length ds - at) true) off
      go true = ap (λ (n : ℕ). sum 0 n true) z
      go false = refl

  pub tail_ends : at ≤ length ds → Ends m (tail ∷ []) ds at true
  tail_ends h = all_left m (drop at ds) ∙ ap (λ (n : ℕ). sum 0 n true) (length-drop at ds)

  pub ends_here : at ≡ length ds → Ends m [] ds at true
  ends_here e = let z : length ds - at ≡ 0 = omega arith in rw (drop_of_length-le ds {i = at} (omega arith), z) (nothing_left m)

  pub ends_later : at ≤ length ds → (at ≡ length ds → ⊥) → Ends m [] ds at false
  ends_later h n = rw (drop-cons ds at 0 (omega (arith, n))) (something_left m (get_or ds at 0) (drop (suc at) ds))

-- ---- the code's way through the items behind the operands
pub at_place : {items : List Item} {ds : List ℕ} {at k : ℕ} {p : Option ℕ} → Passes items ds at p → p ≡ Some k → Passes items ds at (Some k)
at_place {items} {ds} {at} q e = subst (Passes items ds at) e q

pub off_place : {items : List Item} {ds : List ℕ} {at : ℕ} {p : Option ℕ} → Passes items ds at p → p ≡ None → Passes items ds at None
off_place {items} {ds} {at} q e = subst (Passes items ds at) e q

pub place_within : {items : List Item} {ds : List ℕ} {at k : ℕ} {p : Option ℕ} → Passes items ds at p → p ≡ Some k → k ≤ length ds
place_within {ds = ds} {k = k} (to {k = j} a b f) e = let z : j ≡ k = cc in subst (λ (n : ℕ). n ≤ length ds) z b
place_within (out f) e = impossible (cc)

module _ (m : Bool) (x : Shape) (ds : List ℕ) (at : ℕ) {p : Option ℕ} (p₁ : Passes (replicate x.small small) ds at p) where
  pub no_small_fits : p ≡ None → Ends m (rest x) ds at false
  unfolding rest
  no_small_fits e = off_first m ds at _ _ (off_place p₁ e)

  module _ (a : ℕ) (ea : p ≡ Some a) (n : ℕ) (en : n ≡ x.after + cond m x.extra 0) {q : Option ℕ} (p₂ : Passes (replicate n d) ds a q) where
    past : (r : Bool) → Ends m (replicate n d ++ (listed x.list ++ tailed x.tail)) ds a r → Ends m (rest x) ds at r
    unfolding rest
    past r e = then_ends m ds at _ _ a r (at_place p₁ ea) (after_extra m x.after x.extra (listed x.list ++ tailed x.tail) (drop a ds) ∙ (rw en at e))

    pub no_dwords_fit : q ≡ None → Ends m (rest x) ds at false
    no_dwords_fit e = past false (off_first m ds a _ _ (off_place p₂ e))

    module _ (b : ℕ) (eb : q ≡ Some b) {u : Option ℕ} (p₃ : Passes (listed x.list) ds b u) where
      pub no_list_fits : u ≡ None → Ends m (rest x) ds at false
      no_list_fits e = past false (then_ends m ds a _ _ b false (at_place p₂ eb) (off_first m ds b _ _ (off_place p₃ e)))

      module _ (c : ℕ) (ec : u ≡ Some c) where
        last : (r : Bool) → Ends m (tailed x.tail) ds c r → Ends m (rest x) ds at r
        last r e = past r (then_ends m ds a _ _ b r (at_place p₂ eb) (then_ends m ds b _ _ c r (at_place p₃ ec) e))

        pub keeps_tail : x.tail ≡ true → Ends m (rest x) ds at true
        keeps_tail z = last true (rw z (tail_ends m ds c (place_within p₃ ec)))

        pub ends_there : x.tail ≡ false → (k : ℕ) → k ≡ length ds → Ends m (rest x) ds at (eqb c k)
        ends_there z k e = last (eqb c k) (rw z (go (ℕ_discrete c k)))
          where
            go : Dec (c ≡ k) → Ends m [] ds c (eqb c k)
            go (yes y) = rw (eq-eqb c k y) (ends_here m ds c (y ∙ e))
            go (no y) = rw (ne_eqb c k y) (ends_later m ds c (place_within p₃ ec) (λ w. y (w ∙ sym e)))

-- they end where the place behind them is the end
module _ (m : Bool) (x : Shape) (ds : List ℕ) (at : ℕ) (h : at ≤ length ds) (s : Sound x) where
  pub rest_ends : Ends m (rest x) ds at (option_eq eqb (rest_on m x ds at) (Some (length ds)))
  unfolding rest_on
  rest_ends = first (small_on x.small ds at) (small_passes ds at h x.small s.small)
    where
      n : ℕ
      n = x.after + cond m x.extra 0

      told : Option ℕ → Bool
      told p = option_eq eqb p (Some (length ds))

      third : {p : Option ℕ} (p₁ : Passes (replicate x.small small) ds at p) (a : ℕ) (ea : p ≡ Some a) {q : Option ℕ} (p₂ : Passes (replicate n d) ds a q) (b : ℕ) (eb : q ≡ Some b) →
          (u : Option ℕ) → Passes (listed x.list) ds b u → Ends m (rest x) ds at (told (u >>= λ c. Some (tail_on x.tail (length ds) c)))
      third p₁ a ea p₂ b eb None p₃ = no_list_fits m x ds at p₁ a ea n refl p₂ b eb p₃ refl
      third p₁ a ea p₂ b eb (Some c) p₃ = go x.tail refl
        where
          go : (t : Bool) → x.tail ≡ t → Ends m (rest x) ds at (eqb (cond t (length ds) c) (length ds))
          go true e = rw (eq-eqb (length ds) (length ds) refl) (keeps_tail m x ds at p₁ a ea n refl p₂ b eb p₃ c refl e)
          go false e = ends_there m x ds at p₁ a ea n refl p₂ b eb p₃ c refl e (length ds) refl

      second : {p : Option ℕ} (p₁ : Passes (replicate x.small small) ds at p) (a : ℕ) (ea : p ≡ Some a) → (q : Option ℕ) → Passes (replicate n d) ds a q → Ends m (rest x) ds at (told (q >>= λ b. list_on x.list ds b >>= λ c. Some (tail_on x.tail (length ds) c)))
      second p₁ a ea None p₂ = no_dwords_fit m x ds at p₁ a ea n refl p₂ refl
      second p₁ a ea (Some b) p₂ = third p₁ a ea p₂ b refl (list_on x.list ds b) (list_passes ds b (place_within p₂ refl) x.list)

      first : (p : Option ℕ) → Passes (replicate x.small small) ds at p → Ends m (rest x) ds at (told (p >>= λ a. dwords_on (length ds) a n >>= λ b. list_on x.list ds b >>= λ c. Some (tail_on x.tail (length ds) c)))
      first None p₁ = no_small_fits m x ds at p₁ refl
      first (Some a) p₁ = second p₁ a refl (dwords_on (length ds) a n) (dwords_pass ds a (place_within p₁ refl) n)
