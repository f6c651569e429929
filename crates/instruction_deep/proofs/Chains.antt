-- Words 8 to 11 of a row: which chains they tell.
use Prim.Native.Nat.{ℕ, zero, suc, ◌+◌, ◌-◌, ◌*◌, ◌/◌, ◌%◌, ◌^◌, ◌<◌, ◌≤◌}
use mathlib.Core.Path.{◌≡◌, refl, sym, ap, ◌∙◌, subst}
use mathlib.Core.List.{List, [], ◌∷◌}
use mathlib.Core.Bool.{Bool, true, false, not, beq, cond, ◌&&◌}
use native.Mathlib.Decide.{ℕ_discrete}
use native.Mathlib.Omega.{arith}
use lib.ListN.{length}
use lib.Dec.{eqb, ltb}
use lib.Pow.{pow_pos}
use borrow.Author.Tests.{eq-eqb, ne_eqb, eqb-true, lt-ltb, ltb-true}
use Rattle.format.specs.Dwords.{bits, follows}
use Rattle.format.specs.Counts.{extension_type, lower_bits, rising, of_type, type_bits}
use Rattle.format.specs.Encoder.{chain_of}
use Rattle.format.proofs.Dwords.{impossible, both}
use Rattle.format.proofs.Chains.{Rose, rose}
use Rattle.std.specs.Prelude.{Option, Some, None}
use Rattle.instruction_deep.specs.Confirm.{linked}
use Rattle.instruction_deep.specs.Walks.{Counts, are, none_are, Chained}

-- ---- types 1, 2, 3, each there or not
data Third : List ℕ → Type 0 where
  no_third : Third []
  third : {x : ℕ} → extension_type x ≡ 3 → Third (x ∷ [])

data Second : List ℕ → Type 0 where
  no_second : {l : List ℕ} → Third l → Second l
  second : {x : ℕ} {l : List ℕ} → extension_type x ≡ 2 → Third l → Second (x ∷ l)

data First : List ℕ → Type 0 where
  no_first : {l : List ℕ} → Second l → First l
  first : {x : ℕ} {l : List ℕ} → extension_type x ≡ 1 → Second l → First (x ∷ l)

above_3 : (l : List ℕ) → rising 3 l ≡ true → l ≡ []
above_3 [] h = refl
above_3 (x ∷ l) h = let r = rose 3 x l h in impossible (omega (arith, r.more, r.less))

above_2 : (l : List ℕ) → rising 2 l ≡ true → Third l
above_2 [] h = no_third
above_2 (x ∷ l) h =
    let r = rose 2 x l h in
    let e : extension_type x ≡ 3 = omega (arith, r.more, r.less) in
    subst (λ (k : List ℕ). Third (x ∷ k)) (sym (above_3 l (rw e at r.then))) (third e)

-- the same above a type that was passed
risen_on : (k a : ℕ) (l : List ℕ) → k < extension_type a → (r : rising 0 (a ∷ l) ≡ true) → rising k (a ∷ l) ≡ true
unfolding rising
risen_on k a l h e =
    let r = rose 0 a l e in
    rw (lt-ltb k _ h, lt-ltb _ 4 r.less, eq-eqb a _ r.exact) r.then

from_0 : (k : ℕ) (l : List ℕ) → rising k l ≡ true → rising 0 l ≡ true
unfolding rising
from_0 k [] h = refl
from_0 k (a ∷ l) h =
    let r = rose k a l h in
    rw (lt-ltb 0 (extension_type a) (omega (arith, r.more)), lt-ltb _ 4 r.less, eq-eqb a _ r.exact) r.then

above_1 : (l : List ℕ) → rising 1 l ≡ true → Second l
above_1 [] h = no_second no_third
above_1 (x ∷ l) h = go (ℕ_discrete (extension_type x) 2)
  where
    r : Rose 1 x l
    r = rose 1 x l h

    go : Dec (extension_type x ≡ 2) → Second (x ∷ l)
    go (yes e) = second e (above_2 l (rw e at r.then))
    go (no n) = no_second (above_2 (x ∷ l) (risen_on 2 x l (omega (arith, r.more, n)) (from_0 1 (x ∷ l) h)))

above_0 : (l : List ℕ) → rising 0 l ≡ true → First l
above_0 [] h = no_first (no_second no_third)
above_0 (x ∷ l) h = go (ℕ_discrete (extension_type x) 1)
  where
    r : Rose 0 x l
    r = rose 0 x l h

    go : Dec (extension_type x ≡ 1) → First (x ∷ l)
    go (yes e) = first e (above_1 l (rw e at r.then))
    go (no n) = no_first (above_1 (x ∷ l) (risen_on 1 x l (omega (arith, r.more, n)) h))

-- ---- so the bits tell which are there
record Typed (n x y z : ℕ) : Type 0 where
  few : n < 8
  one_none : n % 2 ≡ 0 → x ≡ 0
  two_none : n / 2 % 2 ≡ 0 → y ≡ 0
  two_is : (n / 2 % 2 ≡ 0 → ⊥) → extension_type y ≡ 2
  three_none : n / 4 ≡ 0 → z ≡ 0
  three_is : (n / 4 ≡ 0 → ⊥) → extension_type z ≡ 3

abbrev TypedList : List ℕ → Type 0
TypedList l = Typed (type_bits l) (of_type 1 l) (of_type 2 l) (of_type 3 l)

typed : {l : List ℕ} → First l → TypedList l
unfolding type_bits of_type
typed (no_first (no_second no_third)) = record { few = omega arith; one_none = λ e. refl; two_none = λ e. refl; two_is = λ n. absurd (n refl); three_none = λ e. refl; three_is = λ n. absurd (n refl) }
typed (no_first (no_second (third x))) = rw x (record { few = omega arith; one_none = λ e. refl; two_none = λ e. refl; two_is = λ n. absurd (n refl); three_none = λ e. impossible (omega arith); three_is = λ n. x })
typed (no_first (second x no_third)) = rw x (record { few = omega arith; one_none = λ e. refl; two_none = λ e. impossible (omega arith); two_is = λ n. x; three_none = λ e. refl; three_is = λ n. absurd (n refl) })
typed (no_first (second x (third y))) = rw (x, y) (record { few = omega arith; one_none = λ e. refl; two_none = λ e. impossible (omega arith); two_is = λ n. x; three_none = λ e. impossible (omega arith); three_is = λ n. y })
typed (first x (no_second no_third)) = rw x (record { few = omega arith; one_none = λ e. impossible (omega arith); two_none = λ e. refl; two_is = λ n. absurd (n refl); three_none = λ e. refl; three_is = λ n. absurd (n refl) })
typed (first x (no_second (third y))) = rw (x, y) (record { few = omega arith; one_none = λ e. impossible (omega arith); two_none = λ e. refl; two_is = λ n. absurd (n refl); three_none = λ e. impossible (omega arith); three_is = λ n. y })
typed (first x (second y no_third)) = rw (x, y) (record { few = omega arith; one_none = λ e. impossible (omega arith); two_none = λ e. impossible (omega arith); two_is = λ n. y; three_none = λ e. refl; three_is = λ n. absurd (n refl) })
typed (first x (second y (third z))) = rw (x, y, z) (record { few = omega arith; one_none = λ e. impossible (omega arith); two_none = λ e. impossible (omega arith); two_is = λ n. y; three_none = λ e. impossible (omega arith); three_is = λ n. z })

-- ---- what a chain that is confirmed says of the row's words
shown : (f : Bool) (l : List ℕ) → linked f l ≡ true → f ≡ ltb 0 (type_bits l)
unfolding linked type_bits
shown true [] h = impossible (cc)
shown false [] h = refl
shown true (x ∷ l) h = sym (lt-ltb 0 (2 ^ (extension_type x - 1) + type_bits l) (omega (arith, pow_pos (extension_type x - 1))))
shown false (x ∷ l) h = impossible (cc)

module _ {f : Bool} {n u a b : ℕ} (c : Chained f n u a b) where
  types : Typed n (of_type 1 (chain_of n u a b)) (of_type 2 (chain_of n u a b)) (of_type 3 (chain_of n u a b))
  types = subst (λ (k : ℕ). Typed k (of_type 1 (chain_of n u a b)) (of_type 2 (chain_of n u a b)) (of_type 3 (chain_of n u a b))) (sym c.bits_are) (typed (above_0 (chain_of n u a b) c.risen))

  chain_few : n < 8
  chain_few = types.few

  chain_follows : f ≡ ltb 0 n
  chain_follows = shown f (chain_of n u a b) c.taken ∙ ap (ltb 0) (sym c.bits_are)

  chain_first : ltb u (cond (eqb (n % 2) 0) 1 4096) ≡ true
  chain_first = go (ℕ_discrete (n % 2) 0)
    where
      go : Dec (n % 2 ≡ 0) → ltb u (cond (eqb (n % 2) 0) 1 4096) ≡ true
      go (yes e) =
          let z : u ≡ 0 = c.first_is ∙ ap (λ (x : ℕ). bits 9 20 x) (types.one_none e) in
          rw (eq-eqb (n % 2) 0 e) (lt-ltb u 1 (omega (arith, z)))
      go (no k) = rw (ne_eqb (n % 2) 0 k) (lt-ltb u 4096 (let z = c.first_is in omega (arith, z)))

  low_type : (x : ℕ) → extension_type (x % 2 ^ 31) ≡ extension_type x
  low_type x = omega arith

  other : (m k v y : ℕ) → v ≡ y % 2 ^ 31 → (m ≡ 0 → y ≡ 0) → ((m ≡ 0 → ⊥) → extension_type y ≡ k) → cond (eqb m 0) (eqb v 0) (ltb v 2147483648 && eqb (extension_type v) k) ≡ true
  other m k v y e p q = go (ℕ_discrete m 0)
    where
      go : Dec (m ≡ 0) → cond (eqb m 0) (eqb v 0) (ltb v 2147483648 && eqb (extension_type v) k) ≡ true
      go (yes z) = rw (eq-eqb m 0 z) (eq-eqb v 0 (e ∙ ap (λ (x : ℕ). x % 2 ^ 31) (p z)))
      go (no z) = rw (ne_eqb m 0 z, lt-ltb v 2147483648 (omega (arith, e))) (eq-eqb (extension_type v) k (ap extension_type e ∙ low_type y ∙ q z))

  chain_second : cond (eqb (n / 2 % 2) 0) (eqb a 0) (ltb a 2147483648 && eqb (extension_type a) 2) ≡ true
  chain_second = other (n / 2 % 2) 2 a _ c.second_is types.two_none types.two_is

  chain_third : cond (eqb (n / 4) 0) (eqb b 0) (ltb b 2147483648 && eqb (extension_type b) 3) ≡ true
  chain_third = other (n / 4) 3 b _ c.third_is types.three_none types.three_is

-- ---- a dword of a chain
record Link (k : ℕ) (f : Bool) (x : ℕ) : Type 0 where
  type : extension_type x ≡ k
  exact : eqb x (lower_bits x + bits 31 31 x * 2 ^ 31) ≡ true
  next : follows x ≡ f

record First_link (u : ℕ) (f : Bool) : Type 0 where
  link : Link 1 f (1 + u * 2 ^ 9 + cond f (2 ^ 31) 0)
  value : u ≡ bits 9 20 (1 + u * 2 ^ 9 + cond f (2 ^ 31) 0)

first_link : (u : ℕ) → u < 4096 → (f : Bool) → First_link u f
unfolding lower_bits follows
first_link u h true =
    let x : ℕ = 1 + u * 2 ^ 9 + 2 ^ 31 in
    let t : x % 2 ^ 6 ≡ 1 = omega arith in
    let v : x / 2 ^ 9 ≡ u + 4096 * 1024 = omega arith in
    let w : (u + 4096 * 1024) % 2 ^ 12 ≡ u = omega arith in
    let y : x / 2 ^ 31 ≡ 1 = omega arith in
    record {
      link = record { type = t; exact = rw (t, v, w, y) (eq-eqb x x refl); next = rw y };
      value = rw v (sym w);
    }
first_link u h false =
    let x : ℕ = 1 + u * 2 ^ 9 + 0 in
    let t : x % 2 ^ 6 ≡ 1 = omega arith in
    let v : x / 2 ^ 9 ≡ u = omega arith in
    let w : u % 2 ^ 12 ≡ u = omega arith in
    let y : x / 2 ^ 31 ≡ 0 = omega arith in
    record {
      link = record { type = t; exact = rw (t, v, w, y) (eq-eqb x x refl); next = rw y };
      value = rw v (sym w);
    }

record Other_link (k a : ℕ) (f : Bool) : Type 0 where
  link : Link k f (a + cond f 1 0 * 2 ^ 31)
  value : a ≡ (a + cond f 1 0 * 2 ^ 31) % 2 ^ 31

other_link : (k a : ℕ) → a < 2 ^ 31 → extension_type a ≡ k → eqb k 1 ≡ false → (f : Bool) → Other_link k a f
unfolding lower_bits follows
other_link k a h e n true =
    let x : ℕ = a + 1 * 2 ^ 31 in
    let t : x % 2 ^ 6 ≡ k = omega arith in
    let v : x % 2 ^ 31 ≡ a = omega arith in
    let y : x / 2 ^ 31 ≡ 1 = omega arith in
    record { link = record { type = t; exact = rw (t, n, v, y) (eq-eqb x x refl); next = rw y }; value = sym v }
other_link k a h e n false =
    let x : ℕ = a + 0 * 2 ^ 31 in
    let t : x % 2 ^ 6 ≡ k = omega arith in
    let v : x % 2 ^ 31 ≡ a = omega arith in
    let y : x / 2 ^ 31 ≡ 0 = omega arith in
    record { link = record { type = t; exact = rw (t, n, v, y) (eq-eqb x x refl); next = rw y }; value = sym v }

-- ---- a row whose words fit tells a chain
module _ (u a b : ℕ) where
  abbrev Fits : ℕ → Type 0
  Fits n = (ltb u (cond (eqb (n % 2) 0) 1 4096) ≡ true) × (cond (eqb (n / 2 % 2) 0) (eqb a 0) (ltb a 2147483648 && eqb (extension_type a) 2) ≡ true) × (cond (eqb (n / 4) 0) (eqb b 0) (ltb b 2147483648 && eqb (extension_type b) 3) ≡ true)

  no_u : ltb u 1 ≡ true → u ≡ 0
  no_u h = let z = ltb-true u 1 h in omega arith

  some_u : ltb u 4096 ≡ true → (f : Bool) → First_link u f
  some_u h f = first_link u (ltb-true u 4096 h) f

  some_a : (ltb a 2147483648 && eqb (extension_type a) 2) ≡ true → (f : Bool) → Other_link 2 a f
  some_a h f = let p = both _ _ h in other_link 2 a (ltb-true a 2147483648 p.0) (eqb-true _ 2 p.1) refl f

  abbrev Last : Type 0
  Last = (Link 3 false b) × (b ≡ b % 2 ^ 31)

  some_b : (ltb b 2147483648 && eqb (extension_type b) 3) ≡ true → Last
  some_b h =
      let p = both _ _ h in
      let l = other_link 3 b (ltb-true b 2147483648 p.0) (eqb-true _ 3 p.1) refl false in
      let z : b + 0 ≡ b = omega arith in
      (subst (Link 3 false) z l.link, l.value ∙ ap (λ (x : ℕ). x % 2 ^ 31) z)

  pub chain_fits : (n : ℕ) → n < 8 → Fits n → Chained (ltb 0 n) n u a b
  unfolding chain_of rising linked type_bits of_type
  chain_fits zero h (x, y, z) = record { risen = refl; taken = refl; bits_are = refl; first_is = no_u x; second_is = eqb-true a 0 y; third_is = eqb-true b 0 z }
  chain_fits (suc zero) h (x, y, z) =
      let lu = some_u x false in
      record {
        risen = rw (lu.link.type, lu.link.exact);
        taken = rw lu.link.next;
        bits_are = rw lu.link.type;
        first_is = rw lu.link.type lu.value;
        second_is = rw lu.link.type (eqb-true a 0 y);
        third_is = rw lu.link.type (eqb-true b 0 z);
      }
  chain_fits (suc (suc zero)) h (x, y, z) =
      let la = some_a y false in
      record {
        risen = rw (la.link.type, la.link.exact);
        taken = rw la.link.next;
        bits_are = rw la.link.type;
        first_is = rw la.link.type (no_u x);
        second_is = rw la.link.type la.value;
        third_is = rw la.link.type (eqb-true b 0 z);
      }
  chain_fits (suc (suc (suc zero))) h (x, y, z) =
      let lu = some_u x true in
      let la = some_a y false in
      record {
        risen = rw (lu.link.type, lu.link.exact, la.link.type, la.link.exact);
        taken = rw (lu.link.next, la.link.next);
        bits_are = rw (lu.link.type, la.link.type);
        first_is = rw lu.link.type lu.value;
        second_is = rw (lu.link.type, la.link.type) la.value;
        third_is = rw (lu.link.type, la.link.type) (eqb-true b 0 z);
      }
  chain_fits (suc (suc (suc (suc zero)))) h (x, y, z) =
      let lb = some_b z in
      record {
        risen = rw (lb.0.type, lb.0.exact);
        taken = rw lb.0.next;
        bits_are = rw lb.0.type;
        first_is = rw lb.0.type (no_u x);
        second_is = rw lb.0.type (eqb-true a 0 y);
        third_is = rw lb.0.type lb.1;
      }
  chain_fits (suc (suc (suc (suc (suc zero))))) h (x, y, z) =
      let lu = some_u x true in
      let lb = some_b z in
      record {
        risen = rw (lu.link.type, lu.link.exact, lb.0.type, lb.0.exact);
        taken = rw (lu.link.next, lb.0.next);
        bits_are = rw (lu.link.type, lb.0.type);
        first_is = rw lu.link.type lu.value;
        second_is = rw (lu.link.type, lb.0.type) (eqb-true a 0 y);
        third_is = rw (lu.link.type, lb.0.type) lb.1;
      }
  chain_fits (suc (suc (suc (suc (suc (suc zero)))))) h (x, y, z) =
      let la = some_a y true in
      let lb = some_b z in
      record {
        risen = rw (la.link.type, la.link.exact, lb.0.type, lb.0.exact);
        taken = rw (la.link.next, lb.0.next);
        bits_are = rw (la.link.type, lb.0.type);
        first_is = rw (la.link.type, lb.0.type) (no_u x);
        second_is = rw la.link.type la.value;
        third_is = rw (la.link.type, lb.0.type) lb.1;
      }
  chain_fits (suc (suc (suc (suc (suc (suc (suc zero))))))) h (x, y, z) =
      let lu = some_u x true in
      let la = some_a y true in
      let lb = some_b z in
      record {
        risen = rw (lu.link.type, lu.link.exact, la.link.type, la.link.exact, lb.0.type, lb.0.exact);
        taken = rw (lu.link.next, la.link.next, lb.0.next);
        bits_are = rw (lu.link.type, la.link.type, lb.0.type);
        first_is = rw lu.link.type lu.value;
        second_is = rw (lu.link.type, la.link.type) la.value;
        third_is = rw (lu.link.type, la.link.type, lb.0.type) lb.1;
      }
  chain_fits (suc (suc (suc (suc (suc (suc (suc (suc n)))))))) h f = impossible (omega arith)

  chain_length : (n : ℕ) → n < 8 → length (chain_of n u a b) ≡ n % 2 + n / 2 % 2 + n / 4
  unfolding chain_of
  chain_length zero h = refl
  chain_length (suc zero) h = refl
  chain_length (suc (suc zero)) h = refl
  chain_length (suc (suc (suc zero))) h = refl
  chain_length (suc (suc (suc (suc zero)))) h = refl
  chain_length (suc (suc (suc (suc (suc zero))))) h = refl
  chain_length (suc (suc (suc (suc (suc (suc zero)))))) h = refl
  chain_length (suc (suc (suc (suc (suc (suc (suc zero))))))) h = refl
  chain_length (suc (suc (suc (suc (suc (suc (suc (suc n)))))))) h = impossible (omega arith)

-- ---- the code's ways
differ : (x y : Bool) → not (beq x y) ≡ true → x ≡ y → ⊥
differ true true k e = impossible (cc)
differ false false k e = impossible (cc)
differ true false k e = impossible (cc)
differ false true k e = impossible (cc)

alike : (x y : Bool) → not (beq x y) ≡ false → x ≡ y
alike true true k = refl
alike false false k = refl
alike true false k = impossible (cc)
alike false true k = impossible (cc)

module _ (there : Bool) (n u a b : ℕ) where
  abbrev Answers : Option ℕ → Type 0
  Answers p = Counts (Chained there n u a b) (length (chain_of n u a b)) p

  unequal : {x y : Bool} → x ≡ y → x ≡ false → y ≡ true → ⊥
  unequal e h k = impossible (cc)

  pub other_bit : not (beq there (ltb 0 n)) ≡ true → Answers None
  other_bit k = none_are (λ c. differ there (ltb 0 n) k (chain_follows c))

  pub too_many : 8 ≤ n → Answers None
  too_many h = none_are (λ c. let z = chain_few c in absurd (let f : ⊥ = omega arith in f))

  module _ (p : Bool) (ep : p ≡ ltb u (cond (eqb (n % 2) 0) 1 4096)) where
    pub not_first : p ≡ false → Answers None
    not_first h = none_are (λ c. unequal ep h (chain_first c))

    module _ (q : Bool) (eq : q ≡ cond (eqb (n / 2 % 2) 0) (eqb a 0) (ltb a 2147483648 && eqb (extension_type a) 2)) where
      pub not_second : q ≡ false → Answers None
      not_second h = none_are (λ c. unequal eq h (chain_second c))

      module _ (r : Bool) (er : r ≡ cond (eqb (n / 4) 0) (eqb b 0) (ltb b 2147483648 && eqb (extension_type b) 3)) where
        pub not_third : r ≡ false → Answers None
        not_third h = none_are (λ c. unequal er h (chain_third c))

        pub all_fit : not (beq there (ltb 0 n)) ≡ false → n < 8 → p ≡ true → q ≡ true → r ≡ true → Answers (Some (n % 2 + n / 2 % 2 + n / 4))
        all_fit ez h hp hq hr =
            let c = chain_fits u a b n h (sym ep ∙ hp, sym eq ∙ hq, sym er ∙ hr) in
            rw (← (chain_length u a b n h)) (are (omega (arith, chain_length u a b n h)) (rw (alike there (ltb 0 n) ez) c))
