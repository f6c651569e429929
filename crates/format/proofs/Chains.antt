-- An extension chain that check 14 allows is made again from its row.
use Prim.Native.Nat.{ℕ, zero, suc, ◌+◌, ◌*◌, ◌-◌, ◌%◌, ◌^◌, ◌<◌}
use mathlib.Core.Path.{◌≡◌, refl, sym, ◌∙◌}
use mathlib.Core.List.{List, [], ◌∷◌}
use mathlib.Core.Bool.{Bool, true, false, cond}
use lib.Dec.{ltb, eqb}
use lib.Pow.{pow_pos}
use native.Mathlib.Omega.{arith}
use borrow.Author.Tests.{ltb-true, eqb-true, eqb-false, lt-ltb, eq-eqb}
use native.Mathlib.Decide.{ℕ_discrete}
use Rattle.format.specs.Dwords.{bits, follows}
use Rattle.format.specs.Counts.{extension_type, lower_bits, rising, of_type, type_bits}
use Rattle.format.specs.Encoder.{chain_of}
use Rattle.format.proofs.Dwords.{impossible, both, Linked, end, link}

pub bit31 : (t : ℕ) (b : Bool) → follows t ≡ b → bits 31 31 t ≡ cond b 1 0
unfolding follows
bit31 t true e = eqb-true (bits 31 31 t) 1 e
bit31 t false e = let n : bits 31 31 t ≡ 1 → ⊥ = eqb-false (bits 31 31 t) 1 e in omega arith

-- an extension of type k: its bits, and bit 31
record Ext (k a : ℕ) : Type 0 where
  type : extension_type a ≡ k
  exact : a ≡ lower_bits a + bits 31 31 a * 2 ^ 31

-- of the last d types of 1, 2, 3 each is there or not
data Types : ℕ → List ℕ → Type 0 where
  stop : Types 0 []
  skip : {d : ℕ} {l : List ℕ} → Types d l → Types (suc d) l
  take : {d a : ℕ} {l : List ℕ} → Ext (3 - d) a → Types d l → Types (suc d) (a ∷ l)

pub record Rose (k a : ℕ) (l : List ℕ) : Type 0 where
  pub more : k < extension_type a
  pub less : extension_type a < 4
  pub exact : a ≡ lower_bits a + bits 31 31 a * 2 ^ 31
  pub then : rising (extension_type a) l ≡ true

pub rose : (k a : ℕ) (l : List ℕ) → rising k (a ∷ l) ≡ true → Rose k a l
unfolding rising
rose k a l h =
    let h₁ = both _ (rising (extension_type a) l) h in
    let h₂ = both _ (eqb a (lower_bits a + bits 31 31 a * 2 ^ 31)) h₁.0 in
    let h₃ = both (ltb k (extension_type a)) (ltb (extension_type a) 4) h₂.0 in
    record { more = ltb-true k (extension_type a) h₃.0; less = ltb-true (extension_type a) 4 h₃.1; exact = eqb-true a _ h₂.1; then = h₁.1 }

rises : (k a : ℕ) (l : List ℕ) → Rose k a l → rising k (a ∷ l) ≡ true
unfolding rising
rises k a l r = rw (lt-ltb k _ r.more, lt-ltb _ 4 r.less, eq-eqb a _ r.exact) r.then

types : (d k : ℕ) (l : List ℕ) → k + d ≡ 3 → rising k l ≡ true → Types d l
types zero k [] s h = stop
types zero k (a ∷ l) s h = let r = rose k a l h in impossible (omega (arith, r.more, r.less))
types (suc d) k [] s h = skip (types d (suc k) [] (omega arith) (unfold rising in refl))
types (suc d) k (a ∷ l) s h = go (ℕ_discrete (extension_type a) (suc k)) (types d (suc k))
  where
    r : Rose k a l
    r = rose k a l h

    go : Dec (extension_type a ≡ suc k) → ((l : List ℕ) → suc k + d ≡ 3 → rising (suc k) l ≡ true → Types d l) → Types (suc d) (a ∷ l)
    go (yes e) f = take {d = d} (record { type = e ∙ omega arith; exact = r.exact }) (f l (omega arith) (rw e at r.then))
    go (no n) f = skip (f (a ∷ l) (omega arith) (rises (suc k) a l (record { more = omega (arith, r.more, n); less = r.less; exact = r.exact; then = r.then })))

-- an extension is its bits below 31, and bit 31 if another follows
type1_again : {a : ℕ} (f : Bool) → follows a ≡ f → Ext 1 a → 1 + bits 9 20 a * 2 ^ 9 + cond f (2 ^ 31) 0 ≡ a
unfolding lower_bits
type1_again {a} true z x = let w : a ≡ 1 + bits 9 20 a * 2 ^ 9 + bits 31 31 a * 2 ^ 31 = rw x.type at x.exact in omega (arith, w, bit31 a true z)
type1_again {a} false z x = let w : a ≡ 1 + bits 9 20 a * 2 ^ 9 + bits 31 31 a * 2 ^ 31 = rw x.type at x.exact in omega (arith, w, bit31 a false z)

other_again : {k a : ℕ} (f : Bool) → eqb k 1 ≡ false → follows a ≡ f → Ext k a → a % 2 ^ 31 + cond f 1 0 * 2 ^ 31 ≡ a
unfolding lower_bits
other_again {k} {a} f n z x = let w : a ≡ a % 2 ^ 31 + bits 31 31 a * 2 ^ 31 = rw (x.type, n) at x.exact in rw (← (bit31 a f z)) (sym w)

last_again : {k a : ℕ} → eqb k 1 ≡ false → follows a ≡ false → Ext k a → a % 2 ^ 31 ≡ a
last_again n z x = omega (arith, other_again false n z x)

next : {b : Bool} {a : ℕ} {l : List ℕ} → Linked b (a ∷ l) → Linked (follows a) l
next (link k) = k

none : {b : Bool} → Linked b [] → b ≡ false
none end = refl

some : {b : Bool} {a : ℕ} {l : List ℕ} → Linked b (a ∷ l) → b ≡ true
some (link k) = refl

abbrev Again : List ℕ → Type 0
Again l = chain_of (type_bits l) (bits 9 20 (of_type 1 l)) (of_type 2 l % 2 ^ 31) (of_type 3 l % 2 ^ 31) ≡ l

again : {b : Bool} {l : List ℕ} → Types 3 l → Linked b l → Again l
unfolding chain_of type_bits of_type
again (skip (skip (skip stop))) k = refl
again (skip (skip (take x stop))) k = rw x.type (λ i. last_again refl (none (next k)) x i ∷ [])
again (skip (take x (skip stop))) k = rw x.type (λ i. other_again false refl (none (next k)) x i ∷ [])
again (skip (take x (take y stop))) k = rw (x.type, y.type) (λ i. other_again true refl (some (next k)) x i ∷ last_again refl (none (next (next k))) y i ∷ [])
again (take x (skip (skip stop))) k = rw x.type (λ i. type1_again false (none (next k)) x i ∷ [])
again (take x (skip (take y stop))) k = rw (x.type, y.type) (λ i. type1_again true (some (next k)) x i ∷ last_again refl (none (next (next k))) y i ∷ [])
again (take x (take y (skip stop))) k = rw (x.type, y.type) (λ i. type1_again true (some (next k)) x i ∷ other_again false refl (none (next (next k))) y i ∷ [])
again (take x (take y (take z stop))) k =
    rw (x.type, y.type, z.type) (λ i. type1_again true (some (next k)) x i ∷ other_again true refl (some (next (next k))) y i ∷ last_again refl (none (next (next (next k)))) z i ∷ [])

-- a chain is made again
pub chain_again : {b : Bool} {l : List ℕ} → Linked b l → rising 0 l ≡ true → Again l
chain_again {l = l} k h = again (types 3 0 l (omega arith) h) k

-- the row shows whether there is one
pub chain_shown : {b : Bool} {l : List ℕ} → Linked b l → ltb 0 (type_bits l) ≡ b
unfolding type_bits
chain_shown end = refl
chain_shown (link {x = x} {l = l} q) = lt-ltb 0 (2 ^ (extension_type x - 1) + type_bits l) (omega (arith, pow_pos (extension_type x - 1)))
