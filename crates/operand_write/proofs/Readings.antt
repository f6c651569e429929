-- How a reading that was accepted is taken apart.
use Prim.Native.Nat.{ℕ, zero, suc, ◌+◌, ◌-◌, ◌^◌, ◌<◌, ◌≤◌}
use mathlib.Core.Path.{◌≡◌, refl, sym, ◌∙◌, ap}
use mathlib.Core.Bool.{Bool, true, false}
use mathlib.Core.List.{List, [], ◌++◌}
use Rattle.std.specs.Prelude.{Option, Some, None, IsSome}
use native.Mathlib.Omega.{arith}
use lib.ListN.{length, get_or, take, drop}
use lib.Seq.{slice, slice_empty}
use lib.Dec.{ltb, eqb}
use borrow.Author.Tests.{ltb-true, ltb-false, eqb-true}
use Rattle.format.specs.Dwords.{follows, Got, malformed, got, Reader, then, give, chain}
use Rattle.format.specs.Operands.{Tree, none, plain, node, immediate, immediates, dimension, repr, own, nests, known, read_index, read_immediates, read_indices, operand, dwords, modifiers}
use Rattle.format.proofs.Dwords.{met, Makes, impossible}
use Rattle.tokens.specs.Chains.{ends}
use Rattle.tokens.proofs.Chains.{not_begun}
use Rattle.tokens.proofs.Places.{some_whole, some_short, left_at, read_within, Passed, passed, ran_off}
use Rattle.operand.specs.Measures.{Flat}
use Rattle.operand.proofs.Fronts.{body, operand_some, operand_end, low_ends}
use Rattle.operand.proofs.FlatTrees.{flat_tree, flat_short, flat_read}
use Rattle.operand.proofs.Indices.{makes_index}
use Rattle.operand_write.specs.Writes.{Front}

never : {A : Type 0} {t : Tree} {r : List ℕ} → malformed ≡ got t r → A
never e = impossible (cc)

-- an operand that was read starts before the end, and at some depth
module _ (left : ℕ) (ds : List ℕ) (at : ℕ) {t : Tree} {r : List ℕ} (e : operand left (drop at ds) ≡ got t r) where
  pub inside : at < length ds
  inside = go (ltb at (length ds)) refl
    where
      go : (b : Bool) → ltb at (length ds) ≡ b → at < length ds
      go true q = ltb-true at (length ds) q
      go false q = never (sym (operand_end left ds at (ltb-false at (length ds) q)) ∙ e)

  pub deep : 0 < left
  unfolding operand
  deep = go left refl
    where
      go : (k : ℕ) → left ≡ k → 0 < left
      go zero q = let z : malformed ≡ got t r = rw q at e in never z
      go (suc k) q = omega arith

  module _ (x : ℕ) (ex : x ≡ get_or ds at 0) (m : Bool) (em : m ≡ follows x) where
    begun : operand left (drop at ds) ≡ then (chain m (drop (at + 1) ds)) (λ y. body left x y)
    begun = operand_some left ds at (λ z. omega (arith, deep)) inside ∙ rw (← ex, ← em)

    -- the place behind its extensions is known
    pub chained : (o : Option ℕ) → o ≡ ends (at + 1) (chain m (drop (at + 1) ds)) → IsSome o
    chained None z = let q : operand left (drop at ds) ≡ malformed = begun ∙ rw (ran_off (at + 1) (chain m (drop (at + 1) ds)) z) in never (sym q ∙ e)
    chained (Some b) z = refl

-- the front of an operand that was read: its dword t and, behind the modifiers x, its body at b
pub record Entered (left : ℕ) (ds : List ℕ) (at t b x : ℕ) : Type 0 where
  pub deep : 0 < left
  pub front : Front ds at b x
  pub is : operand left (drop at ds) ≡ body left t (slice (at + 1) b ds) (drop b ds)

module _ (left : ℕ) (ds : List ℕ) (at : ℕ) {tree : Tree} {r : List ℕ} (e : operand left (drop at ds) ≡ got tree r) (t : ℕ) (et : t ≡ get_or ds at 0) where
  module _ (m : Bool) (em : m ≡ follows t) (b : ℕ) (z : Some b ≡ ends (at + 1) (chain m (drop (at + 1) ds))) where
    pub to : Passed m ds (at + 1) b
    to = passed m ds (at + 1) b (omega (arith, inside left ds at e)) z

    pub entered : (x : ℕ) → x ≡ modifiers (slice (at + 1) b ds) → Entered left ds at t b x
    entered x ex =
        record {
          deep = deep left ds at e;
          front = record { from = omega (arith, to.from); within = to.within; modified = ex };
          is = begun left ds at e t et m em ∙ rw to.is;
        }

  -- one with a low dword has no extensions
  pub low_entered : t < 2 ^ 22 → Entered left ds at t (at + 1) 0
  unfolding modifiers
  low_entered l = entered false (sym (low_ends t l)) (at + 1) (not_begun ds (at + 1) refl) 0 (sym (ap modifiers (slice_empty (at + 1) ds)))

-- an operand of immediates
pub record Leaf (ds : List ℕ) (t : ℕ) (e : List ℕ) (b : ℕ) (tree : Tree) : Type 0 where
  pub flat : dimension t ≡ 0
  pub enough : b + immediates t ≤ length ds
  pub is : tree ≡ node t e (take (immediates t) (drop b ds)) none none none

pub leaf_of : (ds : List ℕ) (t : ℕ) (e : List ℕ) (b : ℕ) (tree : Tree) (r : List ℕ) → b ≤ length ds → read_immediates t e (drop b ds) ≡ got tree r → Leaf ds t e b tree
unfolding read_immediates
leaf_of ds t e b tree r h q = flat (eqb (dimension t) 0) refl
  where
    long : eqb (dimension t) 0 ≡ true → (c : Bool) → ltb (length ds) (b + immediates t) ≡ c → Leaf ds t e b tree
    long y true z = never (rw (y, some_short (immediates t) ds b h (ltb-true (length ds) (b + immediates t) z)) at q)
    long y false z =
        let k : b + immediates t ≤ length ds = ltb-false (length ds) (b + immediates t) z in
        let p : got (node t e (take (immediates t) (drop b ds)) none none none) (drop (b + immediates t) ds) ≡ got tree r = rw (y, some_whole (immediates t) ds b k) at q in
        record { flat = eqb-true (dimension t) 0 y; enough = k; is = cc }

    flat : (c : Bool) → eqb (dimension t) 0 ≡ c → Leaf ds t e b tree
    flat true y = long y (ltb (length ds) (b + immediates t)) refl
    flat false y = never (rw y at q)

-- an operand whose indices are one dword each
pub record Flatly (ds : List ℕ) (t : ℕ) (e : List ℕ) (b : ℕ) (tree : Tree) : Type 0 where
  pub enough : b + dimension t ≤ length ds
  pub is : tree ≡ flat_tree t e (take (dimension t) (drop b ds))

pub flat_of_lem : (p : Reader Tree) (ds : List ℕ) (t : ℕ) (e : List ℕ) (b : ℕ) (tree : Tree) (r : List ℕ) → Flat t → b ≤ length ds → read_indices p t e (drop b ds) ≡ got tree r → Flatly ds t e b tree
flat_of_lem p ds t e b tree r f h q = go (ltb (length ds - b) (dimension t)) refl
  where
    go : (c : Bool) → ltb (length ds - b) (dimension t) ≡ c → Flatly ds t e b tree
    go true z = never (sym (flat_short t f p e ds b (ltb-true (length ds - b) (dimension t) z)) ∙ q)
    go false z =
        let k = ltb-false (length ds - b) (dimension t) z in
        let w : got (flat_tree t e (take (dimension t) (drop b ds))) (drop (b + dimension t) ds) ≡ got tree r = sym (flat_read t f p e ds b k) ∙ q in
        record { enough = omega arith; is = cc }

-- an index
pub record Index (p : Reader Tree) (ds : List ℕ) (r b : ℕ) (tree : Tree) (rest : List ℕ) : Type 0 where
  pub child : Tree
  pub within : b + own r ≤ length ds
  pub is : tree ≡ plain (take (own r) (drop b ds)) child
  pub nested : nests r ≡ true → p (drop (b + own r) ds) ≡ got child rest
  pub flat : nests r ≡ false → child ≡ none

pub index_of : (p : Reader Tree) (ds : List ℕ) (r b : ℕ) (tree : Tree) (rest : List ℕ) → b ≤ length ds → read_index p r (drop b ds) ≡ got tree rest → Index p ds r b tree rest
unfolding read_index
index_of p ds r b tree rest h q = first (known r) refl
  where
    fourth : (g : Got Tree) → p (drop (b + own r) ds) ≡ g → b + own r ≤ length ds → nests r ≡ true → then g (λ c. give (plain (take (own r) (drop b ds)) c)) ≡ got tree rest → Index p ds r b tree rest
    fourth malformed z k n w = never w
    fourth (got c s) z k n w = record { child = c; within = k; is = cc; nested = λ y. let f : s ≡ rest = cc in z ∙ ap (got c) f; flat = λ y. impossible (cc) }

    third : known r ≡ true → b + own r ≤ length ds → (c : Bool) → nests r ≡ c → Index p ds r b tree rest
    third y k true n = fourth (p (drop (b + own r) ds)) refl k n (rw (y, some_whole (own r) ds b k, n) at q)
    third y k false n =
        let w : got (plain (take (own r) (drop b ds)) none) (drop (b + own r) ds) ≡ got tree rest = rw (y, some_whole (own r) ds b k, n) at q in
        record { child = none; within = k; is = cc; nested = λ z. impossible (cc); flat = λ z. refl }

    second : known r ≡ true → (c : Bool) → ltb (length ds) (b + own r) ≡ c → Index p ds r b tree rest
    second y true z = never (rw (y, some_short (own r) ds b h (ltb-true (length ds) (b + own r) z)) at q)
    second y false z = third y (ltb-false (length ds) (b + own r) z) (nests r) refl

    first : (c : Bool) → known r ≡ c → Index p ds r b tree rest
    first true y = second y (ltb (length ds) (b + own r)) refl
    first false y = never (rw y at q)

-- where an index ends
index_end : (k r : ℕ) (ds : List ℕ) (b : ℕ) (x : Tree) (s : List ℕ) → b ≤ length ds → read_index (operand k) r (drop b ds) ≡ got x s → (s ≡ drop (b + length (dwords x)) ds) × (b + length (dwords x) ≤ length ds)
index_end k r ds b x s h q = go (read_index (operand k) r (drop b ds)) (makes_index k r (drop b ds)) q
  where
    go : (g : Got Tree) → Makes dwords (drop b ds) g → g ≡ got x s → (s ≡ drop (b + length (dwords x)) ds) × (b + length (dwords x) ≤ length ds)
    go malformed m w = never w
    go (got y u) (met p) w =
        let e : dwords x ++ s ≡ drop b ds = let ey : y ≡ x = cc in let eu : u ≡ s = cc in rw (ey, eu) at p in
        (left_at ds (dwords x) s b e, read_within ds (dwords x) s b e h)

-- an operand's three indices
pub record Node (k : ℕ) (ds : List ℕ) (t : ℕ) (e : List ℕ) (b : ℕ) (tree : Tree) : Type 0 where
  pub x₀ : Tree
  pub x₁ : Tree
  pub x₂ : Tree
  pub r₀ : List ℕ
  pub r₁ : List ℕ
  pub r₂ : List ℕ
  pub is : tree ≡ node t e [] x₀ x₁ x₂
  pub first : read_index (operand k) (repr 0 t) (drop b ds) ≡ got x₀ r₀
  pub second : read_index (operand k) (repr 1 t) (drop (b + length (dwords x₀)) ds) ≡ got x₁ r₁
  pub third : read_index (operand k) (repr 2 t) (drop (b + length (dwords x₀) + length (dwords x₁)) ds) ≡ got x₂ r₂
  pub within : b + length (dwords x₀) + length (dwords x₁) + length (dwords x₂) ≤ length ds

pub node_of : (k : ℕ) (ds : List ℕ) (t : ℕ) (e : List ℕ) (b : ℕ) (tree : Tree) (r : List ℕ) → b ≤ length ds → read_indices (operand k) t e (drop b ds) ≡ got tree r → Node k ds t e b tree
unfolding read_indices
node_of k ds t e b tree r h q = first (read_index (operand k) (repr 0 t) (drop b ds)) refl
  where
    third : (x y : Tree) (u v : List ℕ) → read_index (operand k) (repr 0 t) (drop b ds) ≡ got x u → read_index (operand k) (repr 1 t) u ≡ got y v → (g : Got Tree) → read_index (operand k) (repr 2 t) v ≡ g → Node k ds t e b tree
    third x y u v q₀ q₁ malformed q₂ = never (rw (q₀, q₁, q₂) at q)
    third x y u v q₀ q₁ (got z w) q₂ =
        let p : got (node t e [] x y z) w ≡ got tree r = rw (q₀, q₁, q₂) at q in
        let e₀ = index_end k (repr 0 t) ds b x u h q₀ in
        let f₁ : read_index (operand k) (repr 1 t) (drop (b + length (dwords x)) ds) ≡ got y v = ap (read_index (operand k) (repr 1 t)) (sym e₀.0) ∙ q₁ in
        let e₁ = index_end k (repr 1 t) ds (b + length (dwords x)) y v e₀.1 f₁ in
        let f₂ : read_index (operand k) (repr 2 t) (drop (b + length (dwords x) + length (dwords y)) ds) ≡ got z w = ap (read_index (operand k) (repr 2 t)) (sym e₁.0) ∙ q₂ in
        let e₂ = index_end k (repr 2 t) ds (b + length (dwords x) + length (dwords y)) z w e₁.1 f₂ in
        record { x₀ = x; x₁ = y; x₂ = z; r₀ = u; r₁ = v; r₂ = w; is = cc; first = q₀; second = f₁; third = f₂; within = e₂.1 }

    second : (x : Tree) (u : List ℕ) → read_index (operand k) (repr 0 t) (drop b ds) ≡ got x u → (g : Got Tree) → read_index (operand k) (repr 1 t) u ≡ g → Node k ds t e b tree
    second x u q₀ malformed q₁ = never (rw (q₀, q₁) at q)
    second x u q₀ (got y v) q₁ = third x y u v q₀ q₁ (read_index (operand k) (repr 2 t) v) refl

    first : (g : Got Tree) → read_index (operand k) (repr 0 t) (drop b ds) ≡ g → Node k ds t e b tree
    first malformed q₀ = never (rw q₀ at q)
    first (got x u) q₀ = second x u q₀ (read_index (operand k) (repr 1 t) u) refl

-- with an index, an operand that was read has no immediates
pub not_immediate : {left : ℕ} {ds : List ℕ} {at t b x : ℕ} → Entered left ds at t b x → {tree : Tree} {r : List ℕ} → operand left (drop at ds) ≡ got tree r → dimension t ≡ 1 → immediate t ≡ false
unfolding read_immediates
not_immediate {left} {ds} {at} {t} {b} o e d = go (immediate t) refl
  where
    go : (m : Bool) → immediate t ≡ m → m ≡ false
    go false q = refl
    go true q = let z : operand left (drop at ds) ≡ malformed = o.is ∙ rw (q, d) in never (sym z ∙ e)
