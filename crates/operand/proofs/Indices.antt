-- Laws of an operand's indices.
use Prim.Native.Nat.{ℕ, zero, suc, ◌+◌, ◌-◌, ◌<◌, ◌≤◌}
use mathlib.Core.Path.{◌≡◌, refl, sym, ◌∙◌, ap}
use mathlib.Core.Bool.{Bool, true, false, ◌&&◌, and-true, and_assoc}
use mathlib.Core.List.{List, [], ◌∷◌, ◌++◌, append-nil, append_assoc}
use native.Mathlib.Omega.{arith}
use lib.ListN.{length, take, drop, length-append}
use lib.Seq.{slice, length-slice}
use borrow.Author.Tests.{le-ltb}
use Rattle.format.specs.Dwords.{Got, malformed, got, Reader, then, ◌>>=◌, give, some}
use Rattle.format.specs.Operands.{Tree, none, plain, node, dimension, repr, own, nests, known, read_index, read_indices, operand, dwords, exact, exact_dword, exact_extension, parts_dwords, exact_parts}
use Rattle.format.specs.Rows.{tree_rows, tree_words, parts_rows, parts_words}
use Rattle.format.proofs.Dwords.{unmet, met, all_then, all_if, Makes, some_length}
use Rattle.format.proofs.Operands.{makes_operand}
use Rattle.tokens.proofs.Places as places
use Rattle.std.specs.Prelude.{Option, Some, None}
use Rattle.operand.specs.Standing.{Stands}
use Rattle.operand.specs.Measures.{read, measured}
use Rattle.operand.specs.declared.Measured.{Measured}
use Rattle.operand.proofs.Seen.{Seen, seen, lost}

pub makes_index : (k r : ℕ) (ds : List ℕ) → Makes dwords ds (read_index (operand k) r ds)
unfolding read_index dwords
makes_index k r ds = all_if (known r) _ _ ds
    (λ h. all_then (some_length (own r) ds) (λ x ds₁ e₁.
    all_then (all_if (nests r) (operand k) _ ds₁ (λ n. makes_operand k ds₁) (λ n. met refl)) (λ c ds₂ e₂.
    met (rw (append_assoc, e₂, e₁.0)))))
    (λ h. unmet)

-- the answer of an index with so many dwords of its own
abbrev pub behind : ℕ → Option Measured → Option Measured
behind o None = None
behind o (Some m) = read m.rows (o + m.words) (o + m.dwords) m.exact

behind_plain : (o : List ℕ) (g : Got Tree) → measured (then g (λ c. give (plain o c))) ≡ behind (length o) (measured g)
unfolding tree_rows tree_words dwords exact
behind_plain o malformed = refl
behind_plain o (got c r) = λ i. read (tree_rows c) (length-append o (tree_words c) i) (length-append o (dwords c) i) (exact c)

module _ (p : Reader Tree) (ds : List ℕ) (r at : ℕ) (b : Bool) (eb : b ≡ known r) where
  pub unknown : b ≡ false → None ≡ measured (read_index p r (drop at ds))
  unfolding read_index
  unknown h = rw (sym eb ∙ h)

  module _ (hb : b ≡ true) (o : ℕ) (eo : o ≡ own r) (n : ℕ) (en : n ≡ length ds) (h : at ≤ n) where
    pub short : n - at < o → None ≡ measured (read_index p r (drop at ds))
    unfolding read_index
    short l = rw (sym eb ∙ hb, ← eo, places.some_short o ds at (omega arith) (omega arith))

    module _ (l : o ≤ n - at) (m : Bool) (em : m ≡ nests r) where
      pub inner : m ≡ true → behind o (measured (p (drop (at + o) ds))) ≡ measured (read_index p r (drop at ds))
      unfolding read_index
      inner e =
          ap (λ (k : ℕ). behind k (measured (p (drop (at + o) ds)))) (sym (places.some_length o ds at (omega arith)))
          ∙ sym (behind_plain (take o (drop at ds)) (p (drop (at + o) ds)))
          ∙ sym (rw (sym eb ∙ hb, ← eo, places.some_whole o ds at (omega arith), sym em ∙ e))

      pub outer : m ≡ false → read 0 o o true ≡ measured (read_index p r (drop at ds))
      unfolding read_index tree_rows tree_words dwords exact
      outer e =
          let q : o ≡ length (take o (drop at ds) ++ []) = sym (simp append-nil (places.some_length o ds at (omega arith))) in
          (λ i. read 0 (q i) (q i) true) ∙ sym (rw (sym eb ∙ hb, ← eo, places.some_whole o ds at (omega arith), sym em ∙ e))

-- the last j of an operand's three indices
unfoldable pub rest : Reader Tree → ℕ → ℕ → Reader (List Tree)
rest p t zero = give []
rest p t (suc j) = do
  x ← read_index p (repr (2 - j) t)
  l ← rest p t j
  give (x ∷ l)

-- the answer, with r rows, w words and d dwords before these
abbrev pub added : ℕ → ℕ → ℕ → Bool → Got (List Tree) → Option Measured
added r w d x malformed = None
added r w d x (got l s) = read (r + parts_rows l) (w + length (parts_words l)) (d + length (parts_dwords l)) (x && exact_parts l)

-- one more
more : (r w d : ℕ) (x : Bool) (t : Tree) (g : Got (List Tree)) → added r w d x (then g (λ l. give (t ∷ l))) ≡ added (r + tree_rows t) (w + length (tree_words t)) (d + length (dwords t)) (x && exact t) g
unfolding parts_rows parts_words parts_dwords exact_parts
more r w d x t malformed = refl
more r w d x t (got l s) =
    let er : r + (tree_rows t + parts_rows l) ≡ r + tree_rows t + parts_rows l = omega arith in
    let ew : w + length (tree_words t ++ parts_words l) ≡ w + length (tree_words t) + length (parts_words l) = omega (arith, length-append (tree_words t) (parts_words l)) in
    let ed : d + length (dwords t ++ parts_dwords l) ≡ d + length (dwords t) + length (parts_dwords l) = omega (arith, length-append (dwords t) (parts_dwords l)) in
    λ i. read (er i) (ew i) (ed i) (sym (and_assoc x (exact t) (exact_parts l)) i)

-- the three are the operand's
three : (p : Reader Tree) (t : ℕ) (e ds : List ℕ) → measured (read_indices p t e ds) ≡ added 1 0 (1 + length e) (exact_dword t && exact_extension e) (rest p t 3 ds)
unfolding read_indices rest tree_rows tree_words dwords exact parts_rows parts_words parts_dwords exact_parts
three p t e ds = first (read_index p (repr 0 t) ds) refl
  where
    whole : (a b c : Tree) (r : List ℕ) → measured (got (node t e [] a b c) r) ≡ added 1 0 (1 + length e) (exact_dword t && exact_extension e) (got (a ∷ b ∷ c ∷ []) r)
    whole a b c r =
        let er : 1 + tree_rows a + tree_rows b + tree_rows c ≡ 1 + (tree_rows a + (tree_rows b + (tree_rows c + 0))) = omega arith in
        let ew : length ([] ++ tree_words a ++ tree_words b ++ tree_words c) ≡ 0 + length (tree_words a ++ (tree_words b ++ (tree_words c ++ []))) = simp length-append (omega arith) in
        let ed : length (t ∷ e ++ [] ++ dwords a ++ dwords b ++ dwords c) ≡ 1 + length e + length (dwords a ++ (dwords b ++ (dwords c ++ []))) = simp length-append (omega arith) in
        let ex : (exact_dword t && exact_extension e && exact a && exact b && exact c) ≡ ((exact_dword t && exact_extension e) && (exact a && (exact b && (exact c && true)))) = simp (and_assoc, and-true) in
        λ i. read (er i) (ew i) (ed i) (ex i)

    third : (a b : Tree) (r s : List ℕ) → read_index p (repr 0 t) ds ≡ got a r → read_index p (repr 1 t) r ≡ got b s → (g : Got Tree) → read_index p (repr 2 t) s ≡ g → measured (read_indices p t e ds) ≡ added 1 0 (1 + length e) (exact_dword t && exact_extension e) (rest p t 3 ds)
    third a b r s q₀ q₁ malformed q₂ = rw (q₀, q₁, q₂)
    third a b r s q₀ q₁ (got c u) q₂ = rw (q₀, q₁, q₂) (whole a b c u)

    second : (a : Tree) (r : List ℕ) → read_index p (repr 0 t) ds ≡ got a r → (g : Got Tree) → read_index p (repr 1 t) r ≡ g → measured (read_indices p t e ds) ≡ added 1 0 (1 + length e) (exact_dword t && exact_extension e) (rest p t 3 ds)
    second a r q₀ malformed q₁ = rw (q₀, q₁)
    second a r q₀ (got b s) q₁ = third a b r s q₀ q₁ (read_index p (repr 2 t) s) refl

    first : (g : Got Tree) → read_index p (repr 0 t) ds ≡ g → measured (read_indices p t e ds) ≡ added 1 0 (1 + length e) (exact_dword t && exact_extension e) (rest p t 3 ds)
    first malformed q₀ = rw q₀
    first (got a r) q₀ = second a r q₀ (read_index p (repr 1 t) r) refl

-- an index past the dimension is nothing
nothing : (p : Reader Tree) (i t : ℕ) (ds : List ℕ) → dimension t ≤ i → read_index p (repr i t) ds ≡ got (plain [] none) ds
unfolding read_index repr known own nests some
nothing p i t ds h = rw (le-ltb i (dimension t) h)

end : (p : Reader Tree) (t j : ℕ) (ds : List ℕ) → dimension t + j ≤ 3 → (r w d : ℕ) (x : Bool) → read r w d x ≡ added r w d x (rest p t j ds)
unfolding rest parts_rows parts_words parts_dwords exact_parts tree_rows tree_words dwords exact
end p t zero ds h r w d x =
    let er : r ≡ r + 0 = omega arith in
    let ew : w ≡ w + 0 = omega arith in
    let ed : d ≡ d + 0 = omega arith in
    λ i. read (er i) (ew i) (ed i) (sym (and-true x) i)
end p t (suc j) ds h r w d x =
    let er : r ≡ r + 0 = omega arith in
    let ew : w ≡ w + 0 = omega arith in
    let ed : d ≡ d + 0 = omega arith in
    (λ i. read (er i) (ew i) (ed i) (sym (and-true x) i))
    ∙ end p t j ds (omega arith) (r + 0) (w + 0) (d + 0) (x && true)
    ∙ sym (more r w d x (plain [] none) (rest p t j ds))
    ∙ sym (rw (nothing p (2 - j) t ds (omega arith)))

-- what holds at the loop's head: with what is counted, the indices from here on give the whole answer
pub record Going (m : Option Measured) (left : ℕ) (ds : List ℕ) (at t dim : ℕ) (r w b : ℕ) (x : Bool) (i : ℕ) : Type 0 where
  pub dims : dim ≡ dimension t
  pub index : i ≤ 3
  pub before : at < b
  pub within : b ≤ length ds
  pub fewer : r + w ≤ b - at
  pub same : m ≡ added r w (b - at) x (rest (operand (left - 1)) t (3 - i) (drop b ds))

pub goes : (left : ℕ) {ds : List ℕ} {at t b : ℕ} {x : Bool} → Stands ds at t b x → (d : ℕ) → d ≡ dimension t → Going (measured (read_indices (operand (left - 1)) t (slice (at + 1) b ds) (drop b ds))) left ds at t d 1 0 b x 0
goes left {ds} {at} {t} {b} {x} s d ed =
    let le : length (slice (at + 1) b ds) ≡ b - (at + 1) = length-slice (at + 1) b ds s.within in
    let q : 1 + length (slice (at + 1) b ds) ≡ b - at = omega (arith, s.from) in
    record {
      dims = ed;
      index = omega arith;
      before = s.from;
      within = s.within;
      fewer = omega (arith, s.from);
      same = three (operand (left - 1)) t (slice (at + 1) b ds) (drop b ds) ∙ (λ i. added 1 0 (q i) (sym s.good i) (rest (operand (left - 1)) t 3 (drop b ds)));
    }

module _ {m : Option Measured} {left : ℕ} {ds : List ℕ} {at t dim r w b : ℕ} {x : Bool} {i : ℕ} (g : Going m left ds at t dim r w b x i) where
  -- the index to read next
  step : i < dim → rest (operand (left - 1)) t (3 - i) (drop b ds) ≡ then (read_index (operand (left - 1)) (repr i t) (drop b ds)) (λ y s. then (rest (operand (left - 1)) t (2 - i) s) (λ l. give (y ∷ l)))
  unfolding rest
  step h =
      let e : 3 - i ≡ suc (2 - i) = omega (arith, g.dims) in
      let f : 2 - (2 - i) ≡ i = omega (arith, g.dims) in
      rw (e, f)

  pub next_lost : i < dim → (k : ℕ) → k ≡ repr i t → None ≡ measured (read_index (operand (left - 1)) k (drop b ds)) → None ≡ m
  next_lost h k ek e =
      let q : read_index (operand (left - 1)) (repr i t) (drop b ds) ≡ malformed = rw (← ek) (lost (read_index (operand (left - 1)) k (drop b ds)) e) in
      let z : rest (operand (left - 1)) t (3 - i) (drop b ds) ≡ malformed = step h ∙ rw q in
      sym (g.same ∙ ap (added r w (b - at) x) z)

  pub index_seen : (k : ℕ) (n : Measured) → Some n ≡ measured (read_index (operand (left - 1)) k (drop b ds)) → Seen (read_index (operand (left - 1)) k (drop b ds)) ds b n.rows n.words n.dwords n.exact
  index_seen k n e = seen (read_index (operand (left - 1)) k (drop b ds)) ds b (makes_index (left - 1) k (drop b ds)) g.within n e

  pub goes_on : i < dim → (k : ℕ) → k ≡ repr i t → (n : Measured) → Some n ≡ measured (read_index (operand (left - 1)) k (drop b ds)) → (y : Bool) → y ≡ (x && n.exact)
      → Going m left ds at t dim (r + n.rows) (w + n.words) (b + n.dwords) y (i + 1)
  goes_on h k ek n e y ey =
      let s = index_seen k n e in
      let q : read_index (operand (left - 1)) (repr i t) (drop b ds) ≡ got s.tree (drop (b + n.dwords) ds) = rw (← ek) s.is in
      let er : r + tree_rows s.tree ≡ r + n.rows = omega (arith, s.rows_are) in
      let ew : w + length (tree_words s.tree) ≡ w + n.words = omega (arith, s.words_are) in
      let ed : b - at + length (dwords s.tree) ≡ b + n.dwords - at = omega (arith, s.dwords_are, g.before) in
      let ex : (x && exact s.tree) ≡ y = ap (λ (z : Bool). x && z) s.exact_is ∙ sym ey in
      let ei : 2 - i ≡ 3 - (i + 1) = omega arith in
      let z : rest (operand (left - 1)) t (3 - i) (drop b ds) ≡ then (rest (operand (left - 1)) t (2 - i) (drop (b + n.dwords) ds)) (λ l. give (s.tree ∷ l)) = step h ∙ rw q in
      record {
        dims = g.dims;
        index = omega (arith, g.dims);
        before = omega (arith, g.before);
        within = s.within;
        fewer = omega (arith, s.fewer, g.fewer, g.before);
        same =
            g.same ∙ ap (added r w (b - at) x) z
            ∙ more r w (b - at) x s.tree (rest (operand (left - 1)) t (2 - i) (drop (b + n.dwords) ds))
            ∙ (λ z. added (er z) (ew z) (ed z) (ex z) (rest (operand (left - 1)) t (ei z) (drop (b + n.dwords) ds)));
      }

  pub ended : dim ≤ i → read r w (b - at) x ≡ m
  ended h = end (operand (left - 1)) t (3 - i) (drop b ds) (omega (arith, g.dims, g.index)) r w (b - at) x ∙ sym g.same
