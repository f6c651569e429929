-- The row of an operand whose numbers are those of a dword: it is confirmed, with what stands right behind it.
use Prim.Native.Nat.{ℕ, zero, suc, ◌+◌, ◌-◌, ◌*◌, ◌/◌, ◌%◌, ◌^◌, ◌<◌, ◌≤◌}
use mathlib.Core.Path.{◌≡◌, refl, sym, ap, ◌∙◌}
use mathlib.Core.Bool.{Bool, true, false, cond, ◌&&◌, ◌||◌}
use mathlib.Core.List.{List, [], ◌∷◌}
use native.Mathlib.Omega.{arith}
use lib.ListN.{length, get_or, take, drop, length-drop}
use lib.Dec.{eqb, ltb}
use borrow.Author.Tests.{eqb-false, eq-eqb, ne_eqb, lt-ltb}
use Rattle.std.proofs.Common.{Some}
use Rattle.std.proofs.lemmas.List.{length-take}
use Rattle.std.specs.List.{slice_get}
use Rattle.format.specs.Dwords.{bits_from, bits}
use Rattle.format.specs.Operands as op
use Rattle.format.specs.Operands.{form, selection, type_of, dimension, reprs, repr, immediate, immediates, exact_dword, exact_extension, own, nests, known}
use Rattle.format.specs.Rows.{word_place, child_row, placed}
use Rattle.format.specs.Encoder.{at, extension_of, operand_dword, same}
use Rattle.format.proofs.Dwords.{impossible}
use Rattle.format.proofs.Encoder.{same_refl}
use Rattle.tokens.proofs.Fields.{chosen, counted, low}
use Rattle.operand_deep.specs.Confirm.{confirm_index, confirm, confirm_immediates, confirm_indices}
use Rattle.operand_deep.specs.Walks.{sized, walked, place, step_to, reached, there, row_at, guessed, front_for, back_for}
use Rattle.operand_deep.specs.declared.Place.{Place}
use Rattle.operand_deep.specs.declared.Guess.{Guess}
use Rattle.operand_deep.proofs.SameRows.{numbers_at, listed}
use Rattle.operand_deep.proofs.Walks.{alone, with_child, leaf_walks, tree_walks, again, by_guess}

-- ---- the fields of a dword, whose x is 1 with an extension
abbrev pub selections : ℕ → ℕ
selections f = get_or (1 ∷ 1 ∷ 16 ∷ 256 ∷ 4 ∷ []) f 0

form_of : (t a b : ℕ) → t % 2 ^ 2 ≡ a → bits 2 3 t ≡ b → form t ≡ cond (eqb a 1) 1 (cond (eqb a 2 && ltb b 3) (2 + b) 0)
unfolding form
form_of t a b ea eb = rw (ea, eb)

module _ (c s k d p x : ℕ) (hc : c < 16) where
  abbrev sum : ℕ
  sum = c + s * 2 ^ 4 + k * 2 ^ 12 + d * 2 ^ 20 + p * 2 ^ 22 + x * 2 ^ 31

  low_count : sum % 2 ^ 2 ≡ c % 4
  low_count = omega arith

  low_mode : bits 2 3 sum ≡ c / 4
  low_mode = let z : sum / 2 ^ 2 ≡ c / 4 + s * 4 + k * 1024 + d * 262_144 + p * 1_048_576 + x * 536_870_912 = omega arith in rw z (omega arith)

  above_low : sum / 2 ^ 4 ≡ s + k * 256 + d * 65_536 + p * 262_144 + x * 134_217_728
  above_low = omega arith

form_is : (f s k d p x : ℕ) → s < selections f → form (op.dword_with f s k d p x) ≡ f
form_is zero s k d p x h = form_of _ 0 0 (low_count 0 s k d p x (omega arith)) (low_mode 0 s k d p x (omega arith))
form_is (suc zero) s k d p x h = form_of _ 1 0 (low_count 1 s k d p x (omega arith)) (low_mode 1 s k d p x (omega arith))
form_is (suc (suc zero)) s k d p x h = form_of _ 2 0 (low_count 2 s k d p x (omega arith)) (low_mode 2 s k d p x (omega arith))
form_is (suc (suc (suc zero))) s k d p x h = form_of _ 2 1 (low_count 6 s k d p x (omega arith)) (low_mode 6 s k d p x (omega arith))
form_is (suc (suc (suc (suc zero)))) s k d p x h = form_of _ 2 2 (low_count 10 s k d p x (omega arith)) (low_mode 10 s k d p x (omega arith))
form_is (suc (suc (suc (suc (suc f))))) s k d p x h = impossible (omega arith)

selection_is : (f s k d p x : ℕ) → s < selections f → selection (op.dword_with f s k d p x) ≡ s
unfolding selection
selection_is f s k d p x h = rw (form_is f s k d p x h) (go f h)
  where
    go : (f : ℕ) → s < selections f → bits_from 4 (chosen f) (op.dword_with f s k d p x) ≡ s
    go zero h = rw (above_low 0 s k d p x (omega arith)) (omega arith)
    go (suc zero) h = rw (above_low 1 s k d p x (omega arith)) (omega arith)
    go (suc (suc zero)) h = rw (above_low 2 s k d p x (omega arith)) (omega arith)
    go (suc (suc (suc zero))) h = rw (above_low 6 s k d p x (omega arith)) (omega arith)
    go (suc (suc (suc (suc zero)))) h = rw (above_low 10 s k d p x (omega arith)) (omega arith)
    go (suc (suc (suc (suc (suc f))))) h = impossible (omega arith)

-- its lowest twelve bits are the form's and the selection's
low_below : (f s : ℕ) → s < selections f → low f + s * 2 ^ 4 < 2 ^ 12
low_below zero s h = omega arith
low_below (suc zero) s h = omega arith
low_below (suc (suc zero)) s h = omega arith
low_below (suc (suc (suc zero))) s h = omega arith
low_below (suc (suc (suc (suc zero)))) s h = omega arith
low_below (suc (suc (suc (suc (suc f))))) s h = impossible (omega arith)

module _ (l k d p x : ℕ) (hl : l < 2 ^ 12) (hk : k < 2 ^ 8) (hd : d < 4) (hp : p < 2 ^ 9) (hx : x < 2) where
  abbrev upper : ℕ
  upper = l + k * 2 ^ 12 + d * 2 ^ 20 + p * 2 ^ 22 + x * 2 ^ 31

  upper_type : upper / 2 ^ 12 % 2 ^ 8 ≡ k
  upper_type = let z : upper / 2 ^ 12 ≡ k + d * 256 + p * 1024 + x * 524_288 = omega arith in rw z (omega arith)

  upper_dimension : upper / 2 ^ 20 % 2 ^ 2 ≡ d
  upper_dimension = let z : upper / 2 ^ 20 ≡ d + p * 4 + x * 2048 = omega arith in rw z (omega arith)

  upper_reprs : upper / 2 ^ 22 ≡ p + x * 512
  upper_reprs = omega arith

  upper_high : (upper / 2 ^ 25 ≡ p / 8 + x * 64) × (upper / 2 ^ 28 ≡ p / 64 + x * 8) × (upper / 2 ^ 31 ≡ x)
  upper_high = (omega arith, omega arith, omega arith)

-- representations of so many indices
few_reprs : (p d : ℕ) → d < 4 → p < 2 ^ (3 * d) → p < 2 ^ 9
few_reprs p zero h l = omega arith
few_reprs p (suc zero) h l = omega arith
few_reprs p (suc (suc zero)) h l = omega arith
few_reprs p (suc (suc (suc zero))) h l = omega arith
few_reprs p (suc (suc (suc (suc d)))) h l = impossible (omega arith)

these_reprs : (p x d : ℕ) → d < 4 → p < 2 ^ (3 * d) → (p + x * 512) % 2 ^ (3 * d) ≡ p
these_reprs p x zero h l = omega arith
these_reprs p x (suc zero) h l = omega arith
these_reprs p x (suc (suc zero)) h l = omega arith
these_reprs p x (suc (suc (suc zero))) h l = omega arith
these_reprs p x (suc (suc (suc (suc d)))) h l = impossible (omega arith)

record Parts (t f s k d p : ℕ) : Type 0 where
  form_is : form t ≡ f
  selection_is : selection t ≡ s
  type_is : type_of t ≡ k
  dimension_is : dimension t ≡ d
  reprs_are : reprs t ≡ p
  repr_is : (i : ℕ) → i < 3 → repr i t ≡ cond (ltb i d) (p / 2 ^ (3 * i) % 2 ^ 3) 8
  exact_is : exact_dword t ≡ true

module _ (f s k d p x : ℕ) (hs : s < selections f) (hk : k < 2 ^ 8) (hd : d < 4) (hp : p < 2 ^ (3 * d)) (hx : x < 2) where
  abbrev t : ℕ
  t = op.dword_with f s k d p x

  hp₉ : p < 2 ^ 9
  hp₉ = few_reprs p d hd hp

  type_is : type_of t ≡ k
  type_is = upper_type _ k d p x (low_below f s hs) hk hd hp₉ hx

  dimension_is : dimension t ≡ d
  dimension_is = upper_dimension _ k d p x (low_below f s hs) hk hd hp₉ hx

  first_is : t / 2 ^ 22 ≡ p + x * 512
  first_is = upper_reprs _ k d p x (low_below f s hs) hk hd hp₉ hx

  high_is : (t / 2 ^ 25 ≡ p / 8 + x * 64) × (t / 2 ^ 28 ≡ p / 64 + x * 8) × (t / 2 ^ 31 ≡ x)
  high_is = upper_high _ k d p x (low_below f s hs) hk hd hp₉ hx

  reprs_are : reprs t ≡ p
  unfolding reprs
  reprs_are = rw (dimension_is, first_is) (these_reprs p x d hd hp)

  -- the representation of each index that there is
  repr_is : (i : ℕ) → i < 3 → repr i t ≡ cond (ltb i d) (p / 2 ^ (3 * i) % 2 ^ 3) 8
  unfolding repr
  repr_is zero h = let z : (p + x * 512) % 2 ^ 3 ≡ p / 2 ^ 0 % 2 ^ 3 = omega arith in rw (dimension_is, first_is, z)
  repr_is (suc zero) h = let z : (p / 8 + x * 64) % 2 ^ 3 ≡ p / 2 ^ 3 % 2 ^ 3 = omega arith in rw (dimension_is, high_is.0, z)
  repr_is (suc (suc zero)) h = let z : (p / 64 + x * 8) % 2 ^ 3 ≡ p / 2 ^ 6 % 2 ^ 3 = omega arith in rw (dimension_is, high_is.1, z)
  repr_is (suc (suc (suc i))) h = impossible (omega arith)

  exact_is : exact_dword t ≡ true
  unfolding exact_dword
  exact_is = let z : x % 2 ^ 1 ≡ x = omega arith in eq-eqb t _ (sym (rw (form_is f s k d p x hs, selection_is f s k d p x hs, type_is, dimension_is, reprs_are, high_is.2, z)))

  parts : Parts t f s k d p
  parts = record { form_is = form_is f s k d p x hs; selection_is = selection_is f s k d p x hs; type_is = type_is; dimension_is = dimension_is; reprs_are = reprs_are; repr_is = repr_is; exact_is = exact_is }

-- ---- the extension of signs, if there are any
record Signs (v : ℕ) : Type 0 where
  most : length (extension_of v) < 2
  exact : exact_extension (extension_of v) ≡ true
  again : op.modifiers (extension_of v) ≡ v

signs : (v : ℕ) → v < 4 → Signs v
unfolding extension_of exact_extension op.modifiers
signs zero h = record { most = omega arith; exact = refl; again = refl }
signs (suc zero) h = record { most = omega arith; exact = refl; again = refl }
signs (suc (suc zero)) h = record { most = omega arith; exact = refl; again = refl }
signs (suc (suc (suc zero))) h = record { most = omega arith; exact = refl; again = refl }
signs (suc (suc (suc (suc v)))) h = impossible (omega arith)

-- ---- types 4 and 5
kind_yes : (k : ℕ) → k / 2 ≡ 2 → (eqb k 4 || eqb k 5) ≡ true
kind_yes k h = go (eqb k 4) refl
  where
    go : (b : Bool) → eqb k 4 ≡ b → (b || eqb k 5) ≡ true
    go true e = refl
    go false e = let z = eqb-false k 4 e in eq-eqb k 5 (omega arith)

kind_no : (k : ℕ) → (k / 2 ≡ 2 → ⊥) → (eqb k 4 || eqb k 5) ≡ false
kind_no k h = rw (ne_eqb k 4 (λ z. h (omega arith)), ne_eqb k 5 (λ z. h (omega arith)))

-- ---- an index, and what a row has for it: its word place a and its child row c
pub record Index (k : ℕ) (rs ws : List ℕ) (i r w r₁ w₁ d a c : ℕ) : Type 0 where
  step : step_to r₁ w₁ d ≡ reached (place r w) (there (confirm_index (confirm k) i) rs ws r w)
  word : a ≡ word_place i w
  child : c ≡ child_row i r

module _ (k : ℕ) (rs ws : List ℕ) (r w : ℕ) where
  -- one dword; none, past the dimension
  pub plain_index : (b : Bool) → w + cond b 1 0 ≤ length ws → {a c : ℕ} → a ≡ placed b w → c ≡ 0 → Index k rs ws (cond b 0 8) r w r (w + cond b 1 0) (cond b 1 0) a c
  unfolding known own nests
  plain_index true l ea ec = record { step = alone (confirm k) 0 rs ws r w refl (omega arith) refl; word = ea; child = ec }
  plain_index false l ea ec = record { step = alone (confirm k) 8 rs ws r w refl (omega arith) refl; word = ea; child = ec }

  -- an operand, behind a dword or not
  pub operand_index : (o : ℕ) → o < 2 → w + o ≤ length ws → {n s d : ℕ} → sized n s d ≡ walked (there (confirm k) rs ws r (w + o)) → {a c : ℕ} → a ≡ placed (ltb 0 o) w → c ≡ r → Index k rs ws (2 + o) r w (r + n) (w + o + s) (o + d) a c
  unfolding known own nests
  operand_index zero h l e ea ec = record { step = with_child (confirm k) 2 rs ws r w refl (omega arith) refl e; word = ea; child = ec }
  operand_index (suc zero) h l e ea ec = record { step = with_child (confirm k) 3 rs ws r w refl (omega arith) refl e; word = ea; child = ec }
  operand_index (suc (suc o)) h l e ea ec = impossible (omega arith)

-- ---- a row whose numbers are those of a dword and an extension
pub record Told (q : List ℕ) : Type 0 where
  long : length q ≡ 16
  type : at 0 q < 2 ^ 8
  selection : at 2 q < selections (at 1 q)
  signs : at 3 q < 4
  dimension : at 6 q < 4
  reprs : at 7 q < 2 ^ (3 * at 6 q)

abbrev pub extras : List ℕ → ℕ
extras q = length (extension_of (at 3 q))

abbrev pub dword_of : List ℕ → ℕ
dword_of q = op.dword_with (at 1 q) (at 2 q) (at 0 q) (at 6 q) (at 7 q) (extras q)

pub told : (q : List ℕ) → length q ≡ 16 → at 0 q < 2 ^ 8 → at 2 q < selections (at 1 q) → at 3 q < 4 → {d p : ℕ} → (at 6 q ≡ d) × (at 7 q ≡ p) → d < 4 → p < 2 ^ (3 * d) → Told q
told q h k s v e l m = record { long = h; type = k; selection = s; signs = v; dimension = rw e.0 l; reprs = rw (e.0, e.1) m }

same_of : (x y : List ℕ) → x ≡ y → same x y ≡ true
same_of x y e = rw e (same_refl y)

module _ {q : List ℕ} (g : Told q) where
  abbrev its_guess : Guess
  its_guess = record { token = dword_of q; extension = slice_get (extension_of (at 3 q)) 0 }

  its : Parts (dword_of q) (at 1 q) (at 2 q) (at 0 q) (at 6 q) (at 7 q)
  its = parts (at 1 q) (at 2 q) (at 0 q) (at 6 q) (at 7 q) (extras q) g.selection g.type g.dimension g.reprs (signs (at 3 q) g.signs).most

  guess_is : Some its_guess ≡ guessed (operand_dword q) (extension_of (at 3 q))
  unfolding guessed operand_dword
  guess_is = rw (its.exact_is, (signs (at 3 q) g.signs).exact)

  pub repr_of : {d p : ℕ} → at 6 q ≡ d → at 7 q ≡ p → (i : ℕ) → i < 3 → cond (ltb i d) (p / 2 ^ (3 * i) % 2 ^ 3) 8 ≡ repr i (dword_of q)
  repr_of ed ep i h = sym (its.repr_is i h ∙ (λ j. cond (ltb i (ed j)) (ep j / 2 ^ (3 * i) % 2 ^ 3) 8))

  front_same : (i m : ℕ) → at 4 q ≡ placed (ltb 0 m) i → at 5 q ≡ m → same (take 8 q) (front_for (dword_of q) (op.modifiers (extension_of (at 3 q))) i m) ≡ true
  unfolding front_for numbers_at
  front_same i m e₄ e₅ =
      let e₀ = sym its.type_is in
      let e₁ = sym its.form_is in
      let e₂ = sym its.selection_is in
      let e₃ = sym (signs (at 3 q) g.signs).again in
      let e₆ = sym its.dimension_is in
      let e₇ = sym its.reprs_are in
      same_of _ _ (listed 8 0 q (omega (arith, g.long)) ∙ (λ j. e₀ j ∷ e₁ j ∷ e₂ j ∷ e₃ j ∷ e₄ j ∷ e₅ j ∷ e₆ j ∷ e₇ j ∷ []))

  back_same : (a b c : Place) (rows ds : ℕ) → at 8 q ≡ word_place (repr 0 (dword_of q)) a.word → at 9 q ≡ word_place (repr 1 (dword_of q)) b.word → at 10 q ≡ word_place (repr 2 (dword_of q)) c.word →
      at 11 q ≡ child_row (repr 0 (dword_of q)) a.row → at 12 q ≡ child_row (repr 1 (dword_of q)) b.row → at 13 q ≡ child_row (repr 2 (dword_of q)) c.row → at 14 q ≡ rows → at 15 q ≡ ds → same (take 8 (drop 8 q)) (back_for (dword_of q) a b c rows ds) ≡ true
  unfolding back_for numbers_at
  back_same a b c rows ds e₈ e₉ e₁₀ e₁₁ e₁₂ e₁₃ e₁₄ e₁₅ =
      same_of _ _ (listed 8 8 q (omega (arith, g.long)) ∙ (λ j. e₈ j ∷ e₉ j ∷ e₁₀ j ∷ e₁₁ j ∷ e₁₂ j ∷ e₁₃ j ∷ e₁₄ j ∷ e₁₅ j ∷ []))

module _ (rs : List ℕ) (r : ℕ) {q : List ℕ} (eq : q ≡ row_at r rs) (g : Told q) where
  pub row_there : 16 * r + 16 ≤ length rs
  row_there = omega (arith, g.long, ap length eq, length-take 16 (drop (16 * r) rs), length-drop (16 * r) rs)

  module _ (left : ℕ) (hl : left ≡ 0 → ⊥) (ws : List ℕ) (w : ℕ) where
    opened : there (confirm left) rs ws r w ≡ cond (immediate (dword_of q)) (confirm_immediates q (dword_of q) (extension_of (at 3 q)) (drop w ws) r w) (confirm_indices (confirm (left - 1)) q (dword_of q) (extension_of (at 3 q)) (drop (16 * (r + 1)) rs) (drop w ws) r w)
    opened = rw (again (at 3 q)) at (by_guess left rs ws r w hl (omega (arith, row_there)) eq {g = its_guess g} (guess_is g))

    -- with indices
    pub indices_walk : (at 0 q / 2 ≡ 2 → ⊥) → at 4 q ≡ 0 → at 5 q ≡ 0 → {i₀ i₁ i₂ : ℕ} → i₀ ≡ repr 0 (dword_of q) → i₁ ≡ repr 1 (dword_of q) → i₂ ≡ repr 2 (dword_of q) →
        {r₁ w₁ d₀ r₂ w₂ d₁ r₃ w₃ d₂ : ℕ} → Index (left - 1) rs ws i₀ (r + 1) w r₁ w₁ d₀ (at 8 q) (at 11 q) → Index (left - 1) rs ws i₁ r₁ w₁ r₂ w₂ d₁ (at 9 q) (at 12 q) → Index (left - 1) rs ws i₂ r₂ w₂ r₃ w₃ d₂ (at 10 q) (at 13 q) →
        at 14 q ≡ r₃ - r → at 15 q ≡ 1 + extras q + d₀ + d₁ + d₂ → sized (r₃ - r) (w₃ - w) (1 + extras q + d₀ + d₁ + d₂) ≡ walked (there (confirm left) rs ws r w)
    unfolding immediate
    indices_walk k e₄ e₅ f₀ f₁ f₂ {r₁} {w₁} {r₂ = r₂} {w₂ = w₂} a b c er ed =
        let z : immediate (dword_of q) ≡ false = rw ((its g).type_is, kind_no (at 0 q) k) in
        let u = front_same g w 0 e₄ e₅ in
        let v = back_same g (place (r + 1) w) (place r₁ w₁) (place r₂ w₂) _ _ (a.word ∙ (λ j. word_place (f₀ j) w)) (b.word ∙ (λ j. word_place (f₁ j) w₁)) (c.word ∙ (λ j. word_place (f₂ j) w₂)) (a.child ∙ (λ j. child_row (f₀ j) (r + 1))) (b.child ∙ (λ j. child_row (f₁ j) r₁)) (c.child ∙ (λ j. child_row (f₂ j) r₂)) er ed in
        rw (opened, z) (rw (u, v) at (tree_walks (left - 1) rs ws r w (dword_of q) row_there f₀ a.step f₁ b.step f₂ c.step q (extension_of (at 3 q)) g.long))

    -- with m immediates
    pub immediates_walk : at 0 q / 2 ≡ 2 → {m : ℕ} → m ≡ counted (at 1 q) → 0 < m → w + m ≤ length ws → at 4 q ≡ w → at 5 q ≡ m → (at 6 q ≡ 0) × (at 7 q ≡ 0) → (at 8 q ≡ 0) × (at 9 q ≡ 0) → (at 10 q ≡ 0) × (at 11 q ≡ 0) → (at 12 q ≡ 0) × (at 13 q ≡ 0) → at 14 q ≡ 1 → at 15 q ≡ 1 + extras q + m →
        sized 1 m (at 15 q) ≡ walked (there (confirm left) rs ws r w)
    unfolding immediate immediates own nests
    immediates_walk k {m} em hm l e₄ e₅ e₆ e₈ e₁₀ e₁₂ e₁₄ e₁₅ =
        let z : immediate (dword_of q) ≡ true = rw ((its g).type_is, kind_yes (at 0 q) k) in
        let c : immediates (dword_of q) ≡ m = ap counted (its g).form_is ∙ sym em in
        let p : true ≡ ltb 0 m = sym (lt-ltb 0 m hm) in
        let f₀ : 8 ≡ repr 0 (dword_of q) = repr_of g e₆.0 e₆.1 0 (omega arith) in
        let f₁ : 8 ≡ repr 1 (dword_of q) = repr_of g e₆.0 e₆.1 1 (omega arith) in
        let f₂ : 8 ≡ repr 2 (dword_of q) = repr_of g e₆.0 e₆.1 2 (omega arith) in
        let u = front_same g w m (e₄ ∙ (λ j. placed (p j) w)) e₅ in
        let end : Place = place (r + 1) (w + m) in
        let v = back_same g end end end _ _ (e₈.0 ∙ (λ j. word_place (f₀ j) (w + m))) (e₈.1 ∙ (λ j. word_place (f₁ j) (w + m))) (e₁₀.0 ∙ (λ j. word_place (f₂ j) (w + m))) (e₁₀.1 ∙ (λ j. child_row (f₀ j) (r + 1))) (e₁₂.0 ∙ (λ j. child_row (f₁ j) (r + 1))) (e₁₂.1 ∙ (λ j. child_row (f₂ j) (r + 1))) e₁₄ e₁₅ in
        ap (λ (j : ℕ). sized 1 m j) e₁₅ ∙ rw (opened, z) (rw (c, u, v) at (leaf_walks q ws r w (dword_of q) (extension_of (at 3 q)) g.long ((its g).dimension_is ∙ e₆.0) (rw c (omega arith))))
