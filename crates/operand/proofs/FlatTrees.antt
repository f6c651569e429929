-- Laws of an operand whose indices are one dword each.
use Prim.Native.Nat.{ℕ, zero, suc, ◌+◌, ◌-◌, ◌*◌, ◌<◌, ◌≤◌}
use mathlib.Core.Path.{◌≡◌, refl, sym, ◌∙◌, ap}
use mathlib.Core.Bool.{Bool, true, false, cond, ◌&&◌, and-true}
use mathlib.Core.List.{List, [], ◌∷◌}
use native.Mathlib.Omega.{arith}
use lib.ListN.{length, take, drop, length-append, length-drop}
use lib.Seq.{slice, length-slice, drop-drop}
use lib.Dec.{ltb}
use borrow.Author.Tests.{le-ltb, lt-ltb, ltb-true, ltb-false}
use Rattle.format.specs.Dwords.{bits_from, malformed, got, Reader, some}
use Rattle.format.specs.Operands.{Tree, none, plain, node, dimension, reprs, repr, own, nests, known, read_index, read_indices, dwords, exact, exact_dword, exact_extension}
use Rattle.format.specs.Rows.{tree_rows, tree_words}
use Rattle.format.proofs.Dwords.{impossible}
use Rattle.tokens.proofs.Places.{some_length}
use Rattle.std.specs.Prelude.{None}
use Rattle.operand.specs.Standing.{Stands}
use Rattle.operand.specs.Measures.{read, measured, Flat, AnyDepth}

-- the tree of a dword t with the extensions e and so many indices of one dword
abbrev pub flat_tree : ℕ → List ℕ → List ℕ → Tree
flat_tree t e ws = node t e [] (plain (take 1 ws) none) (plain (take 1 (drop 1 ws)) none) (plain (take 1 (drop 2 ws)) none)

pub flat_words : (t : ℕ) (e ws : List ℕ) → length ws ≤ 3 → tree_words (flat_tree t e ws) ≡ ws
unfolding tree_words
flat_words t e [] h = refl
flat_words t e (x ∷ []) h = refl
flat_words t e (x ∷ y ∷ []) h = refl
flat_words t e (x ∷ y ∷ z ∷ []) h = refl
flat_words t e (x ∷ y ∷ z ∷ u ∷ ws) h = impossible (omega arith)

pub flat_dwords : (t : ℕ) (e ws : List ℕ) → length ws ≤ 3 → length (dwords (flat_tree t e ws)) ≡ 1 + length e + length ws
unfolding dwords
flat_dwords t e [] h = simp length-append (omega arith)
flat_dwords t e (x ∷ []) h = simp length-append (omega arith)
flat_dwords t e (x ∷ y ∷ []) h = simp length-append (omega arith)
flat_dwords t e (x ∷ y ∷ z ∷ []) h = simp length-append (omega arith)
flat_dwords t e (x ∷ y ∷ z ∷ u ∷ ws) h = impossible (omega arith)

flat_exact : (t : ℕ) (e ws : List ℕ) → (exact_dword t && exact_extension e) ≡ exact (flat_tree t e ws)
unfolding exact
flat_exact t e ws = simp and-true

-- past the dimension the representation of an index is 8
pub past_dim : (i t : ℕ) → dimension t ≤ i → repr i t ≡ 8
unfolding repr
past_dim i t l = rw (le-ltb i (dimension t) l)

module _ (t : ℕ) (f : Flat t) where
  -- and within it 0
  pub in_dim : (i : ℕ) → i < 3 → i < dimension t → repr i t ≡ 0
  unfolding repr
  in_dim i h l = rw (lt-ltb i (dimension t) l) (go i h)
    where
      go : (i : ℕ) → i < 3 → bits_from (22 + 3 * i) 3 t ≡ 0
      go zero h = omega (arith, f)
      go (suc zero) h = omega (arith, f)
      go (suc (suc zero)) h = omega (arith, f)
      go (suc (suc (suc i))) h = impossible (omega arith)

  pub flat_reprs : reprs t ≡ 0
  unfolding reprs
  flat_reprs = go (dimension t) refl
    where
      go : (d : ℕ) → dimension t ≡ d → bits_from 22 (3 * d) t ≡ 0
      go zero q = omega arith
      go (suc zero) q = omega (arith, f)
      go (suc (suc zero)) q = omega (arith, f)
      go (suc (suc (suc zero))) q = omega (arith, f)
      go (suc (suc (suc (suc d)))) q = impossible (omega arith)

  -- its words are the next dwords, as many as the dimension says
  module _ (p : Reader Tree) (e : List ℕ) where
    three : (d : ℕ) → dimension t ≡ d → (l : List ℕ) → read_indices p t e l ≡ cond (ltb (length l) d) malformed (got (flat_tree t e (take d l)) (drop d l))
    unfolding read_indices read_index own nests known some
    three zero q l = rw (past_dim 0 t (omega arith), past_dim 1 t (omega arith), past_dim 2 t (omega arith), le-ltb (length l) 0 (omega arith))
    three (suc zero) q [] = rw (in_dim 0 (omega arith) (omega arith))
    three (suc zero) q (x ∷ l) = rw (in_dim 0 (omega arith) (omega arith), past_dim 1 t (omega arith), past_dim 2 t (omega arith), le-ltb (length (x ∷ l)) 1 (omega arith))
    three (suc (suc zero)) q [] = rw (in_dim 0 (omega arith) (omega arith))
    three (suc (suc zero)) q (x ∷ []) = rw (in_dim 0 (omega arith) (omega arith), in_dim 1 (omega arith) (omega arith))
    three (suc (suc zero)) q (x ∷ y ∷ l) = rw (in_dim 0 (omega arith) (omega arith), in_dim 1 (omega arith) (omega arith), past_dim 2 t (omega arith), le-ltb (length (x ∷ y ∷ l)) 2 (omega arith))
    three (suc (suc (suc zero))) q [] = rw (in_dim 0 (omega arith) (omega arith))
    three (suc (suc (suc zero))) q (x ∷ []) = rw (in_dim 0 (omega arith) (omega arith), in_dim 1 (omega arith) (omega arith))
    three (suc (suc (suc zero))) q (x ∷ y ∷ []) = rw (in_dim 0 (omega arith) (omega arith), in_dim 1 (omega arith) (omega arith), in_dim 2 (omega arith) (omega arith))
    three (suc (suc (suc zero))) q (x ∷ y ∷ z ∷ l) = rw (in_dim 0 (omega arith) (omega arith), in_dim 1 (omega arith) (omega arith), in_dim 2 (omega arith) (omega arith), le-ltb (length (x ∷ y ∷ z ∷ l)) 3 (omega arith))
    three (suc (suc (suc (suc d)))) q l = impossible (omega arith)

    at_place : (ds : List ℕ) (b : ℕ) → read_indices p t e (drop b ds) ≡ cond (ltb (length ds - b) (dimension t)) malformed (got (flat_tree t e (take (dimension t) (drop b ds))) (drop (b + dimension t) ds))
    at_place ds b = rw (← length-drop b ds, ← drop-drop (dimension t) b ds) (three (dimension t) refl (drop b ds))

    module _ (ds : List ℕ) (b : ℕ) where
      pub flat_short : length ds - b < dimension t → read_indices p t e (drop b ds) ≡ malformed
      flat_short h = at_place ds b ∙ rw (lt-ltb (length ds - b) (dimension t) h)

      pub flat_read : dimension t ≤ length ds - b → read_indices p t e (drop b ds) ≡ got (flat_tree t e (take (dimension t) (drop b ds))) (drop (b + dimension t) ds)
      flat_read h = at_place ds b ∙ rw (le-ltb (length ds - b) (dimension t) h)

-- the code's answers
module _ {ds : List ℕ} {at t b : ℕ} {x : Bool} (s : Stands ds at t b x) (f : Flat t) (d : ℕ) (ed : d ≡ dimension t) (n : ℕ) (en : n ≡ length ds) where
  pub measured_short : n - b < d → AnyDepth None t (slice (at + 1) b ds) (drop b ds)
  measured_short h p = sym (ap measured (flat_short t f p (slice (at + 1) b ds) ds b (omega arith)))

  pub measured_flat : d ≤ n - b → AnyDepth (read 1 d (b - at + d) x) t (slice (at + 1) b ds) (drop b ds)
  unfolding tree_rows
  measured_flat h p =
      let e : List ℕ = slice (at + 1) b ds in
      let ws : List ℕ = take (dimension t) (drop b ds) in
      let le : length e ≡ b - (at + 1) = length-slice (at + 1) b ds s.within in
      let lw : length ws ≡ dimension t = some_length (dimension t) ds b (omega (arith, s.within)) in
      let k : length ws ≤ 3 = omega arith in
      let w : d ≡ length (tree_words (flat_tree t e ws)) = ed ∙ sym lw ∙ sym (ap length (flat_words t e ws k)) in
      let n : b - at + d ≡ length (dwords (flat_tree t e ws)) = omega (arith, flat_dwords t e ws k, s.from) in
      (λ i. read 1 (w i) (n i) ((s.good ∙ flat_exact t e ws) i)) ∙ sym (ap measured (flat_read t f p e ds b (omega arith)))

  pub flat_words_measured : AnyDepth (cond (ltb (n - b) d) None (read 1 d (b - at + d) x)) t (slice (at + 1) b ds) (drop b ds)
  flat_words_measured = go (ltb (n - b) d) refl
    where
      go : (c : Bool) → ltb (n - b) d ≡ c → AnyDepth (cond c None (read 1 d (b - at + d) x)) t (slice (at + 1) b ds) (drop b ds)
      go true q = measured_short (ltb-true (n - b) d q)
      go false q = measured_flat (ltb-false (n - b) d q)
