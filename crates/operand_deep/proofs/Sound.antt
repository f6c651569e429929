-- What is confirmed stands in front, is exact, and is read from its dwords, whatever follows them.
use Prim.Native.Nat.{ℕ, zero, suc, ◌+◌, ◌*◌, ◌≤◌}
use mathlib.Core.Path.{◌≡◌, refl, sym, ap, subst}
use mathlib.Core.Bool.{Bool, true, false, cond, ◌&&◌}
use mathlib.Core.List.{List, [], ◌++◌, append_assoc}
use mathlib.Core.Option.{some as just}
use native.Mathlib.Nat.{add-zero}
use native.Mathlib.Omega.{arith}
use lib.ListN.{length, take, drop, length-append}
use lib.Seq.{length-take-le}
use lib.Dec.{leb, eqb}
use borrow.Author.Tests.{leb-true}
use Rattle.format.specs.Dwords.{got, Reader, give, dword}
use Rattle.format.specs.Operands as op
use Rattle.format.specs.Operands.{Tree, none, plain, node, immediate, immediates, dimension, repr, own, nests, known, read_index, read_immediates, read_indices, operand, dwords}
use Rattle.format.specs.Rows.{tree_words, tree_rows, operand_row, tree_table}
use Rattle.format.specs.Encoder.{at, extension_of, operand_dword, same}
use Rattle.format.proofs.Dwords.{both}
use Rattle.format.proofs.Rows.{four_lengths}
use Rattle.format.proofs.Encoder.{same_eq}
use Rattle.operand_deep.specs.Confirm.{Confirmer, confirm_index, confirmed, confirm_immediates, confirm_indices, confirm_front, confirm}
use Rattle.operand_deep.proofs.Every.{Every, unmet, met, every_then, every_if, every_of}
use Rattle.operand_deep.proofs.Lists.{InFront, front_cut, front_more, front_four, some_of}
use Rattle.operand_deep.proofs.Guesses.{guessed_length, chain_of_lem}

-- a tree's rows and words stand in front; it is exact, and a reader reads it from its dwords
pub record Held (read : Reader Tree) (rs ws : List ℕ) (r w : ℕ) (x : Tree) : Type 0 where
  pub rows : InFront (tree_table r w x) (16 * tree_rows x) rs
  pub words : InFront (tree_words x) (length (tree_words x)) ws
  pub exact : op.exact x ≡ true
  pub reads : (l : List ℕ) → read (dwords x ++ l) ≡ got x l

held_at : {read : Reader Tree} {rs ws : List ℕ} {r w v : ℕ} {x : Tree} → w ≡ v → Held read rs ws r w x → Held read rs ws r v x
held_at {read = read} {rs = rs} {ws = ws} {r = r} {x = x} e h = subst (λ (j : ℕ). Held read rs ws r j x) e h

held_none : (rs ws : List ℕ) (r w : ℕ) → Held (give none) rs ws r w none
unfolding tree_table tree_rows tree_words op.exact dwords
held_none rs ws r w = record { rows = refl; words = refl; exact = refl; reads = λ l. refl }

-- ---- an index
module _ (p : Confirmer) (read : Reader Tree) (hp : (rs ws : List ℕ) (r w : ℕ) → Every (Held read rs ws r w) (p rs ws r w)) where
  sound_child : (b : Bool) (rs ws : List ℕ) (r w : ℕ) → Every (Held (cond b read (give none)) rs ws r w) (cond b (p rs ws r w) (just none))
  sound_child true rs ws r w = hp rs ws r w
  sound_child false rs ws r w = met (held_none rs ws r w)

  held_plain : (i : ℕ) (rs ws : List ℕ) (r w : ℕ) (c : Tree) → known i ≡ true → own i ≤ length ws → Held (cond (nests i) read (give none)) rs (drop (own i) ws) r (w + own i) c →
      Held (read_index read i) rs ws r w (plain (take (own i) ws) c)
  unfolding tree_table tree_rows tree_words op.exact dwords read_index
  held_plain i rs ws r w c hk hw h =
      let x : List ℕ = take (own i) ws in
      let n : length x ≡ own i = length-take-le (own i) ws hw in
      record {
        rows = subst (λ (j : ℕ). InFront (tree_table r (w + j) c) (16 * tree_rows c) rs) (sym n) h.rows;
        words = front_more x (tree_words c) (own i) (length (tree_words c)) (length (x ++ tree_words c)) ws (omega (arith, length-append x (tree_words c))) (front_cut (own i) ws) h.words;
        exact = h.exact;
        reads = λ l. rw (hk, append_assoc x (dwords c) l, some_of x (dwords c ++ l) (own i) n, h.reads l);
      }

  pub sound_index : (i : ℕ) (rs ws : List ℕ) (r w : ℕ) → Every (Held (read_index read i) rs ws r w) (confirm_index p i rs ws r w)
  unfolding confirm_index
  sound_index i rs ws r w = every_if (known i && leb (own i) (length ws)) _ _
      (λ z. let b = both (known i) (leb (own i) (length ws)) z in
      every_then (sound_child (nests i) rs (drop (own i) ws) r (w + own i)) (λ c h. met (held_plain i rs ws r w c b.0 (leb-true (own i) (length ws) b.1) h)))
      (λ z. unmet)

-- ---- an operand, whose front was guessed from its row q
record Guessed (q : List ℕ) (t : ℕ) (e : List ℕ) : Type 0 where
  dword_is : operand_dword q ≡ t
  extension_is : extension_of (at 3 q) ≡ e
  exact_dword_lem : op.exact_dword t ≡ true
  exact_extension_lem : op.exact_extension e ≡ true

exact_of : (a b c d f : Bool) → a ≡ true → b ≡ true → c ≡ true → d ≡ true → f ≡ true → (a && b && c && d && f) ≡ true
exact_of a b c d f ea eb ec ed ef = rw (ea, eb, ec, ed, ef)

flat : (e m a b c l : List ℕ) → (e ++ m ++ a ++ b ++ c) ++ l ≡ e ++ (m ++ (a ++ (b ++ (c ++ l))))
flat e m a b c l = simp append_assoc

module _ (k : ℕ) (q rs ws : List ℕ) (r w t : ℕ) (e : List ℕ) (f : InFront q 16 rs) (g : Guessed q t e) where
  held_node : (m : List ℕ) (a b c : Tree) (ra rb rc : Reader Tree) → q ≡ operand_row r w t e m a b c → InFront m (length m) ws →
      Held ra (drop 16 rs) (drop (length m) ws) (r + 1) (w + length m) a →
      Held rb (drop (16 * tree_rows a) (drop 16 rs)) (drop (length (tree_words a)) (drop (length m) ws)) (r + 1 + tree_rows a) (w + length m + length (tree_words a)) b →
      Held rc (drop (16 * tree_rows b) (drop (16 * tree_rows a) (drop 16 rs))) (drop (length (tree_words b)) (drop (length (tree_words a)) (drop (length m) ws))) (r + 1 + tree_rows a + tree_rows b) (w + length m + length (tree_words a) + length (tree_words b)) c →
      ((l : List ℕ) → cond (immediate t) (read_immediates t e) (read_indices (operand k) t e) (m ++ (dwords a ++ (dwords b ++ (dwords c ++ l)))) ≡ got (node t e m a b c) l) →
      Held (operand (suc k)) rs ws r w (node t e m a b c)
  unfolding tree_table tree_rows tree_words op.exact dwords operand dword
  held_node m a b c ra rb rc s fm ha hb hc rest =
      record {
        rows = front_four (operand_row r w t e m a b c) _ _ _ 16 (16 * tree_rows a) (16 * tree_rows b) (16 * tree_rows c) (16 * (1 + tree_rows a + tree_rows b + tree_rows c)) rs (omega arith) (subst (λ (x : List ℕ). InFront x 16 rs) s f) ha.rows hb.rows hc.rows;
        words = front_four m (tree_words a) (tree_words b) (tree_words c) (length m) (length (tree_words a)) (length (tree_words b)) (length (tree_words c)) _ ws (sym (four_lengths m (tree_words a) (tree_words b) (tree_words c))) fm ha.words hb.words hc.words;
        exact = exact_of _ _ _ _ _ g.exact_dword_lem g.exact_extension_lem ha.exact hb.exact hc.exact;
        reads = λ l.
            rw (flat e m (dwords a) (dwords b) (dwords c) l, chain_of_lem t e (m ++ (dwords a ++ (dwords b ++ (dwords c ++ l)))) g.exact_extension_lem (guessed_length q r w t e m a b c g.dword_is g.extension_is g.exact_dword_lem s))
            (rest l);
      }

  leaf : immediate t ≡ true → eqb (dimension t) 0 ≡ true → immediates t ≤ length ws → q ≡ operand_row r w t e (take (immediates t) ws) none none none → Held (operand (suc k)) rs ws r w (node t e (take (immediates t) ws) none none none)
  unfolding read_immediates dwords tree_rows tree_words
  leaf i z h s =
      let m : List ℕ = take (immediates t) ws in
      let n : length m ≡ immediates t = length-take-le (immediates t) ws h in
      held_node m none none none (give none) (give none) (give none) s (subst (λ (j : ℕ). InFront m j ws) (sym n) (front_cut (immediates t) ws))
      (held_none _ _ _ _) (held_none _ _ _ _) (held_none _ _ _ _) (λ l. rw (i, z, some_of m l (immediates t) n))

  sound_immediates : immediate t ≡ true → Every (Held (operand (suc k)) rs ws r w) (confirm_immediates q t e ws r w)
  unfolding confirm_immediates confirmed
  sound_immediates i = every_if (eqb (dimension t) 0 && leb (immediates t) (length ws)) _ _
      (λ z. let b = both (eqb (dimension t) 0) (leb (immediates t) (length ws)) z in
      every_if (same q _) _ _ (λ s. met (leaf i b.0 (leb-true (immediates t) (length ws) b.1) (same_eq q _ s))) (λ s. unmet))
      (λ z. unmet)

  tree : immediate t ≡ false → (a b c : Tree) → q ≡ operand_row r w t e [] a b c →
      Held (read_index (operand k) (repr 0 t)) (drop 16 rs) ws (r + 1) w a →
      Held (read_index (operand k) (repr 1 t)) (drop (16 * tree_rows a) (drop 16 rs)) (drop (length (tree_words a)) ws) (r + 1 + tree_rows a) (w + length (tree_words a)) b →
      Held (read_index (operand k) (repr 2 t)) (drop (16 * tree_rows b) (drop (16 * tree_rows a) (drop 16 rs))) (drop (length (tree_words b)) (drop (length (tree_words a)) ws)) (r + 1 + tree_rows a + tree_rows b) (w + length (tree_words a) + length (tree_words b)) c →
      Held (operand (suc k)) rs ws r w (node t e [] a b c)
  unfolding read_indices
  tree i a b c s ha hb hc =
      let z : w ≡ w + 0 = sym (add-zero w) in
      held_node [] a b c _ _ _ s refl (held_at z ha) (held_at (ap (λ (j : ℕ). j + length (tree_words a)) z) hb) (held_at (ap (λ (j : ℕ). j + length (tree_words a) + length (tree_words b)) z) hc)
      (λ l. rw (i, ha.reads (dwords b ++ (dwords c ++ l)), hb.reads (dwords c ++ l), hc.reads l))

  sound_indices : immediate t ≡ false → ((rs ws : List ℕ) (r w : ℕ) → Every (Held (operand k) rs ws r w) (confirm k rs ws r w)) → Every (Held (operand (suc k)) rs ws r w) (confirm_indices (confirm k) q t e (drop 16 rs) ws r w)
  unfolding confirm_indices confirmed
  sound_indices i hp =
      every_then (sound_index (confirm k) (operand k) hp (repr 0 t) (drop 16 rs) ws (r + 1) w) (λ a ha.
      every_then (sound_index (confirm k) (operand k) hp (repr 1 t) _ _ _ _) (λ b hb.
      every_then (sound_index (confirm k) (operand k) hp (repr 2 t) _ _ _ _) (λ c hc.
      every_if (same q _) _ _ (λ s. met (tree i a b c (same_eq q _ s) ha hb hc)) (λ s. unmet))))

pub sound_all : (k : ℕ) (rs ws : List ℕ) (r w : ℕ) → Every (Held (operand k) rs ws r w) (confirm k rs ws r w)
unfolding confirm confirm_front
sound_all zero rs ws r w = unmet
sound_all (suc k) rs ws r w =
    let q : List ℕ = take 16 rs in
    let t : ℕ = operand_dword q in
    let e : List ℕ = extension_of (at 3 q) in
    every_if (leb 16 (length rs)) _ _ (λ h.
    every_if (op.exact_dword t && op.exact_extension e) _ _ (λ z.
    let b = both (op.exact_dword t) (op.exact_extension e) z in
    let g : Guessed q t e = record { dword_is = refl; extension_is = refl; exact_dword_lem = b.0; exact_extension_lem = b.1 } in
    every_if (immediate t) _ _ (sound_immediates k q rs ws r w t e (front_cut 16 rs) g) (λ i. sound_indices k q rs ws r w t e (front_cut 16 rs) g i (sound_all k)))
    (λ z. unmet))
    (λ h. unmet)

-- what is confirmed
pub sound : (k : ℕ) (rs ws : List ℕ) (r w : ℕ) (x : Tree) → confirm k rs ws r w ≡ just x → Held (operand k) rs ws r w x
sound k rs ws r w x e = every_of e (sound_all k rs ws r w)
