-- Laws of walking: what the general way answers, when its steps answer so.
use Prim.Native.Nat.{ℕ, zero, suc, ◌+◌, ◌-◌, ◌*◌, ◌/◌, ◌<◌, ◌≤◌}
use mathlib.Core.Path.{◌≡◌, refl, sym, ap, ◌∙◌}
use mathlib.Core.Bool.{Bool, true, false, cond, ◌&&◌}
use mathlib.Core.List.{List, [], ◌++◌, append-nil}
use mathlib.Core.Option.{Option as Maybe, none as nothing, some as just}
use native.Mathlib.Nat.{add-zero}
use native.Mathlib.Numerals.{sub-one}
use native.Mathlib.Omega.{arith}
use lib.ListN.{length, take, drop, length-append, length-drop}
use lib.Seq.{length-take-le, drop-drop}
use lib.Dec.{leb}
use borrow.Author.Tests.{le-leb, lt-leb}
use Rattle.std.proofs.Common.{Some, None, option_to_list}
use Rattle.std.specs.List.{slice_get}
use Rattle.format.specs.Operands as op
use Rattle.format.specs.Operands.{Tree, none, plain, node, immediate, immediates, dimension, repr, own, nests, known, dwords}
use Rattle.format.specs.Rows.{tree_words, tree_rows, operand_row}
use Rattle.format.specs.Encoder.{at, extension_of, operand_dword, same}
use Rattle.format.proofs.Dwords.{impossible, both}
use Rattle.format.proofs.Rows.{four_lengths}
use Rattle.operand_deep.specs.Confirm.{Confirmer, ◌>>=◌, confirm_index, confirmed, confirm_immediates, confirm_indices, confirm_front, confirm}
use Rattle.operand_deep.specs.Walks.{sized, walked, place, step_to, reached, there, row_at, guessed, front_for, back_for}
use Rattle.operand_deep.specs.declared.Place.{Place}
use Rattle.operand_deep.specs.declared.Walked.{Walked}
use Rattle.operand_deep.specs.declared.Step.{Step}
use Rattle.operand_deep.specs.declared.Guess.{Guess}
use Rattle.operand_deep.proofs.SameRows.{same_halves}
use Rattle.operand_deep.proofs.Found.{walk_lost, Reached, index_reached, index_lost}

-- ---- an index
module _ (p : Confirmer) (i : ℕ) (rs ws : List ℕ) (r w : ℕ) (k : known i ≡ true) (l : own i ≤ length ws - w) where
  abbrev words_of : List ℕ
  words_of = take (own i) (drop w ws)

  words_length : length words_of ≡ own i
  words_length = length-take-le (own i) (drop w ws) (omega (arith, length-drop w ws))

  opened : there (confirm_index p i) rs ws r w ≡ ◌>>=◌ (cond (nests i) (there p rs ws r (w + own i)) (just none)) (λ c. just (plain words_of c))
  unfolding confirm_index
  opened = rw (k, le-leb (own i) (length (drop w ws)) (omega (arith, length-drop w ws)), drop-drop (own i) w ws)

  pub alone : nests i ≡ false → step_to r (w + own i) (own i) ≡ reached (place r w) (there (confirm_index p i) rs ws r w)
  unfolding tree_rows tree_words dwords
  alone h =
      let n : own i ≡ length (words_of ++ []) = sym (ap length (append-nil words_of) ∙ words_length) in
      rw (opened, h) (λ j. step_to (sym (add-zero r) j) (w + n j) (n j))

  pub childless : nests i ≡ true → None ≡ walked (there p rs ws r (w + own i)) → None ≡ reached (place r w) (there (confirm_index p i) rs ws r w)
  childless h e = rw (opened, h, walk_lost _ e)

  behind_child : (o : Maybe Tree) {x : Walked} → Some x ≡ walked o → step_to (r + x.rows) (w + own i + x.words) (own i + x.dwords) ≡ reached (place r w) (◌>>=◌ o (λ c. just (plain words_of c)))
  unfolding tree_rows tree_words dwords
  behind_child nothing e = impossible (cc)
  behind_child (just c) {x} e =
      let f : x ≡ record { rows = tree_rows c; words = length (tree_words c); dwords = length (dwords c) } = cc in
      let ew : w + own i + length (tree_words c) ≡ w + length (words_of ++ tree_words c) = omega (arith, length-append words_of (tree_words c), words_length) in
      let ed : own i + length (dwords c) ≡ length (words_of ++ dwords c) = omega (arith, length-append words_of (dwords c), words_length) in
      rw f (λ j. step_to (r + tree_rows c) (ew j) (ed j))

  pub with_child : nests i ≡ true → {x : Walked} → Some x ≡ walked (there p rs ws r (w + own i)) → step_to (r + x.rows) (w + own i + x.words) (own i + x.dwords) ≡ reached (place r w) (there (confirm_index p i) rs ws r w)
  with_child h e = rw (opened, h) (behind_child _ e)

-- ---- a row is the one that the reader writes of an operand if its halves are
abbrev pub same_row : List ℕ → ℕ → List ℕ → ℕ → ℕ → Place → Place → Place → ℕ → ℕ → Bool
same_row q t e i m a b c rows ds = same (take 8 q) (front_for t (op.modifiers e) i m) && same (take 8 (drop 8 q)) (back_for t a b c rows ds)

by_halves : (q : List ℕ) → length q ≡ 16 → (t : ℕ) (e : List ℕ) (i m : ℕ) (a b c : Place) (rows ds : ℕ) (row : List ℕ) → front_for t (op.modifiers e) i m ++ back_for t a b c rows ds ≡ row → same q row ≡ same_row q t e i m a b c rows ds
unfolding front_for
by_halves q n t e i m a b c rows ds row h = ap (same q) (sym h) ∙ same_halves q _ _ n refl

-- ---- an operand of immediates
module _ (q ws : List ℕ) (r w t : ℕ) (e : List ℕ) (n : length q ≡ 16) (d : dimension t ≡ 0) (l : immediates t ≤ length ws - w) where
  abbrev m : ℕ
  m = immediates t

  abbrev its_words : List ℕ
  its_words = take m (drop w ws)

  leaf_length : m ≡ length its_words
  leaf_length = sym (length-take-le m (drop w ws) (omega (arith, length-drop w ws)))

  leaf_dwords : 1 + length e + m ≡ length (dwords (node t e its_words none none none))
  unfolding dwords
  leaf_dwords = omega (arith, four_lengths (e ++ its_words) [] [] [], length-append e its_words, leaf_length)

  leaf_words : m ≡ length (tree_words (node t e its_words none none none))
  unfolding tree_words
  leaf_words = omega (arith, four_lengths its_words [] [] [], leaf_length)

  abbrev leaf_end : Place
  leaf_end = place (r + 1) (w + m)

  leaf_row : front_for t (op.modifiers e) w m ++ back_for t leaf_end leaf_end leaf_end 1 (1 + length e + m) ≡ operand_row r w t e its_words none none none
  unfolding operand_row front_for back_for tree_rows tree_words
  leaf_row =
      let z₁ : w + m ≡ w + length its_words + 0 = omega (arith, leaf_length) in
      let z₂ : w + m ≡ w + length its_words + 0 + 0 = omega (arith, leaf_length) in
      let y₁ : r + 1 ≡ r + 1 + 0 = omega arith in
      let y₂ : r + 1 ≡ r + 1 + 0 + 0 = omega arith in
      λ i. front_for t (op.modifiers e) w (leaf_length i) ++ back_for t (place (r + 1) (w + leaf_length i)) (place (y₁ i) (z₁ i)) (place (y₂ i) (z₂ i)) 1 (leaf_dwords i)

  leaf_sizes : (b : Bool) → cond b (sized 1 m (1 + length e + m)) None ≡ walked (cond b (just (node t e its_words none none none)) nothing)
  unfolding tree_rows
  leaf_sizes true = λ i. sized 1 (leaf_words i) (leaf_dwords i)
  leaf_sizes false = refl

  pub leaf_walks : cond (same_row q t e w m leaf_end leaf_end leaf_end 1 (1 + length e + m)) (sized 1 m (1 + length e + m)) None ≡ walked (confirm_immediates q t e (drop w ws) r w)
  unfolding confirm_immediates confirmed
  leaf_walks = rw (d, le-leb m (length (drop w ws)) (omega (arith, length-drop w ws)), by_halves q n _ _ _ _ _ _ _ _ _ _ leaf_row) (leaf_sizes _)

-- ---- an operand with indices
rows_behind : (k r r₁ : ℕ) (rs : List ℕ) → r + k ≡ r₁ → drop (16 * k) (drop (16 * r) rs) ≡ drop (16 * r₁) rs
rows_behind k r r₁ rs e = let z : 16 * r + 16 * k ≡ 16 * r₁ = omega arith in drop-drop (16 * k) (16 * r) rs ∙ ap (λ (j : ℕ). drop j rs) z

words_behind : (k w w₁ : ℕ) (ws : List ℕ) → w + k ≡ w₁ → drop k (drop w ws) ≡ drop w₁ ws
words_behind k w w₁ ws e = drop-drop k w ws ∙ ap (λ (j : ℕ). drop j ws) e

module _ (k : ℕ) (rs ws : List ℕ) (r w t : ℕ) (lr : 16 * r + 16 ≤ length rs) where
  abbrev index_at : ℕ → Place → Maybe Tree
  index_at i p = there (confirm_index (confirm k) i) rs ws p.row p.word

  abbrev begin : Place
  begin = place (r + 1) w

  abbrev whole : List ℕ → List ℕ → Maybe Tree
  whole q e = confirm_indices (confirm k) q t e (drop (16 * (r + 1)) rs) (drop w ws) r w

  module _ {i₀ : ℕ} (e₀ : i₀ ≡ repr 0 t) where
    pub lost₀ : (q e : List ℕ) → None ≡ reached begin (index_at i₀ begin) → None ≡ walked (whole q e)
    unfolding confirm_indices
    lost₀ q e h = rw (← e₀, index_lost begin (index_at i₀ begin) h)

    module _ {a : Step} (s₀ : Some a ≡ reached begin (index_at i₀ begin)) {i₁ : ℕ} (e₁ : i₁ ≡ repr 1 t) where
      f₀ : Reached (index_at i₀ begin) rs ws begin a
      f₀ = index_reached k i₀ rs ws begin (omega arith) s₀

      pub row₁ : 16 * a.end.row ≤ length rs
      row₁ = f₀.rows_fit

      at₁ : (i : ℕ) → confirm_index (confirm k) i (drop (16 * tree_rows f₀.tree) (drop (16 * (r + 1)) rs)) (drop (length (tree_words f₀.tree)) (drop w ws)) (r + 1 + tree_rows f₀.tree) (w + length (tree_words f₀.tree)) ≡ index_at i a.end
      at₁ i = rw (rows_behind (tree_rows f₀.tree) (r + 1) a.end.row rs f₀.row_is, words_behind (length (tree_words f₀.tree)) w a.end.word ws f₀.word_is, f₀.row_is, f₀.word_is)

      pub lost₁ : (q e : List ℕ) → None ≡ reached a.end (index_at i₁ a.end) → None ≡ walked (whole q e)
      unfolding confirm_indices
      lost₁ q e h = rw (← e₀, f₀.is, ← e₁, at₁ i₁, index_lost a.end (index_at i₁ a.end) h)

      module _ {b : Step} (s₁ : Some b ≡ reached a.end (index_at i₁ a.end)) {i₂ : ℕ} (e₂ : i₂ ≡ repr 2 t) where
        f₁ : Reached (index_at i₁ a.end) rs ws a.end b
        f₁ = index_reached k i₁ rs ws a.end row₁ s₁

        pub row₂ : 16 * b.end.row ≤ length rs
        row₂ = f₁.rows_fit

        at₂ : (i : ℕ) → confirm_index (confirm k) i (drop (16 * tree_rows f₁.tree) (drop (16 * tree_rows f₀.tree) (drop (16 * (r + 1)) rs))) (drop (length (tree_words f₁.tree)) (drop (length (tree_words f₀.tree)) (drop w ws))) (r + 1 + tree_rows f₀.tree + tree_rows f₁.tree) (w + length (tree_words f₀.tree) + length (tree_words f₁.tree)) ≡ index_at i b.end
        at₂ i = rw (rows_behind (tree_rows f₀.tree) (r + 1) a.end.row rs f₀.row_is, words_behind (length (tree_words f₀.tree)) w a.end.word ws f₀.word_is, f₀.row_is, f₀.word_is, rows_behind (tree_rows f₁.tree) a.end.row b.end.row rs f₁.row_is, words_behind (length (tree_words f₁.tree)) a.end.word b.end.word ws f₁.word_is, f₁.row_is, f₁.word_is)

        pub lost₂ : (q e : List ℕ) → None ≡ reached b.end (index_at i₂ b.end) → None ≡ walked (whole q e)
        unfolding confirm_indices
        lost₂ q e h = rw (← e₀, f₀.is, ← e₁, at₁ i₁, f₁.is, ← e₂, at₂ i₂, index_lost b.end (index_at i₂ b.end) h)

        module _ {c : Step} (s₂ : Some c ≡ reached b.end (index_at i₂ b.end)) where
          f₂ : Reached (index_at i₂ b.end) rs ws b.end c
          f₂ = index_reached k i₂ rs ws b.end row₂ s₂

          -- what is walked is behind, and its dwords are not many
          pub onward : (r ≤ c.end.row) × (w ≤ c.end.word) × (a.dwords + b.dwords + c.dwords ≤ 3 * (length rs + length ws))
          onward = (omega (arith, f₀.row_is, f₁.row_is, f₂.row_is), omega (arith, f₀.word_is, f₁.word_is, f₂.word_is), omega (arith, f₀.few, f₁.few, f₂.few))

          module _ (q e : List ℕ) where
            all_found : whole q e ≡ confirmed q r w t e [] f₀.tree f₁.tree f₂.tree
            unfolding confirm_indices
            all_found = rw (← e₀, f₀.is, ← e₁, at₁ i₁, f₁.is, ← e₂, at₂ i₂, f₂.is)

            abbrev built : Tree
            built = node t e [] f₀.tree f₁.tree f₂.tree

            abbrev dwords_of : ℕ
            dwords_of = 1 + length e + a.dwords + b.dwords + c.dwords

            tree_rows_lem : c.end.row - r ≡ tree_rows built
            unfolding tree_rows
            tree_rows_lem = omega (arith, f₀.row_is, f₁.row_is, f₂.row_is)

            tree_words_lem : c.end.word - w ≡ length (tree_words built)
            unfolding tree_words
            tree_words_lem = omega (arith, f₀.word_is, f₁.word_is, f₂.word_is, four_lengths [] (tree_words f₀.tree) (tree_words f₁.tree) (tree_words f₂.tree))

            tree_dwords : dwords_of ≡ length (dwords built)
            unfolding dwords
            tree_dwords = omega (arith, four_lengths (e ++ []) (dwords f₀.tree) (dwords f₁.tree) (dwords f₂.tree), length-append e [], f₀.dwords_are, f₁.dwords_are, f₂.dwords_are)

            tree_row : front_for t (op.modifiers e) w 0 ++ back_for t begin a.end b.end (c.end.row - r) dwords_of ≡ operand_row r w t e [] f₀.tree f₁.tree f₂.tree
            unfolding operand_row front_for back_for
            tree_row =
                let z₀ : w ≡ w + 0 = sym (add-zero w) in
                let z₁ : a.end.word ≡ w + 0 + length (tree_words f₀.tree) = omega (arith, f₀.word_is) in
                let z₂ : b.end.word ≡ w + 0 + length (tree_words f₀.tree) + length (tree_words f₁.tree) = omega (arith, f₀.word_is, f₁.word_is) in
                let y₁ : a.end.row ≡ r + 1 + tree_rows f₀.tree = sym f₀.row_is in
                let y₂ : b.end.row ≡ r + 1 + tree_rows f₀.tree + tree_rows f₁.tree = omega (arith, f₀.row_is, f₁.row_is) in
                λ i. front_for t (op.modifiers e) w 0 ++ back_for t (place (r + 1) (z₀ i)) (place (y₁ i) (z₁ i)) (place (y₂ i) (z₂ i)) (tree_rows_lem i) (tree_dwords i)

            tree_sizes : (y : Bool) → cond y (sized (c.end.row - r) (c.end.word - w) dwords_of) None ≡ walked (cond y (just built) nothing)
            tree_sizes true = λ i. sized (tree_rows_lem i) (tree_words_lem i) (tree_dwords i)
            tree_sizes false = refl

            pub tree_walks : length q ≡ 16 → cond (same_row q t e w 0 begin a.end b.end (c.end.row - r) dwords_of) (sized (c.end.row - r) (c.end.word - w) dwords_of) None ≡ walked (whole q e)
            unfolding confirmed
            tree_walks n = rw (all_found, by_halves q n _ _ _ _ _ _ _ _ _ _ tree_row) (tree_sizes _)

-- ---- an operand
-- the extension of a guess
pub again : (m : ℕ) → option_to_list (slice_get (extension_of m) 0) ≡ extension_of m
unfolding extension_of
again zero = refl
again (suc m) = refl

record Guessed (g : Guess) (u m : ℕ) : Type 0 where
  dword_is : g.token ≡ u
  extension_is : option_to_list g.extension ≡ extension_of m
  exact_dword_lem : op.exact_dword u ≡ true
  exact_extension_lem : op.exact_extension (extension_of m) ≡ true

guess_of : (g : Guess) (u m : ℕ) → Some g ≡ guessed u (extension_of m) → Guessed g u m
unfolding guessed
guess_of g u m e = go (op.exact_dword u && op.exact_extension (extension_of m)) refl e
  where
    go : (b : Bool) → (op.exact_dword u && op.exact_extension (extension_of m)) ≡ b → Some g ≡ cond b (Some (record { token = u; extension = slice_get (extension_of m) 0 })) None → Guessed g u m
    go false z e = impossible (cc)
    go true z e =
        let f : g ≡ record { token = u; extension = slice_get (extension_of m) 0 } = cc in
        let b = both (op.exact_dword u) (op.exact_extension (extension_of m)) z in
        rw f (record { dword_is = refl; extension_is = again m; exact_dword_lem = b.0; exact_extension_lem = b.1 })

not_guessed : (u : ℕ) (e : List ℕ) → None ≡ guessed u e → (op.exact_dword u && op.exact_extension e) ≡ false
unfolding guessed
not_guessed u e h = go (op.exact_dword u && op.exact_extension e) h
  where
    its_guess : Guess
    its_guess = record { token = u; extension = slice_get e 0 }

    go : (b : Bool) → None ≡ cond b (Some its_guess) None → b ≡ false
    go false h = refl
    go true h = impossible (cc)

module _ (left : ℕ) (rs ws : List ℕ) (r w : ℕ) (h : left ≡ 0 → ⊥) where
  unroll : (left : ℕ) → (left ≡ 0 → ⊥) → there (confirm left) rs ws r w ≡ cond (leb 16 (length (drop (16 * r) rs))) (confirm_front (confirm (left - 1)) (row_at r rs) (operand_dword (row_at r rs)) (extension_of (at 3 (row_at r rs))) (drop 16 (drop (16 * r) rs)) (drop w ws) r w) nothing
  unfolding confirm
  unroll zero h = absurd (h refl)
  unroll (suc k) h = rw (sub-one (suc k))

  pub no_row : length rs / 16 ≤ r → None ≡ walked (there (confirm left) rs ws r w)
  no_row l = rw (unroll left h, lt-leb 16 (length (drop (16 * r) rs)) (omega (arith, length-drop (16 * r) rs)))

  module _ (l : r < length rs / 16) where
    row_there : leb 16 (length (drop (16 * r) rs)) ≡ true
    row_there = le-leb 16 (length (drop (16 * r) rs)) (omega (arith, length-drop (16 * r) rs))

    module _ {q : List ℕ} (eq : q ≡ row_at r rs) where
      pub no_guess : None ≡ guessed (operand_dword q) (extension_of (at 3 q)) → None ≡ walked (there (confirm left) rs ws r w)
      unfolding confirm_front
      no_guess e = rw (unroll left h, row_there, ← eq, not_guessed _ _ e)

      pub by_guess : {g : Guess} → Some g ≡ guessed (operand_dword q) (extension_of (at 3 q)) → there (confirm left) rs ws r w ≡ cond (immediate g.token) (confirm_immediates q g.token (option_to_list g.extension) (drop w ws) r w) (confirm_indices (confirm (left - 1)) q g.token (option_to_list g.extension) (drop (16 * (r + 1)) rs) (drop w ws) r w)
      unfolding confirm_front
      by_guess {g} e =
          let f = guess_of g _ _ e in
          let z : drop 16 (drop (16 * r) rs) ≡ drop (16 * (r + 1)) rs = rows_behind 1 r (r + 1) rs refl in
          rw (unroll left h, row_there, ← eq, f.exact_dword_lem, f.exact_extension_lem, z, ← f.dword_is, ← f.extension_is)
