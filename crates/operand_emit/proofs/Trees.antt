-- How a confirmed operand is written by its parts.
use Prim.Native.Nat.{ℕ, ◌+◌, ◌-◌, ◌*◌, ◌/◌, ◌^◌, ◌<◌, ◌≤◌}
use mathlib.Core.Path.{◌≡◌, refl, sym, ap, subst, ◌∙◌}
use mathlib.Core.Bool.{Bool, true, false, cond, ◌&&◌}
use mathlib.Core.List.{List, [], ◌∷◌, ◌++◌, append-nil}
use mathlib.Core.Option.{Option, some as just}
use native.Mathlib.Nat.{add-zero}
use native.Mathlib.Omega.{arith}
use lib.ListN.{length, take, drop, get_or, length-append, length-drop}
use lib.Seq.{length-take-le, drop-drop, drop-cons, take_at}
use lib.Dec.{leb}
use borrow.Author.Tests.{leb-true}
use Rattle.format.specs.Dwords.{bytes_of}
use Rattle.format.specs.Operands.{Tree, none, plain, repr, own, nests, known, dwords}
use Rattle.format.specs.Rows.{tree_words, tree_rows}
use Rattle.format.specs.Encoder.{at, extension_of, operand_dword}
use Rattle.format.proofs.Dwords.{both}
use Rattle.format.proofs.Rows.{four_lengths}
use Rattle.operand_deep.specs.Confirm.{Confirmer, confirm_index, confirm}
use Rattle.operand_deep.proofs.Every.{Every, unmet, met, every_then, every_if, every_of}
use Rattle.operand_deep.proofs.Sound.{sound}
use Rattle.output.specs.Puts.{put, Headed}
use Rattle.operand_emit.specs.Emits.{row_from, standing, Ready, Emitted, head_of, Fits, words_left, Lone}
use Rattle.operand_emit.specs.declared.Place.{Place}
use Rattle.output.proofs.Puts.{dwords_more}
use Rattle.operand_emit.proofs.Heads.{same_first, same_second, same_third}
use Rattle.operand_emit.proofs.Word.{Word}
use Rattle.operand_emit.proofs.Opened.{every_self, Indices, Opened, opens, some_left}

emitted_of : {o : Option Tree} {x : Tree} {first word place : ℕ} {out : List ℕ} {ends : Place} {out' : List ℕ} → o ≡ just x → Emitted (just x) first word place out ends out' → Emitted o first word place out ends out'
emitted_of {first = first} {word = word} {place = place} {out = out} {ends = ends} {out' = out'} e h = subst (λ (o : Option Tree). Emitted o first word place out ends out') (sym e) h

emitted_as : {o : Option Tree} {x : Tree} {first word place : ℕ} {out : List ℕ} {ends : Place} {out' : List ℕ} → o ≡ just x → Emitted o first word place out ends out' → Emitted (just x) first word place out ends out'
emitted_as {first = first} {word = word} {place = place} {out = out} {ends = ends} {out' = out'} e h = subst (λ (o : Option Tree). Emitted o first word place out ends out') e h

-- ---- the number of the row that begins behind so many others
pub number_behind : (r s u : ℕ) → u ≡ r + 16 * s → u / 16 ≡ r / 16 + s
number_behind r s u e = omega (arith, e)

-- ---- an index: words of its own, and an operand if there is one in it
record Index (p : Confirmer) (i : ℕ) (rs ws : List ℕ) (r w : ℕ) (x : Tree) : Type 0 where
  own_there : own i ≤ length ws
  child : Tree
  child_is : cond (nests i) (p rs (drop (own i) ws) r (w + own i)) (just none) ≡ just child
  is : x ≡ plain (take (own i) ws) child

index_all : (p : Confirmer) (i : ℕ) (rs ws : List ℕ) (r w : ℕ) → Every (Index p i rs ws r w) (confirm_index p i rs ws r w)
unfolding confirm_index
index_all p i rs ws r w = every_if (known i && leb (own i) (length ws)) _ _
    (λ z. every_then (every_self (cond (nests i) (p rs (drop (own i) ws) r (w + own i)) (just none))) (λ c ec.
    met (record { own_there = leb-true (own i) (length ws) (both (known i) _ z).1; child = c; child_is = ec; is = refl })))
    (λ z. unmet)

module _ (k i : ℕ) (rs ws : List ℕ) (from : Place) (out : List ℕ) (g : Ready (standing (confirm_index (confirm k) i) rs ws from.operand from.word) from.at (length out)) where
  parts : Index (confirm k) i (drop from.operand rs) (drop from.word ws) (from.operand / 16) from.word g.tree
  parts = every_of g.is (index_all (confirm k) i (drop from.operand rs) (drop from.word ws) (from.operand / 16) from.word)

  abbrev X : List ℕ
  X = take (own i) (drop from.word ws)

  own_length : length X ≡ own i
  own_length = length-take-le (own i) (drop from.word ws) parts.own_there

  index_dwords : length (dwords g.tree) ≡ own i + length (dwords parts.child)
  unfolding dwords
  index_dwords = ap (λ (x : Tree). length (dwords x)) parts.is ∙ omega (arith, length-append X (dwords parts.child), own_length)

  pub own_room : {o : ℕ} → o ≡ own i → (o ≤ length ws - from.word) × (4 * (from.at + o) ≤ length out)
  own_room eo = (omega (arith, parts.own_there, length-drop from.word ws), omega (arith, index_dwords, g.room))

  module _ {o : ℕ} (eo : o ≡ own i) {b : Bool} (eb : b ≡ nests i) {to : Place} (et : to ≡ record from { word = from.word + o; at = from.at + o }) where
    child_at : b ≡ true → standing (confirm k) rs ws to.operand to.word ≡ just parts.child
    child_at h =
        let z : nests i ≡ true = sym eb ∙ h in
        let y : confirm k (drop from.operand rs) (drop (own i) (drop from.word ws)) (from.operand / 16) (from.word + own i) ≡ just parts.child = rw z at parts.child_is in
        rw (et, eo) (ap (λ (l : List ℕ). confirm k (drop from.operand rs) l (from.operand / 16) (from.word + own i)) (sym (drop-drop (own i) from.word ws)) ∙ y)

    pub child_ready : b ≡ true → (n : ℕ) → n ≡ length out → Ready (standing (confirm k) rs ws to.operand to.word) to.at n
    child_ready h n e = record { tree = parts.child; is = child_at h; room = rw et (omega (arith, index_dwords, g.room)) }

    module _ {out₁ : List ℕ} (e₁ : out₁ ≡ put (4 * from.at) (bytes_of (take o (drop from.word ws))) out) where
      owned : out₁ ≡ put (4 * from.at) (bytes_of X) out
      owned = rw eo at e₁

      pub nested : b ≡ true → {ends : Place} {out₂ : List ℕ} → Emitted (standing (confirm k) rs ws to.operand to.word) to.operand to.word to.at out₁ ends out₂ →
          Emitted (standing (confirm_index (confirm k) i) rs ws from.operand from.word) from.operand from.word from.at out ends out₂
      unfolding dwords tree_rows tree_words
      nested h {ends} {out₂} f =
          let c : Emitted (just parts.child) from.operand (from.word + o) (from.at + o) out₁ ends out₂ = rw et at (emitted_as (child_at h) f) in
          emitted_of (g.is ∙ ap just parts.is)
          (record {
            output_is = dwords_more from.at (from.at + o) X (dwords parts.child) out (omega (arith, (own_room eo).1, own_length)) (omega (arith, own_length)) owned c.output_is;
            operand_is = c.operand_is;
            word_is = c.word_is ∙ omega (arith, length-append X (tree_words parts.child), own_length);
            at_is = c.at_is ∙ omega (arith, length-append X (dwords parts.child), own_length);
          })

      pub unnested : b ≡ false → Emitted (standing (confirm_index (confirm k) i) rs ws from.operand from.word) from.operand from.word from.at out to out₁
      unfolding dwords tree_rows tree_words
      unnested h =
          let z : nests i ≡ false = sym eb ∙ h in
          let y : just none ≡ just parts.child = rw z at parts.child_is in
          let c : none ≡ parts.child = cc in
          let l : length (X ++ []) ≡ o = ap length (append-nil X) ∙ own_length ∙ sym eo in
          rw et
          (emitted_of (g.is ∙ ap just (parts.is ∙ ap (plain X) (sym c)))
          (record {
            output_is = owned ∙ ap (λ (j : List ℕ). put (4 * from.at) (bytes_of j) out) (sym (append-nil X));
            operand_is = sym (add-zero from.operand);
            word_is = ap (λ (j : ℕ). from.word + j) (sym l);
            at_is = ap (λ (j : ℕ). from.at + j) (sym l);
          }))

-- ---- two neighbours that were compared at once with 1 and 0
pub one_none : (a b : ℕ) → a < 2 ^ 32 → a + b * 2 ^ 32 ≡ 1 → (a ≡ 1) × (b ≡ 0)
one_none a b l e = (omega (arith, l, e), omega (arith, l, e))

-- ---- an operand
module _ (left : ℕ) (rs ws : List ℕ) (from : Place) (out : List ℕ) (g : Ready (standing (confirm left) rs ws from.operand from.word) from.at (length out)) where
  whole : Opened (confirm (left - 1)) (drop from.operand rs) (drop from.word ws) (from.operand / 16) from.word g.tree
  whole = opens left (drop from.operand rs) (drop from.word ws) (from.operand / 16) from.word g.tree g.is

  pub depth_left : 0 < left
  depth_left = some_left left (drop from.operand rs) (drop from.word ws) (from.operand / 16) from.word g.tree g.is

  pub row_within : from.operand + 16 ≤ length rs
  row_within = omega (arith, whole.row_there, length-drop from.operand rs)

  module _ {q : List ℕ} (eq : q ≡ row_from from.operand rs) where
    pub row_fits : Fits q
    row_fits = rw eq whole.fits

    rows_are : at 14 q ≡ tree_rows g.tree
    rows_are = rw eq whole.rows_are

    dwords_are : at 15 q ≡ length (dwords g.tree)
    dwords_are = rw eq whole.dwords_are

    pub head_room : 4 * (from.at + length (head_of q)) ≤ length out
    head_room = rw eq (omega (arith, whole.head_fits, g.room))

    -- with no operand in it
    module _ (h : at 14 q ≡ 1) where
      abbrev W : List ℕ
      W = tree_words g.tree

      lone_dwords : dwords g.tree ≡ head_of q ++ W
      lone_dwords = rw eq (whole.lone (sym rows_are ∙ h))

      lone_length : length (dwords g.tree) ≡ length (head_of q) + length W
      lone_length = ap length lone_dwords ∙ length-append (head_of q) W

      words_front : drop from.word ws ≡ W ++ drop (length W) (drop from.word ws)
      words_front = (sound left (drop from.operand rs) (drop from.word ws) (from.operand / 16) from.word g.tree g.is).words

      words_there : length W ≤ length ws - from.word
      words_there = omega (arith, ap length words_front, length-append W (drop (length W) (drop from.word ws)), length-drop from.word ws)

      front_words : (n : ℕ) → n ≡ length W → take n (drop from.word ws) ≡ W
      front_words n e = ap (take n) words_front ∙ take_at W (drop (length W) (drop from.word ws)) n (sym e)

      end_within : 4 * (from.at + at 15 q) ≤ length out
      end_within = omega (arith, dwords_are, g.room)

      left_is : words_left q ≡ length W
      left_is = omega (arith, dwords_are, lone_length)

      pub lone_ready : Lone q (length ws) from.word from.at (length out)
      lone_ready = record { fits = row_fits; head_fits = omega (arith, dwords_are, lone_length); words_there = omega (arith, left_is, words_there); room = end_within }

      pub lone_emitted : {to : Place} {out₁ : List ℕ} → out₁ ≡ put (4 * from.at) (bytes_of (head_of q ++ take (words_left q) (drop from.word ws))) out →
          to ≡ record { operand = from.operand + 16; word = from.word + words_left q; at = from.at + at 15 q } →
          Emitted (standing (confirm left) rs ws from.operand from.word) from.operand from.word from.at out to out₁
      lone_emitted {to} {out₁} e et =
          let z : head_of q ++ take (words_left q) (drop from.word ws) ≡ dwords g.tree = ap (λ (l : List ℕ). head_of q ++ l) (front_words (words_left q) left_is) ∙ sym lone_dwords in
          rw et (emitted_of g.is (record {
            output_is = rw z at e;
            operand_is = omega (arith, rows_are, h);
            word_is = ap (λ (j : ℕ). from.word + j) left_is;
            at_is = ap (λ (j : ℕ). from.at + j) dwords_are;
          }))

    -- of one index of one dword, without an extension
    module _ (d : at 6 q ≡ 1) (r : at 7 q ≡ 0) (m : at 3 q ≡ 0) where
      word : Word g.tree
      word = whole.word (ap (at 6) (sym eq) ∙ d) (ap (at 7) (sym eq) ∙ r)

      no_operand : at 14 q ≡ 1
      no_operand = rows_are ∙ word.one_row

      head_is : head_of q ≡ operand_dword q ∷ []
      unfolding extension_of
      head_is = ap (λ (j : ℕ). operand_dword q ∷ extension_of j) m

      two_dwords : length (dwords g.tree) ≡ 2
      two_dwords = omega (arith, lone_length no_operand, ap length head_is, word.one_word)

      pub two_room : 4 * (from.at + 2) ≤ length out
      two_room = omega (arith, two_dwords, g.room)

      pub word_there : from.word < length ws
      word_there = omega (arith, words_there no_operand, word.one_word)

      word_is : tree_words g.tree ≡ get_or ws from.word 0 ∷ []
      word_is = sym (front_words no_operand 1 (sym word.one_word)) ∙ ap (take 1) (drop-cons ws from.word 0 word_there)

      pub word_emitted : {to : Place} {out₁ : List ℕ} → out₁ ≡ put (4 * from.at) (bytes_of (operand_dword q ∷ get_or ws from.word 0 ∷ [])) out →
          to ≡ record { operand = from.operand + 16; word = from.word + 1; at = from.at + 2 } →
          Emitted (standing (confirm left) rs ws from.operand from.word) from.operand from.word from.at out to out₁
      word_emitted {to} {out₁} e et =
          let z : dwords g.tree ≡ operand_dword q ∷ get_or ws from.word 0 ∷ [] = lone_dwords no_operand ∙ (λ i. head_is i ++ word_is i) in
          rw et (emitted_of g.is (record {
            output_is = rw z e;
            operand_is = omega (arith, word.one_row);
            word_is = omega (arith, word.one_word);
            at_is = omega (arith, two_dwords);
          }))

    module _ {next : ℕ} {out₁ : List ℕ} (hd : Headed (head_of q) from.at out next out₁) where
      -- by its indices
      module _ (h : at 14 q ≡ 1 → ⊥) where
        three : Indices (confirm (left - 1)) (drop from.operand rs) (drop from.word ws) (from.operand / 16) from.word g.tree
        three = whole.indices (λ e. h (rows_are ∙ e))

        abbrev A : Tree
        A = three.first

        abbrev B : Tree
        B = three.second

        abbrev C : Tree
        C = three.third

        abbrev P : ℕ → ℕ → ℕ → Option Tree
        P i = standing (confirm_index (confirm (left - 1)) i) rs ws

        three_dwords : dwords g.tree ≡ head_of q ++ dwords A ++ dwords B ++ dwords C
        unfolding dwords
        three_dwords = ap dwords three.is ∙ ap (λ (l : List ℕ). l ++ dwords A ++ dwords B ++ dwords C) (append-nil (head_of (row_from from.operand rs)) ∙ ap head_of (sym eq))

        three_count : length (dwords g.tree) ≡ length (head_of q) + length (dwords A) + length (dwords B) + length (dwords C)
        three_count = ap length three_dwords ∙ four_lengths (head_of q) (dwords A) (dwords B) (dwords C)

        rows_behind : (r s u : ℕ) → u ≡ r + 16 * s → drop (16 * s) (drop r rs) ≡ drop u rs
        rows_behind r s u e = drop-drop (16 * s) r rs ∙ ap (λ (j : ℕ). drop j rs) (sym e)

        words_behind : (r s u : ℕ) → u ≡ r + s → drop s (drop r ws) ≡ drop u ws
        words_behind r s u e = drop-drop s r ws ∙ ap (λ (j : ℕ). drop j ws) (sym e)

        module _ (t : ℕ) (et : t + length (extension_of (at 3 q)) * 2 ^ 31 ≡ operand_dword q) {i₀ : ℕ} (e₀ : i₀ ≡ repr 0 t) where
          dword_is : t + length (extension_of (at 3 q)) * 2 ^ 31 ≡ operand_dword (row_from from.operand rs)
          dword_is = et ∙ ap operand_dword eq

          first_at : P i₀ (from.operand + 16) from.word ≡ just A
          first_at = rw (e₀, same_first t (length (extension_of (at 3 q))) dword_is, ← (rows_behind from.operand 1 (from.operand + 16) refl), number_behind from.operand 1 (from.operand + 16) refl) three.first_is

          pub first_ready : (n₁ : ℕ) → n₁ ≡ length out → Ready (P i₀ (from.operand + 16) from.word) next n₁
          first_ready n₁ e = record { tree = A; is = first_at; room = omega (arith, three_count, g.room, hd.next_is) }

          module _ {ends₁ : Place} {out₂ : List ℕ} (f₀ : Emitted (P i₀ (from.operand + 16) from.word) (from.operand + 16) from.word next out₁ ends₁ out₂) {i₁ : ℕ} (e₁ : i₁ ≡ repr 1 t) where
            put₀ : Emitted (just A) (from.operand + 16) from.word next out₁ ends₁ out₂
            put₀ = emitted_as first_at f₀

            second_at : P i₁ ends₁.operand ends₁.word ≡ just B
            second_at = rw (e₁, same_second t (length (extension_of (at 3 q))) dword_is, ← (rows_behind (from.operand + 16) (tree_rows A) ends₁.operand put₀.operand_is), ← (words_behind from.word (length (tree_words A)) ends₁.word put₀.word_is), ← (rows_behind from.operand 1 (from.operand + 16) refl), number_behind (from.operand + 16) (tree_rows A) ends₁.operand put₀.operand_is, number_behind from.operand 1 (from.operand + 16) refl, put₀.word_is) three.second_is

            pub second_ready : (n₁ : ℕ) → n₁ ≡ length out → Ready (P i₁ ends₁.operand ends₁.word) ends₁.at n₁
            second_ready n₁ e = record { tree = B; is = second_at; room = omega (arith, three_count, g.room, hd.next_is, put₀.at_is) }

            module _ {ends₂ : Place} {out₃ : List ℕ} (f₁ : Emitted (P i₁ ends₁.operand ends₁.word) ends₁.operand ends₁.word ends₁.at out₂ ends₂ out₃) {i₂ : ℕ} (e₂ : i₂ ≡ repr 2 t) where
              put₁ : Emitted (just B) ends₁.operand ends₁.word ends₁.at out₂ ends₂ out₃
              put₁ = emitted_as second_at f₁

              third_at : P i₂ ends₂.operand ends₂.word ≡ just C
              third_at = rw (e₂, same_third t (length (extension_of (at 3 q))) dword_is, ← (rows_behind ends₁.operand (tree_rows B) ends₂.operand put₁.operand_is), ← (words_behind ends₁.word (length (tree_words B)) ends₂.word put₁.word_is), ← (rows_behind (from.operand + 16) (tree_rows A) ends₁.operand put₀.operand_is), ← (words_behind from.word (length (tree_words A)) ends₁.word put₀.word_is), ← (rows_behind from.operand 1 (from.operand + 16) refl), number_behind ends₁.operand (tree_rows B) ends₂.operand put₁.operand_is, number_behind (from.operand + 16) (tree_rows A) ends₁.operand put₀.operand_is, number_behind from.operand 1 (from.operand + 16) refl, put₁.word_is, put₀.word_is) three.third_is

              pub third_ready : (n₁ : ℕ) → n₁ ≡ length out → Ready (P i₂ ends₂.operand ends₂.word) ends₂.at n₁
              third_ready n₁ e = record { tree = C; is = third_at; room = omega (arith, three_count, g.room, hd.next_is, put₀.at_is, put₁.at_is) }

              module _ {ends₃ : Place} {out₄ : List ℕ} (f₂ : Emitted (P i₂ ends₂.operand ends₂.word) ends₂.operand ends₂.word ends₂.at out₃ ends₃ out₄) where
                put₂ : Emitted (just C) ends₂.operand ends₂.word ends₂.at out₃ ends₃ out₄
                put₂ = emitted_as third_at f₂

                abbrev H : List ℕ
                H = head_of q

                written : out₄ ≡ put (4 * from.at) (bytes_of (H ++ dwords A ++ dwords B ++ dwords C)) out
                written =
                    let c = three_count in
                    let r = g.room in
                    let l₁ = length-append H (dwords A) in
                    let l₂ = length-append (H ++ dwords A) (dwords B) in
                    let w₁ = dwords_more from.at next H (dwords A) out (omega arith) hd.next_is hd.output_is put₀.output_is in
                    let w₂ = dwords_more from.at ends₁.at (H ++ dwords A) (dwords B) out (omega arith) (omega (arith, put₀.at_is, hd.next_is)) w₁ put₁.output_is in
                    dwords_more from.at ends₂.at (H ++ dwords A ++ dwords B) (dwords C) out (omega arith) (omega (arith, put₁.at_is, put₀.at_is, hd.next_is)) w₂ put₂.output_is

                deep_rows : tree_rows g.tree ≡ 1 + tree_rows A + tree_rows B + tree_rows C
                unfolding tree_rows
                deep_rows = ap tree_rows three.is

                deep_words : length (tree_words g.tree) ≡ length (tree_words A) + length (tree_words B) + length (tree_words C)
                unfolding tree_words
                deep_words = ap (λ (x : Tree). length (tree_words x)) three.is ∙ four_lengths [] (tree_words A) (tree_words B) (tree_words C) ∙ omega arith

                pub deep_emitted : Emitted (standing (confirm left) rs ws from.operand from.word) from.operand from.word from.at out ends₃ out₄
                deep_emitted =
                    emitted_of g.is
                    (record {
                      output_is = written ∙ ap (λ (l : List ℕ). put (4 * from.at) (bytes_of l) out) (sym three_dwords);
                      operand_is = omega (arith, deep_rows, put₀.operand_is, put₁.operand_is, put₂.operand_is);
                      word_is = omega (arith, deep_words, put₀.word_is, put₁.word_is, put₂.word_is);
                      at_is = omega (arith, three_count, hd.next_is, put₀.at_is, put₁.at_is, put₂.at_is);
                    })
