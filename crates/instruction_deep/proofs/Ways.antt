-- The code's ways through an instruction.
use Prim.Native.Nat.{ℕ, suc, ◌+◌, ◌-◌, ◌*◌, ◌%◌, ◌≤◌}
use mathlib.Core.Path.{◌≡◌, refl, sym, ap, ◌∙◌, subst}
use mathlib.Core.List.{List, [], append-nil}
use mathlib.Core.Bool.{Bool, true, false}
use mathlib.Core.Option.{Option as Maybe, none as nothing, some as just}
use Rattle.std.specs.Prelude.{Option, Some, None, Decides}
use Rattle.std.proofs.lemmas.Bool.Decides.{not_from_Decides}
use native.Mathlib.Nat.{add-zero}
use native.Mathlib.Omega.{arith}
use lib.ListN.{length, get_or, drop, length-drop}
use lib.Seq.{get_or-drop, drop-drop}
use Rattle.format.specs.Framing.{code_of, length_of}
use Rattle.format.specs.Declarations.{Layout, layout}
use Rattle.format.specs.Operands.{Tree, parts_dwords}
use Rattle.format.specs.Instructions.{Instruction, pieces, dwords}
use Rattle.format.specs.Rows.{tree_rows, parts_rows, parts_words, top_level, parts}
use Rattle.format.specs.Encoder.{at, token_of_row, head_of_row}
use Rattle.format.proofs.Dwords.{impossible}
use Rattle.layouts.specs.Shapes.{Laid, kind_number, meant, items_of}
use Rattle.layouts.specs.declared.Shape.{Shape}
use Rattle.instruction_deep.specs.Confirm.{confirm_items, confirm_pieces, confirm_known, confirm_unread}
use Rattle.instruction_deep.specs.Walks.{some_walked, walked_instruction, off, sum, add, total, sum_at, Takes, takes, lacks, Pieces, Placed, Bare}
use Rattle.instruction_deep.specs.declared.Parts.{Parts}
use Rattle.instruction_deep.proofs.Items.{Bounds, bounds, all_few}
use Rattle.instruction_deep.proofs.SameRows.{size, confirmed, unconfirmed, read_not, unread_not}

-- ---- what the items come to
record Found (g : Maybe (List Tree)) (r w n k : ℕ) : Type 0 where
  parts : List Tree
  is : g ≡ just parts
  rows_are : parts_rows parts ≡ r
  words_are : length (parts_words parts) ≡ w
  dwords_are : length (parts_dwords parts) ≡ n
  tops_are : top_level parts ≡ k

found : (g : Maybe (List Tree)) {r w n k : ℕ} → total g ≡ sum r w n k → Found g r w n k
found nothing e = impossible (cc)
found (just ps) e = record { parts = ps; is = refl; rows_are = (cc); words_are = (cc); dwords_are = (cc); tops_are = (cc) }

lost : (g : Maybe (List Tree)) → total g ≡ off → g ≡ nothing
lost nothing e = refl
lost (just ps) e = impossible (cc)

nothing_more : (m : Bool) (rs ws : List ℕ) (r w : ℕ) → sum_at m [] rs ws r w ≡ sum 0 0 0 0
unfolding sum_at confirm_items parts_rows parts_words parts_dwords top_level
nothing_more m rs ws r w = refl

plus_nothing : (r w n k : ℕ) → add r w n k (sum 0 0 0 0) ≡ sum r w n k
plus_nothing r w n k = λ i. sum (add-zero r i) (add-zero w i) (add-zero n i) (add-zero k i)

module _ (q : List ℕ) (place : ℕ) (m : Bool) (rs ws : List ℕ) (r w : ℕ) (h : length q ≡ 16) (s : Shape) (laid : Laid (at 2 q) s) where
  abbrev whole : Maybe Instruction
  whole = confirm_known m q place (drop (16 * r) rs) (drop w ws) r w

  abbrev items : Maybe (List Tree)
  items = confirm_items m (items_of s) (drop (16 * r) rs) (drop w ws) r w

  by_shape : layout (at 2 q) ≡ meant s
  by_shape = sym laid.meaning

  -- what the shape's items say
  module _ {p : Option Parts} (d : Takes m (items_of s) s.operands rs ws r w p) where
    pub no_parts : p ≡ None → None ≡ walked_instruction whole
    unfolding confirm_known sum_at
    no_parts e = go d e
      where
        go : {p : Option Parts} → Takes m (items_of s) s.operands rs ws r w p → p ≡ None → None ≡ walked_instruction whole
        go (takes h₁ h₂ h₃ h₄ h₅ f) e = impossible (cc)
        go (lacks f) e = rw (by_shape, lost items (rw (append-nil (items_of s)) at (f [])))

    module _ (to : Parts) (e : p ≡ Some to) where
      here : Takes m (items_of s) s.operands rs ws r w (Some to)
      here = subst (Takes m (items_of s) s.operands rs ws r w) e d

      pub sizes : Bounds rs ws r w to
      sizes = bounds here

      pub sizes_few : to.dwords ≤ length rs + length ws
      sizes_few = omega (arith, all_few sizes)

      sums : Found items (to.row - r) (to.word - w) to.dwords s.operands
      unfolding sum_at
      sums = go here
        where
          go : Takes m (items_of s) s.operands rs ws r w (Some to) → Found items (to.row - r) (to.word - w) to.dwords s.operands
          go (takes h₁ h₂ h₃ h₄ h₅ f) =
              let z : sum_at m (items_of s) rs ws r w ≡ add (to.row - r) (to.word - w) to.dwords s.operands (sum_at m [] rs ws to.row to.word) = rw (append-nil (items_of s)) at (f []) in
              found items (z ∙ ap (add (to.row - r) (to.word - w) to.dwords s.operands) (nothing_more m rs ws to.row to.word) ∙ plus_nothing (to.row - r) (to.word - w) to.dwords s.operands)

      to_pieces : whole ≡ confirm_pieces q place r w (token_of_row q) (head_of_row q) sums.parts
      unfolding confirm_known
      to_pieces = rw (by_shape, sums.is)

      -- the row's other words
      abbrev Here : ℕ → Type 0
      Here kind = Placed q place kind r s.operands w (to.word - w)

      kinds : {kind : ℕ} → kind ≡ kind_number s.kind → (layout (at 2 q)).kind ≡ kind
      kinds e = ap (λ (x : Layout). x.kind) by_shape ∙ sym e

      pub unlike : {c : Bool} → Decides c (Pieces q to.dwords) → c ≡ false → None ≡ walked_instruction whole
      unlike {c} d₂ k = rw (to_pieces, unconfirmed q place r w sums.parts (λ p z. not_from_Decides c d₂ k (rw sums.dwords_are at p)))

      module _ {kind : ℕ} (ek : kind ≡ kind_number s.kind) {b : Bool} (d₁ : Decides b (Here kind)) where
        pub misplaced : b ≡ false → None ≡ walked_instruction whole
        misplaced k = rw (to_pieces, unconfirmed q place r w sums.parts (λ p z. not_from_Decides b d₁ k (rw (kinds ek, sums.tops_are, sums.words_are) at z)))

        pub walks : b ≡ true → {c : Bool} → Decides c (Pieces q to.dwords) → c ≡ true → some_walked (to.row - r) (at 1 q) ≡ walked_instruction whole
        unfolding parts dwords
        walks h₁ {c} d₂ k =
            let p = d₂.0 k in
            let z : Placed q place (layout (at 2 q)).kind r (top_level sums.parts) w (length (parts_words sums.parts)) = rw (kinds ek, sums.tops_are, sums.words_are) (d₁.0 h₁) in
            let g : Pieces q (length (parts_dwords sums.parts)) = rw sums.dwords_are p in
            let n₁ : at 1 q ≡ length (dwords (pieces (token_of_row q) (head_of_row q) sums.parts)) = g.dwords_are ∙ sym (size q place r w sums.parts) in
            rw (to_pieces, confirmed q place r w sums.parts g z h) (λ i. some_walked (sym sums.rows_are i) (n₁ i))

-- ---- an unread instruction
module _ (row : List ℕ) (place : ℕ) (ws : List ℕ) (r w : ℕ) (h : length row ≡ 16) where
  abbrev own : List ℕ
  own = drop w ws

  abbrev answer : Maybe Instruction
  answer = confirm_unread row place [] own r w

  own_length : length own ≡ length ws - w
  own_length = length-drop w ws

  own_first : get_or own 0 0 ≡ get_or ws w 0
  own_first = get_or-drop w ws 0 0 ∙ ap (λ (k : ℕ). get_or ws k 0) (add-zero w)

  own_next : drop 1 own ≡ drop (suc w) ws
  own_next = let z : w + 1 ≡ suc w = omega arith in drop-drop 1 w ws ∙ ap (λ (k : ℕ). drop k ws) z

  pub no_words : length ws - w ≡ 0 → None ≡ walked_instruction answer
  no_words e = rw (unread_not row place r w own (λ k z b p. absurd (let f : ⊥ = omega (arith, own_length) in f)))

  module _ (k : length ws - w ≡ 0 → ⊥) (n : ℕ) (en : n ≡ length_of (get_or ws w 0) (drop (suc w) ws)) where
    own_size : n ≡ length_of (at 0 own) (drop 1 own)
    own_size = rw (own_first, own_next) en

    pub other_length : (n ≡ length ws - w → ⊥) → None ≡ walked_instruction answer
    other_length f = rw (unread_not row place r w own (λ k z b p. f (own_size ∙ z ∙ own_length)))

    module _ (h₁ : n ≡ length ws - w) {b : Bool} (d : Decides b (Bare row (length ws - w) (get_or ws w 0 % 2048))) where
      pub not_bare : b ≡ false → None ≡ walked_instruction answer
      unfolding code_of
      not_bare f = rw (unread_not row place r w own (λ k z u p. not_from_Decides b d f (rw (own_length, own_first) at u)))

      module _ (h₂ : b ≡ true) {a : Bool} (d₁ : Decides a (Placed row place 0 r 0 w (length ws - w))) where
        pub misplaced_unread : a ≡ false → None ≡ walked_instruction answer
        misplaced_unread f = rw (unread_not row place r w own (λ k z u p. not_from_Decides a d₁ f (rw own_length at p)))

        pub walks_unread : a ≡ true → some_walked 0 (length ws - w) ≡ walked_instruction answer
        unfolding code_of parts parts_rows tree_rows dwords
        walks_unread f =
            let u : Bare row (length own) (code_of own) = rw (own_length, own_first) (d.0 h₂) in
            let p : Placed row place 0 r 0 w (length own) = rw own_length (d₁.0 f) in
            rw (read_not row place r w own (omega (arith, own_length, k)) (sym own_size ∙ h₁ ∙ sym own_length) u p h) (λ i. some_walked 0 (sym own_length i))
