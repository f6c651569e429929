-- A row is the one that the reader writes exactly when its sixteen words are.
use Prim.Native.Nat.{ℕ, zero, suc, ◌+◌, ◌%◌, ◌^◌, ◌<◌}
use mathlib.Core.Path.{◌≡◌, refl, sym, ap, ◌∙◌, subst}
use mathlib.Core.List.{List, [], ◌∷◌}
use mathlib.Core.Bool.{Bool, true, false, cond, ◌&&◌}
use mathlib.Core.Option.{none as nothing, some as just}
use native.Mathlib.Omega.{arith}
use lib.ListN.{length, drop, length-append, drop_of_length-le}
use lib.Seq.{drop-cons}
use lib.Dec.{eqb, ltb}
use borrow.Author.Tests.{eqb-true, eq-eqb, lt-ltb, ltb-true}
use Rattle.format.specs.Dwords.{bits}
use Rattle.format.specs.Framing.{code, code_of, long, length_of}
use Rattle.format.specs.Counts.{token_with, rising, of_type, type_bits}
use Rattle.format.specs.Declarations.{Layout, layout, in_bounds}
use Rattle.format.specs.Operands.{Tree, parts_dwords}
use Rattle.format.specs.Instructions.{unread, pieces, fields_of, extensions, dwords}
use Rattle.format.specs.Rows.{parts_words, top_level, unread_row, instruction_row}
use Rattle.format.specs.Encoder.{at, token_of_row, head_of_row, same}
use Rattle.format.proofs.Dwords.{both}
use Rattle.format.proofs.Encoder.{same_eq, same_refl}
use Rattle.instruction_fields.specs.Fields.{headed, classed}
use Rattle.instruction_deep.specs.Confirm.{head_taken, confirm_pieces, confirm_unread}
use Rattle.instruction_deep.specs.Walks.{Fielded, Pieces, Placed, Bare}

-- n words from word i on
unfoldable words_of : ℕ → ℕ → List ℕ → List ℕ
words_of zero i q = []
words_of (suc n) i q = at i q ∷ words_of n (suc i) q

words_of_lem : (n i : ℕ) (q : List ℕ) → i + n ≡ length q → drop i q ≡ words_of n i q
unfolding words_of
words_of_lem zero i q e = drop_of_length-le q {i = i} (omega arith)
words_of_lem (suc n) i q e = drop-cons q i 0 (omega arith) ∙ ap (λ (l : List ℕ). at i q ∷ l) (words_of_lem n (suc i) q (omega arith))

-- sixteen words
sixteen : (q : List ℕ) → length q ≡ 16 → q ≡ at 0 q ∷ at 1 q ∷ at 2 q ∷ at 3 q ∷ at 4 q ∷ at 5 q ∷ at 6 q ∷ at 7 q ∷ at 8 q ∷ at 9 q ∷ at 10 q ∷ at 11 q ∷ at 12 q ∷ at 13 q ∷ at 14 q ∷ at 15 q ∷ []
unfolding words_of
sixteen q h = words_of_lem 16 0 q (omega arith)

-- ---- the row of pieces
module _ (q : List ℕ) (place r w : ℕ) (ps : List Tree) where
  abbrev x : Layout
  x = layout (at 2 q)

  abbrev t : ℕ
  t = token_of_row q

  abbrev e : List ℕ
  e = head_of_row q

  abbrev n : ℕ
  n = length (parts_dwords ps)

  abbrev Here : Type 0
  Here = Placed q place x.kind r (top_level ps) w (length (parts_words ps))

  pub size : length (dwords (pieces t e ps)) ≡ 1 + length e + n
  unfolding dwords
  size = omega (arith, length-append e (parts_dwords ps))

  abbrev test : Bool
  test = headed x t e n && head_taken x t e && eqb (length_of t e) (length (dwords (pieces t e ps))) && same q (instruction_row place r w (pieces t e ps))

  row_of : Pieces q n → Here → length q ≡ 16 → q ≡ instruction_row place r w (pieces t e ps)
  unfolding instruction_row
  row_of p h z =
      let c : layout (at 2 q) ≡ layout (code t) = ap layout p.code_is in
      let f = p.fields_are in
      let g = p.head in
      sixteen q z ∙ (rw (← c) (λ i.
      h.place_is i ∷ (p.dwords_are ∙ sym size) i ∷ p.code_is i ∷ h.kind_is i ∷ f.saturate_is i ∷ f.test_is i ∷ f.precise_is i ∷ f.field_is i ∷
      g.bits_are i ∷ g.first_is i ∷ g.second_is i ∷ g.third_is i ∷ h.row_is i ∷ h.operands_are i ∷ h.word_is i ∷ h.words_are i ∷ []))

  tests : Pieces q n → Here → length q ≡ 16 → test ≡ true
  unfolding headed
  tests p h z =
      let s : same q (instruction_row place r w (pieces t e ps)) ≡ true = ap (same q) (sym (row_of p h z)) ∙ same_refl q in
      rw (eq-eqb t _ p.token, p.head.risen, p.bounds, p.class, p.head.taken, eq-eqb _ _ (p.size ∙ sym size), s)

  -- words 8 to 11 by a layout
  record Shown (y : Layout) : Type 0 where
    s8 : at 8 q ≡ type_bits (extensions y e) + cond (long t) 8 0
    s9 : at 9 q ≡ bits 9 20 (of_type 1 (extensions y e))
    s10 : at 10 q ≡ of_type 2 (extensions y e) % 2 ^ 31
    s11 : at 11 q ≡ of_type 3 (extensions y e) % 2 ^ 31

  tested : test ≡ true → (Pieces q n) × Here
  unfolding headed instruction_row
  tested h =
      let h₁ = both _ (same q (instruction_row place r w (pieces t e ps))) h in
      let h₂ = both _ (eqb (length_of t e) (length (dwords (pieces t e ps)))) h₁.0 in
      let h₃ = both (headed x t e n) (head_taken x t e) h₂.0 in
      let h₄ = both _ (classed x.kind t n) h₃.0 in
      let h₅ = both _ (in_bounds x.field t) h₄.0 in
      let h₆ = both (eqb t (token_with (code t) (fields_of x t))) (rising 0 (extensions x e)) h₅.0 in
      let s : q ≡ instruction_row place r w (pieces t e ps) = same_eq q _ h₁.1 in
      let d : at 2 q ≡ code t = ap (at 2) s in
      let c : layout (code t) ≡ layout (at 2 q) = ap layout (sym d) in
      let f : Fielded q (fields_of x t) = subst (λ (y : Layout). Fielded q (fields_of y t)) c (record { saturate_is = ap (at 4) s; test_is = ap (at 5) s; precise_is = ap (at 6) s; field_is = ap (at 7) s }) in
      let g : Shown x = subst Shown c (record { s8 = ap (at 8) s; s9 = ap (at 9) s; s10 = ap (at 10) s; s11 = ap (at 11) s }) in
      let k : at 3 q ≡ x.kind = ap (at 3) s ∙ ap (λ (y : Layout). y.kind) c in (
        record {
          token = eqb-true t _ h₆.0;
          bounds = h₅.1;
          class = h₄.1;
          size = eqb-true _ _ h₂.1 ∙ size;
          dwords_are = ap (at 1) s ∙ size;
          code_is = d;
          fields_are = f;
          head = record { risen = h₆.1; taken = h₃.1; bits_are = g.s8; first_is = g.s9; second_is = g.s10; third_is = g.s11 };
        },
        record { place_is = ap (at 0) s; kind_is = k; row_is = ap (at 12) s; operands_are = ap (at 13) s; word_is = ap (at 14) s; words_are = ap (at 15) s },
      )

  pub confirmed : Pieces q n → Here → length q ≡ 16 → confirm_pieces q place r w t e ps ≡ just (pieces t e ps)
  unfolding confirm_pieces
  confirmed p h z = rw (tests p h z)

  pub unconfirmed : (Pieces q n → Here → ⊥) → confirm_pieces q place r w t e ps ≡ nothing
  unfolding confirm_pieces
  unconfirmed k = go test refl
    where
      go : (b : Bool) → test ≡ b → cond b (just (pieces t e ps)) nothing ≡ nothing
      go true z = let p = tested z in absurd (k p.0 p.1)
      go false z = refl

-- ---- an unread row
module _ (q : List ℕ) (place r w : ℕ) (ws : List ℕ) where
  abbrev There : Type 0
  There = Placed q place 0 r 0 w (length ws)

  abbrev Plain : Type 0
  Plain = Bare q (length ws) (code_of ws)

  same_unread : Plain → There → length q ≡ 16 → q ≡ unread_row place r w ws
  unfolding unread_row
  same_unread b h z =
      let f = b.no_fields in
      let g = b.no_chain in
      sixteen q z ∙ (λ i.
      h.place_is i ∷ b.dwords_are i ∷ b.code_is i ∷ h.kind_is i ∷ f.saturate_is i ∷ f.test_is i ∷ f.precise_is i ∷ f.field_is i ∷
      g.bits_are i ∷ g.no_first i ∷ g.no_second i ∷ g.no_third i ∷ h.row_is i ∷ h.operands_are i ∷ h.word_is i ∷ h.words_are i ∷ [])

  unread_same : q ≡ unread_row place r w ws → Plain × There
  unfolding unread_row
  unread_same s = (
    record {
      dwords_are = ap (at 1) s;
      code_is = ap (at 2) s;
      no_fields = record { saturate_is = ap (at 4) s; test_is = ap (at 5) s; precise_is = ap (at 6) s; field_is = ap (at 7) s };
      no_chain = record { bits_are = ap (at 8) s; no_first = ap (at 9) s; no_second = ap (at 10) s; no_third = ap (at 11) s };
    },
    record { place_is = ap (at 0) s; kind_is = ap (at 3) s; row_is = ap (at 12) s; operands_are = ap (at 13) s; word_is = ap (at 14) s; words_are = ap (at 15) s },
  )

  pub read_not : 0 < length ws → length_of (at 0 ws) (drop 1 ws) ≡ length ws → Plain → There → length q ≡ 16 → confirm_unread q place [] ws r w ≡ just (unread ws)
  unfolding confirm_unread
  read_not k n b h z =
      let s : same q (unread_row place r w ws) ≡ true = ap (same q) (sym (same_unread b h z)) ∙ same_refl q in
      rw (lt-ltb 0 (length ws) k, eq-eqb _ _ n, s)

  pub unread_not : (0 < length ws → length_of (at 0 ws) (drop 1 ws) ≡ length ws → Plain → There → ⊥) → confirm_unread q place [] ws r w ≡ nothing
  unfolding confirm_unread
  unread_not k = go (ltb 0 (length ws) && eqb (length_of (at 0 ws) (drop 1 ws)) (length ws) && same q (unread_row place r w ws)) refl
    where
      go : (b : Bool) → (ltb 0 (length ws) && eqb (length_of (at 0 ws) (drop 1 ws)) (length ws) && same q (unread_row place r w ws)) ≡ b → cond b (just (unread ws)) nothing ≡ nothing
      go true z =
          let a = both _ (same q (unread_row place r w ws)) z in
          let b = both (ltb 0 (length ws)) _ a.0 in
          let p = unread_same (same_eq q _ a.1) in
          absurd (k (ltb-true 0 (length ws) b.0) (eqb-true _ _ b.1) p.0 p.1)
      go false z = refl
