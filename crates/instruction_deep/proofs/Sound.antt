-- What is confirmed is an instruction that is read: its row, its operands' rows and its words are these.
use Prim.Native.Nat.{ℕ, ◌*◌}
use mathlib.Core.Path.{◌≡◌, refl, sym, ap, ap₂, ◌∙◌, subst}
use mathlib.Core.Bool.{Bool, true, false, cond, ◌&&◌}
use mathlib.Core.List.{List, [], ◌∷◌, ◌++◌, append-nil, append_assoc}
use mathlib.Core.Option.{some as just}
use native.Mathlib.Omega.{arith}
use lib.ListN.{length, get_or, drop}
use lib.Seq.{drop-length}
use lib.Dec.{ltb, eqb}
use borrow.Author.Tests.{eqb-true}
use Rattle.format.specs.Dwords.{bits, follows, got, dword, none_left}
use Rattle.format.specs.Framing.{code, code_of, sized, length_of}
use Rattle.format.specs.Declarations.{Layout, layout, chained}
use Rattle.format.specs.Operands.{Tree, parts_dwords, exact_parts}
use Rattle.format.specs.Instructions.{Instruction, unread, pieces, ok, read_items, split, exact_class, exact_pieces, checked, judged, read, dwords}
use Rattle.format.specs.Rows.{tree_words, tree_rows, tree_table, parts_words, parts_rows, parts_table, parts, unread_row, instruction_row}
use Rattle.format.specs.Encoder.{at, token_of_row, head_of_row, same}
use Rattle.format.proofs.Dwords.{impossible, both}
use Rattle.format.proofs.Rows.{row_length}
use Rattle.format.proofs.Instructions.{kept_ok}
use Rattle.format.proofs.Remade.{one_dword_lem, Exact, Sound, exact_read, read_sound, row_words}
use Rattle.format.proofs.Room.{Fit, also, fit_append, fit_all}
use Rattle.instruction_fields.specs.Fields.{headed}
use Rattle.operand_deep.proofs.Every.{Every, unmet, met, every_then, every_if, every_of}
use Rattle.operand_deep.proofs.Lists.{InFront, front_none}
use Rattle.format.proofs.Encoder.{same_eq}
use Rattle.instruction_deep.specs.Confirm.{linked, head_taken, confirm_pieces, confirm_known, confirm_unread, confirm_instruction}
use Rattle.instruction_deep.proofs.Layouts.{tail_last_lem, token_below}
use Rattle.instruction_deep.proofs.Taken.{Taken, sound_items, head_reads}
use Rattle.instruction_deep.proofs.Fits.{fit_parts, fit_head}

-- an instruction whose row is q, whose operands' rows stand in front, whose words are all these; it is read from its dwords, whatever follows them
pub record Confirmed (c : ℕ) (m : Bool) (q : List ℕ) (place : ℕ) (rs ws : List ℕ) (r w : ℕ) (i : Instruction) : Type 0 where
  pub row : q ≡ instruction_row place r w i
  pub rows : InFront (parts_table r w (parts i)) (16 * parts_rows (parts i)) rs
  pub words : ws ≡ parts_words (parts i)
  pub token : ℕ
  pub others : List ℕ
  pub dwords_are : dwords i ≡ token ∷ others
  pub reads : read c m (token ∷ others) ≡ ok i
  pub framed : (left : List ℕ) → length (token ∷ others) ≡ length_of token (others ++ left)
  pub fit : Fit q → Fit ws → Fit (dwords i)

-- ---- an instruction of a known code
module _ (t : ℕ) (e : List ℕ) (ps : List Tree) where
  exact_of : (x : Layout) → headed x t e (length (parts_dwords ps)) ≡ true → exact_parts ps ≡ true → exact_pieces x t e ps ≡ true
  unfolding headed exact_pieces exact_class
  exact_of x h k = ap₂ (λ (a b : Bool). a && b) h k

  pieces_read : (c : ℕ) (m : Bool) → ltb (code t) c ≡ true → head_taken (layout (code t)) t e ≡ true → read_items m (layout (code t)).items (parts_dwords ps) ≡ got ps [] → exact_pieces (layout (code t)) t e ps ≡ true →
      read c m (t ∷ (e ++ parts_dwords ps)) ≡ ok (pieces t e ps)
  unfolding read code_of split dword none_left judged checked
  pieces_read c m hc hh hr hx = rw (hc, head_reads (layout (code t)) t e (parts_dwords ps) hh, hr, hx)

-- its length is told by its own dwords
head_framed : (x : Layout) (t : ℕ) (e l : List ℕ) → head_taken x t e ≡ true → length_of t (e ++ l) ≡ length_of t e
unfolding head_taken length_of
head_framed x t e l h = go (sized t) h
  where
    go : (b : Bool) → cond b (eqb (length e) 1) (linked (chained x && follows t) e) ≡ true → cond b (get_or (e ++ l) 0 0) (bits 24 30 t) ≡ cond b (get_or e 0 0) (bits 24 30 t)
    go true h = ap (at 0) (one_dword_lem e l (eqb-true (length e) 1 h))
    go false h = refl

exact_in : {c t : ℕ} {e : List ℕ} {ps : List Tree} → Sound c (pieces t e ps) → Exact t e ps
exact_in (exact_read z x) = x

-- as many words as there are
whole : (p ws : List ℕ) → InFront p (length p) ws → length ws ≡ length p → ws ≡ p
whole p ws f n = f ∙ ap (λ (k : ℕ). p ++ drop k ws) (sym n) ∙ ap (λ (l : List ℕ). p ++ l) (drop-length ws) ∙ append-nil p

module _ (c : ℕ) (m : Bool) (q : List ℕ) (place : ℕ) (rs ws : List ℕ) (r w : ℕ) (n : length ws ≡ at 15 q) where
  code_is : (t : ℕ) (e : List ℕ) (ps : List Tree) → q ≡ instruction_row place r w (pieces t e ps) → at 2 q ≡ code t
  unfolding instruction_row
  code_is t e ps s = ap (at 2) s

  of_pieces : (t : ℕ) (e : List ℕ) (ps : List Tree) → ltb (code t) c ≡ true → Taken m (layout (code t)).items rs ws r w ps → headed (layout (code t)) t e (length (parts_dwords ps)) ≡ true → head_taken (layout (code t)) t e ≡ true →
      length_of t e ≡ length (dwords (pieces t e ps)) → q ≡ instruction_row place r w (pieces t e ps) → Confirmed c m q place rs ws r w (pieces t e ps)
  unfolding dwords parts
  of_pieces t e ps hc k hh ht hl s =
      let i : Instruction = pieces t e ps in
      let d : read c m (t ∷ (e ++ parts_dwords ps)) ≡ ok i = pieces_read t e ps c m hc ht k.reads (exact_of t e ps (layout (code t)) hh k.exact) in
      let x : Exact t e ps = exact_in (kept_ok (read_sound c m t (e ++ parts_dwords ps)) d) in
      let v : ws ≡ parts_words ps = whole (parts_words ps) ws k.words (n ∙ ap (at 15) s ∙ row_words place r w i) in
      let a : at 1 q ≡ length (dwords i) = unfold instruction_row in ap (at 1) s in
      record {
        row = s;
        rows = k.rows;
        words = v;
        token = t;
        others = e ++ parts_dwords ps;
        dwords_are = refl;
        reads = d;
        framed = λ left. sym (ap (length_of t) (append_assoc e (parts_dwords ps) left) ∙ head_framed (layout (code t)) t e (parts_dwords ps ++ left) ht ∙ hl);
        fit = λ f g.
            also t (token_below (code t) t (eqb-true t _ x.token))
            (fit_append (fit_head (layout (code t)) t e ht x.chain (rw (hl, ← a) (fit_all f 1 (omega (arith, ap length s, row_length place r w i))))) (fit_parts ps k.exact (subst Fit v g)));
      }

  sound_pieces : (t : ℕ) (e : List ℕ) (ps : List Tree) → ltb (at 2 q) c ≡ true → Taken m (layout (at 2 q)).items rs ws r w ps → Every (Confirmed c m q place rs ws r w) (confirm_pieces q place r w t e ps)
  unfolding confirm_pieces
  sound_pieces t e ps hc k =
      let x = layout (at 2 q) in
      let i : Instruction = pieces t e ps in
      let h : Bool = headed x t e (length (parts_dwords ps)) in
      let b : Bool = eqb (length_of t e) (length (dwords i)) in
      let y : Bool = same q (instruction_row place r w i) in
      every_if (h && head_taken x t e && b && y) _ _
      (λ z.
      let z₁ = both (h && head_taken x t e && b) y z in
      let z₂ = both (h && head_taken x t e) b z₁.0 in
      let z₃ = both h (head_taken x t e) z₂.0 in
      let s : q ≡ instruction_row place r w i = same_eq q (instruction_row place r w i) z₁.1 in
      let a = code_is t e ps s in
      met (of_pieces t e ps (rw a at hc) (rw a at k) (rw a at z₃.0) (rw a at z₃.1) (eqb-true (length_of t e) _ z₂.1) s))
      (λ z. unmet)

  sound_known : ltb (at 2 q) c ≡ true → Every (Confirmed c m q place rs ws r w) (confirm_known m q place rs ws r w)
  unfolding confirm_known
  sound_known hc = every_then (sound_items m (layout (at 2 q)).items (tail_last_lem (at 2 q)) rs ws r w) (λ ps k. sound_pieces (token_of_row q) (head_of_row q) ps hc k)

-- ---- an unread instruction: its length takes a dword that it has
unread_framed : (t : ℕ) (l left : List ℕ) → length_of t l ≡ length (t ∷ l) → length (t ∷ l) ≡ length_of t (l ++ left)
unfolding length_of
unread_framed t (x ∷ l) left h = sym h
unread_framed t [] left h = go (sized t) h
  where
    go : (b : Bool) → cond b 0 (bits 24 30 t) ≡ 1 → 1 ≡ cond b (get_or left 0 0) (bits 24 30 t)
    go true h = impossible (omega arith)
    go false h = sym h

module _ (c : ℕ) (m : Bool) (q : List ℕ) (place : ℕ) (rs : List ℕ) (r w : ℕ) where
  of_unread : (t : ℕ) (l : List ℕ) → ltb (at 2 q) c ≡ false → length_of t l ≡ length (t ∷ l) → q ≡ unread_row place r w (t ∷ l) → Confirmed c m q place rs (t ∷ l) r w (unread (t ∷ l))
  unfolding instruction_row parts parts_table parts_rows parts_words tree_table tree_rows tree_words dwords read
  of_unread t l hc hl s =
      let a : at 2 q ≡ code_of (t ∷ l) = unfold unread_row in ap (at 2) s in
      let k : ltb (code_of (t ∷ l)) c ≡ false = rw a at hc in
      record {
        row = s;
        rows = front_none rs;
        words = sym (append-nil _ ∙ append-nil (t ∷ l));
        token = t;
        others = l;
        dwords_are = refl;
        reads = rw k;
        framed = λ left. unread_framed t l left hl;
        fit = λ f g. g;
      }

  sound_unread : (ws : List ℕ) → ltb (at 2 q) c ≡ false → Every (Confirmed c m q place rs ws r w) (confirm_unread q place rs ws r w)
  unfolding confirm_unread
  sound_unread [] hc = unmet
  sound_unread (t ∷ l) hc = every_if (ltb 0 (length (t ∷ l)) && eqb (length_of t l) (length (t ∷ l)) && same q (unread_row place r w (t ∷ l))) _ _
      (λ z.
      let z₁ = both _ (same q (unread_row place r w (t ∷ l))) z in
      let z₂ = both (ltb 0 (length (t ∷ l))) (eqb (length_of t l) (length (t ∷ l))) z₁.0 in
      met (of_unread t l hc (eqb-true (length_of t l) _ z₂.1) (same_eq q _ z₁.1)))
      (λ z. unmet)

-- ---- either
sound_all : (c : ℕ) (m : Bool) (q : List ℕ) (place : ℕ) (rs ws : List ℕ) (r w : ℕ) → length ws ≡ at 15 q → Every (Confirmed c m q place rs ws r w) (confirm_instruction c m q place rs ws r w)
unfolding confirm_instruction
sound_all c m q place rs ws r w n = go (ltb (at 2 q) c) refl
  where
    go : (b : Bool) → ltb (at 2 q) c ≡ b → Every (Confirmed c m q place rs ws r w) (cond b (confirm_known m q place) (confirm_unread q place) rs ws r w)
    go true h = sound_known c m q place rs ws r w n h
    go false h = sound_unread c m q place rs r w ws h

-- what is confirmed
pub sound : (c : ℕ) (m : Bool) (q : List ℕ) (place : ℕ) (rs ws : List ℕ) (r w : ℕ) (i : Instruction) → length ws ≡ at 15 q → confirm_instruction c m q place rs ws r w ≡ just i → Confirmed c m q place rs ws r w i
sound c m q place rs ws r w i n e = every_of e (sound_all c m q place rs ws r w n)
