-- Laws of writing an instruction: what stands in front of its operands, its operands, and the words behind theirs.
use Prim.Native.Nat.{ℕ, ◌+◌, ◌-◌, ◌*◌, ◌/◌, ◌^◌, ◌<◌, ◌≤◌}
use mathlib.Core.Bool.{Bool, true}
use mathlib.Core.Path.{◌≡◌, sym, ap, ◌∙◌}
use mathlib.Core.List.{List, [], ◌∷◌, ◌++◌, append_assoc, append-nil}
use mathlib.Core.Option.{Option, some as just}
use native.Mathlib.Nat.{add-zero}
use native.Mathlib.Omega.{arith}
use lib.ListN.{length, take, drop, length-append, length-drop}
use lib.Seq.{drop-drop, take_all, length-take-le}
use lib.Dec.{eqb}
use borrow.Author.Tests.{eq-eqb, ne_eqb}
use Rattle.std.specs.Int.{from_bool}
use Rattle.format.specs.Dwords.{bytes_of}
use Rattle.format.specs.Operands as op
use Rattle.format.specs.Operands.{Tree}
use Rattle.format.specs.Instructions.{Instruction, unread, pieces, dwords}
use Rattle.format.specs.Rows.{tree_rows, parts_rows, parts_words, top_level, parts}
use Rattle.format.specs.Encoder.{at, token_of_row, head_of_row}
use Rattle.output.specs.Puts.{put, Headed}
use Rattle.output.proofs.Puts.{headed_none, dwords_more}
use Rattle.operand_emit.specs.declared.Place.{Place}
use Rattle.instruction_emit.specs.Emits.{Is, Ready, Emitted, Fits, head_of, before, lead_of, front_of, FrontReady, Fronted, Bare}
use Rattle.instruction_emit.proofs.Heads.{from_is, bare_read, bare_120, bare_room, headed_bare}
use Rattle.instruction_emit.proofs.Opened.{Known, Opened, words_alone, known, opened}
use Rattle.instruction_emit.proofs.Runs.{confirm_run, run_at, trees_in, RunReady, Ran}

-- ---- what stands in front of the operands
module _ (q ws : List ℕ) (from : Place) (out : List ℕ) (g : FrontReady q (length ws) from.word from.at (length out)) where
  pub front_none : at 3 q ≡ 0 → Fronted q (drop from.word ws) from.word from.at out from out
  front_none h = record {
    word_is = rw (eq-eqb (at 3 q) 0 h) (sym (add-zero from.word));
    headed = rw (eq-eqb (at 3 q) 0 h) (headed_none from.at out);
  }

  module _ {b : Bool} (d : Bare q b) (hb : b ≡ true) where
    bare_fits : Fits q
    bare_fits = g.fits (bare_read q d hb)

    pub bare_small : at 2 q + at 1 q * 16777216 < 2 ^ 32
    bare_small = bare_room q d hb bare_fits

    pub front_bare : {out₁ : List ℕ} → out₁ ≡ put (4 * from.at) (bytes_of ((at 2 q + at 1 q * 16777216) ∷ [])) out →
        Fronted q (drop from.word ws) from.word from.at out (record { operand = from.operand; word = from.word; at = from.at + 1 }) out₁
    front_bare e =
        let n : before (at 2 q) ≡ 0 = rw (ne_eqb (at 2 q) 120 (bare_120 q d hb bare_fits)) in
        record {
          word_is = rw (ne_eqb (at 3 q) 0 (bare_read q d hb), n) (sym (add-zero from.word));
          headed = rw (ne_eqb (at 3 q) 0 (bare_read q d hb), n, append-nil (head_of q)) (headed_bare q d hb bare_fits from.at out e);
        }

  module _ (h : at 3 q ≡ 0 → ⊥) {next : ℕ} {out₁ : List ℕ} (d : Headed (head_of q) from.at out next out₁) {k : ℕ} (ek : k ≡ from_bool (eqb (at 2 q) 120)) where
    before_is : k ≡ before (at 2 q)
    before_is = ek ∙ from_is (eqb (at 2 q) 120)

    pub fronted : {to : Place} {out₂ : List ℕ} → out₂ ≡ put (4 * next) (bytes_of (take k (drop from.word ws))) out₁ → to ≡ record { operand = from.operand; word = from.word + k; at = next + k } →
        Fronted q (drop from.word ws) from.word from.at out to out₂
    fronted {to} {out₂} e et =
        let t : List ℕ = take (before (at 2 q)) (drop from.word ws) in
        let lt : length t ≡ before (at 2 q) = length-take-le (before (at 2 q)) (drop from.word ws) (omega (arith, g.words_there h, length-drop from.word ws)) in
        let p : out₂ ≡ put (4 * next) (bytes_of t) out₁ = rw before_is at e in
        rw et (record {
          word_is = rw (ne_eqb (at 3 q) 0 h) (ap (λ (j : ℕ). from.word + j) before_is);
          headed = rw (ne_eqb (at 3 q) 0 h) (record {
            next_is = omega (arith, d.next_is, length-append (head_of q) t, lt, before_is);
            output_is = dwords_more from.at next (head_of q) t out (omega (arith, g.room h)) d.next_is d.output_is p;
          });
        })

-- ---- the dwords of operands, and the words behind theirs
abbrev rest : List ℕ → List Tree → List ℕ
rest ws xs = op.parts_dwords xs ++ drop (length (parts_words xs)) ws

rest_length : (ws : List ℕ) (xs : List Tree) → length (parts_words xs) ≤ length ws → length (rest ws xs) + length (parts_words xs) ≡ length (op.parts_dwords xs) + length ws
rest_length ws xs h =
    let l : List ℕ = drop (length (parts_words xs)) ws in
    omega (arith, length-append (op.parts_dwords xs) l, length-drop (length (parts_words xs)) ws)

-- ---- all of an instruction
module _ (q rs ws : List ℕ) (operand word place : ℕ) (out : List ℕ) (h : word ≤ length ws) where
  -- what stands in front, operands, and the words left
  record Laid (i : Instruction) : Type 0 where
    trees : List Tree
    run : run_at (at 13 q) rs ws operand (word + lead_of q) ≡ just trees
    lead_there : word + lead_of q ≤ length ws
    words_there : length (parts_words trees) ≤ length (drop (word + lead_of q) ws)
    dwords_are : dwords i ≡ front_of q (drop word ws) ++ rest (drop (word + lead_of q) ws) trees
    rows_are : parts_rows (parts i) ≡ parts_rows trees

  laid_words : at 3 q ≡ 0 → at 13 q ≡ 0 → Laid (unread (drop word ws))
  unfolding confirm_run dwords parts parts_rows parts_words tree_rows op.parts_dwords
  laid_words e n =
      let k : lead_of q ≡ 0 = rw (eq-eqb (at 3 q) 0 e) in
      let w : word + lead_of q ≡ word = omega (arith, k) in
      let f : front_of q (drop word ws) ≡ [] = rw (eq-eqb (at 3 q) 0 e) in
      record { trees = []; run = rw n; lead_there = rw w h; words_there = omega arith; dwords_are = rw (f, w); rows_are = omega arith }

  laid_pieces : (ps : List Tree) → Known q (drop operand rs) (drop word ws) (operand / 16) word ps → Laid (pieces (token_of_row q) (head_of_row q) ps)
  unfolding dwords parts
  laid_pieces ps e =
      let k : ℕ = before (at 2 q) in
      let a = e.around in
      let c : top_level ps ≡ at 13 q = sym e.count in
      let n : drop k (drop word ws) ≡ drop (word + k) ws = drop-drop k word ws in
      let m : drop (k + length (parts_words a.trees)) (drop word ws) ≡ drop (length (parts_words a.trees)) (drop (word + k) ws) =
      sym (drop-drop (length (parts_words a.trees)) k (drop word ws)) ∙ ap (drop (length (parts_words a.trees))) n in
      let z : lead_of q ≡ k = rw (ne_eqb (at 3 q) 0 e.is_read) in
      let f : front_of q (drop word ws) ≡ head_of q ++ take k (drop word ws) = rw (ne_eqb (at 3 q) 0 e.is_read) in
      record {
        trees = a.trees;
        run = rw z (rw (c, n) at a.run);
        lead_there = omega (arith, z, a.words_there, length-drop word ws);
        words_there = omega (arith, z, a.words_there, length-drop word ws, length-drop (word + lead_of q) ws);
        dwords_are = rw (f, z) (ap (λ (l : List ℕ). head_of q ++ l) (a.dwords_are ∙ ap (λ (l : List ℕ). take k (drop word ws) ++ (op.parts_dwords a.trees ++ l)) m) ∙ sym (append_assoc (head_of q) (take k (drop word ws)) (rest (drop (word + k) ws) a.trees)));
        rows_are = a.rows_are;
      }

  laid : {i : Instruction} → Opened q (drop operand rs) (drop word ws) (operand / 16) word i → Laid i
  laid (words_alone e n) = laid_words e n
  laid (known {ps = ps} e) = laid_pieces ps e

  module _ (g : Ready q (drop operand rs) (drop word ws) operand word place (length out)) where
    open_is : (i : Instruction) → Is q (drop operand rs) (drop word ws) operand word i → Opened q (drop operand rs) (drop word ws) (operand / 16) word i
    open_is i k = opened q (drop operand rs) (drop word ws) operand word i g.words_are k

    all : Laid g.instruction
    all = laid (open_is g.instruction g.is)

    all_length : length (dwords g.instruction) ≡ length (front_of q (drop word ws)) + length (rest (drop (word + lead_of q) ws) all.trees)
    all_length = ap length all.dwords_are ∙ length-append (front_of q (drop word ws)) (rest (drop (word + lead_of q) ws) all.trees)

    fits_of : {i : Instruction} → Opened q (drop operand rs) (drop word ws) (operand / 16) word i → (at 3 q ≡ 0 → ⊥) → Fits q
    fits_of (words_alone e n) z = absurd (z e)
    fits_of (known e) z = e.fits

    -- a row that was read
    module _ (z : at 3 q ≡ 0 → ⊥) where
      lead_within : word + before (at 2 q) ≤ length ws
      lead_within = rw (ne_eqb (at 3 q) 0 z) at all.lead_there

      front_length : length (front_of q (drop word ws)) ≡ length (head_of q) + before (at 2 q)
      front_length =
          let t = length-take-le (before (at 2 q)) (drop word ws) (omega (arith, lead_within, length-drop word ws)) in
          rw (ne_eqb (at 3 q) 0 z) (length-append (head_of q) (take (before (at 2 q)) (drop word ws)) ∙ ap (λ (j : ℕ). length (head_of q) + j) t)

    pub front_ready : FrontReady q (length ws) word place (length out)
    front_ready = record {
      fits = fits_of (open_is g.instruction g.is);
      words_there = lead_within;
      room = λ z. omega (arith, g.room, all_length, front_length z);
    }

    module _ {f : Place} {out₁ : List ℕ} (d : Fronted q (drop word ws) word place out f out₁) (ef : f.operand ≡ operand) (l₁ : length out₁ ≡ length out) where
      abbrev o : Option (List Tree)
      o = run_at (at 13 q) rs ws f.operand f.word

      o_is : o ≡ run_at (at 13 q) rs ws operand (word + lead_of q)
      o_is = rw (ef, d.word_is)

      within_front : (f.word + length (parts_words all.trees) ≤ length ws) × (f.at + length (op.parts_dwords all.trees) + (length ws - (f.word + length (parts_words all.trees))) ≡ place + length (dwords g.instruction))
      within_front =
          let l = rest_length (drop (word + lead_of q) ws) all.trees all.words_there in
          let n = length-drop (word + lead_of q) ws in
          (omega (arith, d.word_is, all.lead_there, all.words_there, n), omega (arith, d.word_is, all.lead_there, all.words_there, n, l, all_length, d.headed.next_is))

      pub run_ready : RunReady o f.at (length out₁)
      run_ready = record { trees = all.trees; is = o_is ∙ all.run; room = omega (arith, within_front.1, g.room) }

      module _ {x : Place} {out₂ : List ℕ} (r : Ran o f.operand f.word f.at out₁ x out₂) where
        trees_are : {ts : List Tree} → run_at (at 13 q) rs ws operand (word + lead_of q) ≡ just ts → trees_in o ≡ ts
        trees_are e = ap trees_in (o_is ∙ e)

        word_is : x.word ≡ f.word + length (parts_words all.trees)
        word_is = omega (arith, r.word_is, ap (λ (l : List Tree). length (parts_words l)) (trees_are all.run))

        at_is : x.at ≡ f.at + length (op.parts_dwords all.trees)
        at_is = omega (arith, r.at_is, ap (λ (l : List Tree). length (op.parts_dwords l)) (trees_are all.run))

        pub within : x.word ≤ length ws
        within = omega (arith, word_is, within_front.0)

        pub left_room : (n : ℕ) → n ≡ length out → 4 * (x.at + (length ws - x.word)) ≤ n
        left_room n e = omega (arith, word_is, at_is, within_front.1, g.room)

        pub emitted : {to : Place} {out₃ : List ℕ} → out₃ ≡ put (4 * x.at) (bytes_of (take (length ws - x.word) (drop x.word ws))) out₂ → to ≡ record { operand = x.operand; word = x.word + (length ws - x.word); at = x.at + (length ws - x.word) } →
            Emitted q (drop operand rs) (drop word ws) operand word place out to out₃
        emitted {to} {out₃} e et i y =
            let b = laid (open_is i y) in
            let t : trees_in o ≡ b.trees = trees_are b.run in
            let u : all.trees ≡ b.trees = sym (trees_are all.run) ∙ t in
            let front : List ℕ = front_of q (drop word ws) in
            let own : List ℕ = op.parts_dwords b.trees in
            let left : List ℕ = drop (length (parts_words b.trees)) (drop (word + lead_of q) ws) in
            let ew : x.word ≡ word + lead_of q + length (parts_words b.trees) = omega (arith, d.word_is, r.word_is, ap (λ (l : List Tree). length (parts_words l)) t) in
            let ea : x.at ≡ f.at + length own = omega (arith, r.at_is, ap (λ (l : List Tree). length (op.parts_dwords l)) t) in
            let el : take (length ws - x.word) (drop x.word ws) ≡ left = take_all (length ws - x.word) (drop x.word ws) (omega (arith, length-drop x.word ws)) ∙ ap (λ (n : ℕ). drop n ws) ew ∙ sym (drop-drop (length (parts_words b.trees)) (word + lead_of q) ws) in
            let p : out₂ ≡ put (4 * f.at) (bytes_of own) out₁ = rw t at r.output_is in
            let s : out₃ ≡ put (4 * x.at) (bytes_of left) out₂ = rw el at e in
            let z : out₃ ≡ put (4 * f.at) (bytes_of (own ++ left)) out₁ = dwords_more f.at x.at own left out₁ (omega (arith, within_front.1, g.room, l₁, ap (λ (l : List Tree). length (op.parts_dwords l)) u)) ea p s in
            rw et (record {
              output_is = rw b.dwords_are (dwords_more place f.at front (own ++ left) out (omega (arith, g.room, all_length)) d.headed.next_is d.headed.output_is z);
              operand_is = omega (arith, ef, r.operand_is, ap parts_rows t, b.rows_are);
              at_is = omega (arith, ea, d.headed.next_is, ap length b.dwords_are, length-append front (own ++ left), length-append own left, ap length el, length-drop x.word ws, length-take-le (length ws - x.word) (drop x.word ws) (omega (arith, length-drop x.word ws)));
            })
