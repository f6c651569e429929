-- The next instruction of an accepted stream, and what writing it leaves.
use Prim.Native.Nat.{ℕ, zero, suc, ◌+◌, ◌*◌, ◌-◌, ◌≤◌, ◌<◌}
use mathlib.Core.Path.{◌≡◌, refl, sym, ap, ◌∙◌, subst}
use mathlib.Core.List.{List, [], ◌∷◌, ◌++◌}
use mathlib.Core.Option.{none, some}
use mathlib.Core.Bool.{Bool, true, false, not}
use lib.ListN.{length, get_or, take, drop, length-append}
use lib.Seq.{length-slice, slice}
use lib.Dec.{T, ltb, ltb→lt, nltb→le}
use native.Mathlib.Omega.{arith}
use borrow.Rule.Slice.PartMut.{put_mid}
use Rattle.format.specs.declared.Refusal.TheVariants.{OperandCount, Layout}
use Rattle.format.specs.Framing.{length_of, Framed, zero_length, past_end, instruction}
use Rattle.format.specs.Instructions.{Instruction, Reading, ok, miscounted, inexact, read}
use Rattle.format.specs.Instructions as ins
use Rattle.format.specs.Refusals.{either, kept, first_pass, second_pass, readings}
use Rattle.format.specs.Rows.{parts_rows, parts_words, parts_table, parts, instruction_row, instruction_rows, all_parts}
use Rattle.format.proofs.Dwords.{impossible}
use Rattle.format.proofs.Instructions.{kept_ok, read_restores}
use Rattle.format.proofs.Rows.{row_length, rows_append, words_append, table_append, parts_length, instruction_fits}
use Rattle.stream.proofs.Frames.{frame_end, frame_zero, frame_past, frame_next}
use Rattle.operand_rows.specs.Writes.{Over}
use Rattle.operand_rows.proofs.Lists.{back, over_none, over_more, over_length}
use Rattle.instruction_write.specs.declared.Sizes.{Sizes}
use Rattle.instruction_write.specs.Writes.{Ready, Stored}
use Rattle.stream_write.specs.declared.Mark.{Mark}
use Rattle.stream_write.specs.Writing.{stream, rest, Writing, Left, Toward}

module _ (c : ℕ) (m : Bool) where
  -- an instruction that neither pass refuses
  record Taken (at : ℕ) (i : List ℕ) (f : Framed) : Type 0 where
    one : Instruction
    is : read c m i ≡ ok one
    first : first_pass c m (at + length i) f ≡ none
    second : second_pass c m (at + length i) f ≡ none
    same : readings c m (instruction i f) ≡ one ∷ readings c m f

  taken : (at : ℕ) (i : List ℕ) (f : Framed) → first_pass c m at (instruction i f) ≡ none → second_pass c m at (instruction i f) ≡ none → Taken at i f
  unfolding first_pass second_pass readings
  taken at i f p q = go (read c m i) refl p q
    where
      go : (x : Reading) → read c m i ≡ x → either x (first_pass c m (at + length i) f) (some (OperandCount (4 * at))) (first_pass c m (at + length i) f) ≡ none →
          either x (second_pass c m (at + length i) f) (second_pass c m (at + length i) f) (some (Layout (4 * at))) ≡ none → Taken at i f
      go (ok j) e p q = record { one = j; is = e; first = p; second = q; same = ap (λ (x : Reading). kept x (readings c m f)) e }
      go miscounted e p q = impossible (cc)
      go inexact e p q = impossible (cc)

  not_zero : {A : Type 0} (at : ℕ) → first_pass c m at zero_length ≡ none → A
  unfolding first_pass
  not_zero at e = impossible (cc)

  not_past : {A : Type 0} (at : ℕ) → first_pass c m at past_end ≡ none → A
  unfolding first_pass
  not_past at e = impossible (cc)

  module _ (ds : List ℕ) where
    -- the next instruction of a stream that is accepted from here on
    pub record Ahead (at n : ℕ) : Type 0 where
      pub some : 0 < n
      pub inside : at + n ≤ length ds
      pub one : Instruction
      pub is : read c m (slice at (at + n) ds) ≡ ok one
      pub first : first_pass c m (at + n) (stream c m ds (at + n)) ≡ none
      pub second : second_pass c m (at + n) (stream c m ds (at + n)) ≡ none
      pub same : rest c m ds at ≡ one ∷ rest c m ds (at + n)

    module _ (at n : ℕ) (h : at < length ds) (e : n ≡ length_of (get_or ds at 0) (drop (suc at) ds)) (p : first_pass c m at (stream c m ds at) ≡ none) (q : second_pass c m at (stream c m ds at) ≡ none) where
      here : 0 < n → n ≤ length ds - at → Ahead at n
      here z k =
          let i : List ℕ = slice at (at + n) ds in
          let f : stream c m ds at ≡ instruction i (stream c m ds (at + n)) = frame_next ds at n h e z k in
          let t : Taken at i (stream c m ds (at + n)) = taken at i _ (ap (λ (x : Framed). first_pass c m at x) (sym f) ∙ p) (ap (λ (x : Framed). second_pass c m at x) (sym f) ∙ q) in
          let l : at + length i ≡ at + n = omega (arith, length-slice at (at + n) ds (omega arith)) in
          record {
            some = z;
            inside = omega arith;
            one = t.one;
            is = t.is;
            first = ap (λ (x : ℕ). first_pass c m x (stream c m ds (at + n))) (sym l) ∙ t.first;
            second = ap (λ (x : ℕ). second_pass c m x (stream c m ds (at + n))) (sym l) ∙ t.second;
            same = ap (readings c m) f ∙ t.same;
          }

      pub ahead : Ahead at n
      ahead = go n refl
        where
          fits : 0 < n → (b : Bool) → ltb (length ds - at) n ≡ b → Ahead at n
          fits z true t = not_past at (ap (λ (x : Framed). first_pass c m at x) (sym (frame_past ds at n h e z (ltb→lt _ _ (subst T (sym t) tt)))) ∙ p)
          fits z false t = here z (nltb→le _ _ (subst (λ (b : Bool). T (not b)) (sym t) tt))

          go : (k : ℕ) → n ≡ k → Ahead at n
          go zero z = not_zero at (ap (λ (x : Framed). first_pass c m at x) (sym (frame_zero ds at n h e z)) ∙ p)
          go (suc k) z = fits (omega arith) (ltb (length ds - at) n) refl

-- the sums of a list that begins with an instruction
rows_more : (i : Instruction) (l : List Instruction) → parts_rows (all_parts (i ∷ l)) ≡ parts_rows (parts i) + parts_rows (all_parts l)
unfolding all_parts
rows_more i l = rows_append (parts i) (all_parts l)

words_more : (i : Instruction) (l : List Instruction) → parts_words (all_parts (i ∷ l)) ≡ parts_words (parts i) ++ parts_words (all_parts l)
unfolding all_parts
words_more i l = words_append (parts i) (all_parts l)

table_more : (r w : ℕ) (i : Instruction) (l : List Instruction) → parts_table r w (all_parts (i ∷ l)) ≡ parts_table r w (parts i) ++ parts_table (r + parts_rows (parts i)) (w + length (parts_words (parts i))) (all_parts l)
unfolding all_parts
table_more r w i l = table_append r w (parts i) (all_parts l)

instruction_more : (at r w : ℕ) (i : Instruction) (l : List Instruction) → instruction_rows at r w (i ∷ l) ≡ instruction_row at r w i ++ instruction_rows (at + 4 * length (ins.dwords i)) (r + parts_rows (parts i)) (w + length (parts_words (parts i))) l
unfolding instruction_rows
instruction_more at r w i l = refl

module _ {c : ℕ} {m : Bool} {ds : List ℕ} {s : Mark} {is os ws n : ℕ} (w : Writing c m ds s is os ws) (a : Ahead c m ds s.at n) where
  abbrev after : List Instruction
  after = rest c m ds (s.at + n)

  dwords_one : length (ins.dwords a.one) ≡ n
  dwords_one = ap length (kept_ok (read_restores c m (slice s.at (s.at + n) ds)) a.is) ∙ omega (arith, length-slice s.at (s.at + n) ds a.inside)

  pub one_fits : parts_rows (parts a.one) + length (parts_words (parts a.one)) ≤ n
  one_fits = omega (arith, instruction_fits a.one, dwords_one)

  rows_are : length (rest c m ds s.at) ≡ 1 + length after
  rows_are = ap length a.same ∙ omega arith

  operands_are : parts_rows (all_parts (rest c m ds s.at)) ≡ parts_rows (parts a.one) + parts_rows (all_parts after)
  operands_are = ap (λ (l : List Instruction). parts_rows (all_parts l)) a.same ∙ rows_more a.one after

  words_are : length (parts_words (all_parts (rest c m ds s.at))) ≡ length (parts_words (parts a.one)) + length (parts_words (all_parts after))
  words_are = ap (λ (l : List Instruction). length (parts_words (all_parts l))) a.same ∙ ap length (words_more a.one after) ∙ length-append (parts_words (parts a.one)) _

  -- there is room for the next one in what is left of each pool
  pub ready : (part : List ℕ) → part ≡ slice s.at (s.at + n) ds → {i o v : ℕ} → i ≡ is - s.instructions * 16 → o ≡ os - s.operands * 16 → v ≡ ws - s.words → {at r x : ℕ} → at ≡ s.at * 4 → r ≡ s.operands → x ≡ s.words →
      Ready (read c m part) part i o v at r x
  ready part e {i} {o} {v} ei eo ev {at} {r} {x} ea er ex =
      let l : length part ≡ n = ap length e ∙ omega (arith, length-slice s.at (s.at + n) ds a.inside) in
      record {
        some = omega (arith, l, a.some);
        instruction = a.one;
        is = ap (λ (p : List ℕ). read c m p) e ∙ a.is;
        for_row = omega (arith, w.for_rows, rows_are);
        for_rows = omega (arith, w.for_operands, operands_are);
        for_words = omega (arith, w.for_words, words_are);
        at_fits = omega (arith, l, w.few, a.inside);
        row_fits = omega (arith, w.few, w.fits, a.inside, one_fits);
        word_fits = omega (arith, w.few, w.fits, a.inside, one_fits);
      }

  -- past it
  pub written : {t : Mark} → t.at ≡ s.at + n → t.instructions ≡ s.instructions + 1 → t.operands ≡ s.operands + parts_rows (parts a.one) → t.words ≡ s.words + length (parts_words (parts a.one)) → Writing c m ds t is os ws
  written {t} ea ei eo ew = record {
    within = omega (arith, a.inside);
    few = w.few;
    counted = omega (arith, w.counted, a.some);
    fits = omega (arith, w.fits, one_fits);
    first = rw ea a.first;
    second = rw ea a.second;
    for_rows = rw ea (omega (arith, w.for_rows, rows_are));
    for_operands = rw ea (omega (arith, w.for_operands, operands_are));
    for_words = rw ea (omega (arith, w.for_words, words_are));
  }

over_as : (xs ys : List ℕ) (k j : ℕ) (l p : List ℕ) → k ≡ j → l ≡ p → Over k l xs ys → Over j p xs ys
over_as xs ys k j l p e f o = subst (λ (x : ℕ). Over x p xs ys) e (subst (λ (x : List ℕ). Over k x xs ys) f o)

-- what was written of the next one, and what is written past it, is what is left from here on
module _ {c : ℕ} {m : Bool} {ds : List ℕ} {s : Mark} {n : ℕ} (is os ws : List ℕ) (w : Writing c m ds s (length is) (length os) (length ws)) (a : Ahead c m ds s.at n)
    {t : Mark} (ea : t.at ≡ s.at + n) (ei : t.instructions ≡ s.instructions + 1) (eo : t.operands ≡ s.operands + parts_rows (parts a.one)) (ew : t.words ≡ s.words + length (parts_words (parts a.one)))
    {at r v : ℕ} (fa : at ≡ s.at * 4) (fr : r ≡ s.operands) (fv : v ≡ s.words) {x : Sizes} {is₁ os₁ ws₁ : List ℕ}
    (st : Stored a.one at r v (take (length is - s.instructions * 16) (drop (s.instructions * 16) is)) (take (length os - s.operands * 16) (drop (s.operands * 16) os)) (take (length ws - s.words) (drop s.words ws)) x is₁ os₁ ws₁) where
  abbrev is' : List ℕ
  is' = put_mid (s.instructions * 16) (length is - s.instructions * 16) is is₁

  abbrev os' : List ℕ
  os' = put_mid (s.operands * 16) (length os - s.operands * 16) os os₁

  abbrev ws' : List ℕ
  ws' = put_mid s.words (length ws - s.words) ws ws₁

  row_over : Over (s.instructions * 16) (instruction_row at r v a.one) is is'
  row_over = back (s.instructions * 16) is is₁ (instruction_row at r v a.one) 16 (sym (row_length at r v a.one)) st.row_put

  table_over : Over (s.operands * 16) (parts_table r v (parts a.one)) os os'
  table_over = back (s.operands * 16) os os₁ (parts_table r v (parts a.one)) (16 * parts_rows (parts a.one)) (sym (parts_length r v (parts a.one))) st.put.rows_put

  words_over : Over s.words (parts_words (parts a.one)) ws ws'
  words_over = back s.words ws ws₁ (parts_words (parts a.one)) (length (parts_words (parts a.one))) refl st.put.words_put

  row_room : s.instructions * 16 + length (instruction_row at r v a.one) ≤ length is
  row_room = omega (arith, row_length at r v a.one, w.for_rows, rows_are w a)

  table_room : s.operands * 16 + length (parts_table r v (parts a.one)) ≤ length os
  table_room = omega (arith, parts_length r v (parts a.one), w.for_operands, operands_are w a)

  words_room : s.words + length (parts_words (parts a.one)) ≤ length ws
  words_room = omega (arith, w.for_words, words_are w a)

  rows_same : instruction_row at r v a.one ++ instruction_rows (4 * t.at) t.operands t.words (rest c m ds t.at) ≡ instruction_rows (4 * s.at) s.operands s.words (rest c m ds s.at)
  rows_same =
      let p : at ≡ 4 * s.at = omega (arith, fa) in
      let q : 4 * t.at ≡ 4 * s.at + 4 * length (ins.dwords a.one) = omega (arith, ea, dwords_one w a) in
      (λ k. instruction_row (p k) (fr k) (fv k) a.one ++ instruction_rows (q k) (eo k) (ew k) (rest c m ds (ea k))) ∙
      sym (instruction_more (4 * s.at) s.operands s.words a.one (rest c m ds (s.at + n))) ∙ ap (instruction_rows (4 * s.at) s.operands s.words) (sym a.same)

  table_same : parts_table r v (parts a.one) ++ parts_table t.operands t.words (all_parts (rest c m ds t.at)) ≡ parts_table s.operands s.words (all_parts (rest c m ds s.at))
  table_same =
      (λ k. parts_table (fr k) (fv k) (parts a.one) ++ parts_table (eo k) (ew k) (all_parts (rest c m ds (ea k)))) ∙
      sym (table_more s.operands s.words a.one (rest c m ds (s.at + n))) ∙ ap (λ (l : List Instruction). parts_table s.operands s.words (all_parts l)) (sym a.same)

  words_same : parts_words (parts a.one) ++ parts_words (all_parts (rest c m ds t.at)) ≡ parts_words (all_parts (rest c m ds s.at))
  words_same =
      (λ k. parts_words (parts a.one) ++ parts_words (all_parts (rest c m ds (ea k)))) ∙
      sym (words_more a.one (rest c m ds (s.at + n))) ∙ ap (λ (l : List Instruction). parts_words (all_parts l)) (sym a.same)

  pub toward : Toward c m ds s is os ws t is' os' ws'
  toward x y z l = record {
    rows_put = over_as is x (s.instructions * 16) (16 * s.instructions) _ _ (omega arith) rows_same (over_more _ (16 * t.instructions) (instruction_row at r v a.one) _ is is' x row_room (omega (arith, ei, row_length at r v a.one)) row_over l.rows_put);
    operands_put = over_as os y (s.operands * 16) (16 * s.operands) _ _ (omega arith) table_same (over_more _ (16 * t.operands) (parts_table r v (parts a.one)) _ os os' y table_room (omega (arith, eo, parts_length r v (parts a.one))) table_over l.operands_put);
    words_put = over_as ws z s.words s.words _ _ refl words_same (over_more _ t.words (parts_words (parts a.one)) _ ws ws' z words_room ew words_over l.words_put);
  }

  pub same_lengths : (length is' ≡ length is) × (length os' ≡ length os) × (length ws' ≡ length ws)
  same_lengths =
      (over_length _ (instruction_row at r v a.one) is is' row_room row_over, over_length _ (parts_table r v (parts a.one)) os os' table_room table_over, over_length _ (parts_words (parts a.one)) ws ws' words_room words_over)

  pub moved : Writing c m ds t (length is') (length os') (length ws')
  moved =
      subst (λ (k : ℕ). Writing c m ds t k (length os') (length ws')) (sym same_lengths.0)
      (subst (λ (k : ℕ). Writing c m ds t (length is) k (length ws')) (sym same_lengths.1)
      (subst (λ (k : ℕ). Writing c m ds t (length is) (length os) k) (sym same_lengths.2) (written w a ea ei eo ew)))

-- nothing is left at the end
module _ (c : ℕ) (m : Bool) (ds : List ℕ) (s : Mark) (h : length ds ≤ s.at) where
  none_left : rest c m ds s.at ≡ []
  unfolding readings
  none_left = ap (readings c m) (frame_end (length ds) ds s.at h)

  pub finished : (is os ws : List ℕ) → Left c m ds s is os ws is os ws
  unfolding instruction_rows all_parts parts_table parts_words
  finished is os ws = record {
    rows_put = rw none_left (over_none (16 * s.instructions) is);
    operands_put = rw none_left (over_none (16 * s.operands) os);
    words_put = rw none_left (over_none s.words ws);
  }
