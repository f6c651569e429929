-- A walk over rows and words: past an instruction, and the end.
use Prim.Native.Nat.{ℕ, zero, suc, ◌+◌, ◌*◌, ◌-◌, ◌/◌, ◌^◌, ◌≤◌, ◌<◌}
use mathlib.Core.Path.{◌≡◌, refl, sym, ap, ◌∙◌}
use mathlib.Core.List.{List, [], ◌∷◌}
use mathlib.Core.Option.{Option as Maybe, none as nothing, some as just}
use mathlib.Core.Bool.{Bool, true, false, cond, ◌&&◌}
use lib.ListN.{length, get_or, take, drop, length-append, length-drop}
use lib.Seq.{drop-drop, take-nil, length-take-le}
use lib.Dec.{leb, eqb, lit<}
use native.Mathlib.Omega.{arith}
use native.Mathlib.Nat.{zero-add, suc-add}
use borrow.Author.Tests.{leb-true, leb-false, le-leb, lt-leb, eq-eqb, ne_eqb}
use Rattle.std.specs.Prelude.{Option, Some, None}
use Rattle.format.specs.Instructions.{Instruction, unread, pieces, dwords, all_dwords}
use Rattle.format.specs.Rows.{parts_rows, parts_table, parts, unread_row, instruction_row}
use Rattle.format.specs.Encoder.{at}
use Rattle.format.proofs.Dwords.{impossible}
use Rattle.format.proofs.Rows.{parts_length}
use Rattle.operand_deep.specs.Confirm.{◌>>=◌}
use Rattle.operand_deep.specs.Walks.{row_at}
use Rattle.operand_deep.proofs.Fields.{row_at as word_at}
use Rattle.instruction_deep.specs.Confirm.{confirm_instruction}
use Rattle.instruction_deep.specs.Walks.{walked_instruction}
use Rattle.instruction_deep.specs.declared.Walked.{Walked}
use Rattle.instruction_deep.proofs.Sound.{Confirmed, sound}
use Rattle.reading.specs.Confirm.{confirm_all}
use Rattle.reading.specs.Walks.{dwords_from, past, past_if, next_walk, onward, answer, Walking}
use Rattle.reading.specs.declared.Walk.{Walk}

-- words 0 and 1 of a row
row_place : (place r w : ℕ) (i : Instruction) → at 0 (instruction_row place r w i) ≡ place
unfolding instruction_row unread_row
row_place place r w (unread ds) = refl
row_place place r w (pieces t e ps) = refl

row_size : (place r w : ℕ) (i : Instruction) → at 1 (instruction_row place r w i) ≡ length (dwords i)
unfolding instruction_row unread_row dwords
row_size place r w (unread ds) = refl
row_size place r w (pieces t e ps) = refl

-- one instruction and those behind it
more : (a : ℕ) (i : Instruction) (x : Maybe (List Instruction)) → dwords_from (a + length (dwords i)) x ≡ dwords_from a (◌>>=◌ x (λ l. just (i ∷ l)))
unfolding all_dwords
more a i nothing = refl
more a i (just l) = ap (λ (k : ℕ). Some k) (omega (arith, length-append (dwords i) (all_dwords l)))

-- no answer where nothing is confirmed, at whatever place
no_answer : (at : ℕ) {x : Maybe (List Instruction)} → x ≡ nothing → cond (leb at 262_144) (dwords_from at x) None ≡ None
no_answer at k = ap (λ x. cond (leb at 262_144) (dwords_from at x) None) k ∙ alike (leb at 262_144) None
  where
    alike : (b : Bool) (x : Option ℕ) → cond b x x ≡ x
    alike true x = refl
    alike false x = refl

-- the words of an instruction, cut off behind it
pub cut_words : (w n : ℕ) (ws : List ℕ) → drop w (take (w + n) ws) ≡ take n (drop w ws)
cut_words zero n ws = ap (λ (k : ℕ). take k ws) (zero-add n)
cut_words (suc w) n [] = rw (take-nil {A = ℕ} (suc w + n), take-nil {A = ℕ} n)
cut_words (suc w) n (x ∷ ws) = ap (λ (k : ℕ). drop (suc w) (take k (x ∷ ws))) (suc-add w n) ∙ cut_words w n ws

-- ---- past the instruction of the row q
module _ (c : ℕ) (m : Bool) (q rs ws : List ℕ) (s : Walk) where
  module _ (z : s.word + at 15 q ≤ length ws) where
    abbrev own : List ℕ
    own = take (at 15 q) (drop s.word ws)

    abbrev mine : Maybe Instruction
    mine = confirm_instruction c m q (4 * s.at) (drop (16 * s.row) rs) own s.row s.word

    own_length : length own ≡ at 15 q
    own_length = length-take-le (at 15 q) (drop s.word ws) (omega (arith, length-drop s.word ws))

    confirmed : {i : Instruction} → mine ≡ just i → Confirmed c m q (4 * s.at) (drop (16 * s.row) rs) own s.row s.word i
    confirmed {i} e = sound c m q (4 * s.at) (drop (16 * s.row) rs) own s.row s.word i own_length e

    opened : next_walk c m q rs ws s ≡ past_if s (at 15 q) mine
    opened = rw (le-leb (at 15 q) (length ws - s.word) (omega arith))

    -- the instruction's place, its operand rows and its size are told by its row
    module _ {i : Instruction} (e : mine ≡ just i) where
      rows_there : 16 * s.row ≤ length rs → 16 * (s.row + parts_rows (parts i)) ≤ length rs
      rows_there h = omega (arith, ap length (confirmed e).rows, length-append (parts_table s.row s.word (parts i)) (drop (16 * parts_rows (parts i)) (drop (16 * s.row) rs)), parts_length s.row s.word (parts i), length-drop (16 * s.row) rs)

      place_told : 4 * s.at ≡ at 0 q
      place_told = sym (row_place (4 * s.at) s.row s.word i) ∙ sym (ap (at 0) (confirmed e).row)

      size_told : length (dwords i) ≡ at 1 q
      size_told = sym (row_size (4 * s.at) s.row s.word i) ∙ sym (ap (at 1) (confirmed e).row)

    -- as the code walks it
    module _ {v : Option Walked} (x : v ≡ walked_instruction (confirm_instruction c m q (s.at * 4) (drop (16 * s.row) rs) (drop s.word (take (s.word + at 15 q) ws)) s.row s.word)) where
      told : v ≡ walked_instruction mine
      told =
          let p : s.at * 4 ≡ 4 * s.at = omega arith in
          x ∙ (λ j. walked_instruction (confirm_instruction c m q (p j) (drop (16 * s.row) rs) (cut_words s.word (at 15 q) ws j) s.row s.word))

      -- what is found is past it, and its rows and its size fit
      pub record Found (w : Walked) : Type 0 where
        pub rows_fit : 16 * s.row ≤ length rs → 16 * (s.row + w.rows) ≤ length rs
        pub size_is : w.dwords ≡ at 1 q
        pub is : Some (record { at = s.at + w.dwords; row = s.row + w.rows; word = s.word + at 15 q }) ≡ next_walk c m q rs ws s

      pub found : {w : Walked} → v ≡ Some w → Found w
      found {w} e = go mine refl (sym e ∙ told)
        where
          go : (o : Maybe Instruction) → mine ≡ o → Some w ≡ walked_instruction o → Found w
          go nothing k y = impossible (cc)
          go (just i) k y =
              let r : w.rows ≡ parts_rows (parts i) = (cc) in
              let d : w.dwords ≡ length (dwords i) = (cc) in
              record {
                rows_fit = λ h. rw r (rows_there k h);
                size_is = d ∙ size_told k;
                is = (λ j. Some (record { at = s.at + d j; row = s.row + r j; word = s.word + at 15 q })) ∙ sym (opened ∙ ap (past_if s (at 15 q)) k);
              }

-- ---- the next instruction
module _ (c : ℕ) (m : Bool) (is rs ws : List ℕ) (k : ℕ) (s : Walk) (h : k < length is / 16) where
  abbrev q : List ℕ
  q = row_at k is

  abbrev n : ℕ
  n = at 15 q

  abbrev behind : Instruction → Maybe (List Instruction)
  behind i = ◌>>=◌ (confirm_all c m (length is / 16 - (k + 1)) (4 * s.at + 4 * length (dwords i)) (drop 16 (drop (16 * k) is)) (drop (16 * parts_rows (parts i)) (drop (16 * s.row) rs)) (drop n (drop s.word ws)) (s.row + parts_rows (parts i)) (s.word + n)) (λ l. just (i ∷ l))

  abbrev after : Instruction → Maybe (List Instruction)
  after i = cond (leb (4 * s.at + 4 * length (dwords i)) 1_048_576) (behind i) nothing

  abbrev one : Maybe Instruction
  one = confirm_instruction c m q (4 * s.at) (drop (16 * s.row) rs) (take n (drop s.word ws)) s.row s.word

  here : onward c m is rs ws k s ≡ cond (leb n (length (drop s.word ws))) (◌>>=◌ one after) nothing
  unfolding confirm_all
  here =
      let e : length is / 16 - k ≡ suc (length is / 16 - (k + 1)) = omega arith in
      rw e

  module _ (z : n ≤ length ws - s.word) where
    there : onward c m is rs ws k s ≡ (◌>>=◌ one after)
    there = here ∙ rw (le-leb n (length (drop s.word ws)) (omega (arith, length-drop s.word ws)))

    module _ {i : Instruction} (e : one ≡ just i) where
      onto : onward c m is rs ws k s ≡ after i
      onto = there ∙ rw e

      from : 4 * s.at + 4 * length (dwords i) ≤ 1_048_576 → onward c m is rs ws k s ≡ ◌>>=◌ (onward c m is rs ws (k + 1) (past s n i)) (λ l. just (i ∷ l))
      from l =
          let p : 4 * s.at + 4 * length (dwords i) ≡ 4 * (s.at + length (dwords i)) = omega arith in
          let x : 16 * k + 16 ≡ 16 * (k + 1) = omega arith in
          let y : 16 * s.row + 16 * parts_rows (parts i) ≡ 16 * (s.row + parts_rows (parts i)) = omega arith in
          let a : drop 16 (drop (16 * k) is) ≡ drop (16 * (k + 1)) is = drop-drop 16 (16 * k) is ∙ ap (λ (j : ℕ). drop j is) x in
          let b : drop (16 * parts_rows (parts i)) (drop (16 * s.row) rs) ≡ drop (16 * (s.row + parts_rows (parts i))) rs = drop-drop (16 * parts_rows (parts i)) (16 * s.row) rs ∙ ap (λ (j : ℕ). drop j rs) y in
          let v : drop n (drop s.word ws) ≡ drop (s.word + n) ws = drop-drop n s.word ws in
          onto ∙ rw (le-leb (4 * s.at + 4 * length (dwords i)) 1_048_576 l)
          (λ j. ◌>>=◌ (confirm_all c m (length is / 16 - (k + 1)) (p j) (a j) (b j) (v j) (s.row + parts_rows (parts i)) (s.word + n)) (λ l. just (i ∷ l)))

      -- nothing is confirmed where it goes on past the first 1,048,576 bytes
      too_long : 262_144 < s.at + length (dwords i) → onward c m is rs ws k s ≡ nothing
      too_long l = onto ∙ rw (lt-leb (4 * s.at + 4 * length (dwords i)) 1_048_576 (omega arith))

      -- the answer stays the same past it: inside, as many dwords are told; beyond, none is right, neither from here nor from there
      same_past : answer c m is rs ws (k + 1) (past s n i) ≡ answer c m is rs ws k s
      same_past = go (leb (s.at + length (dwords i)) 262_144) refl
        where
          go : (b : Bool) → leb (s.at + length (dwords i)) 262_144 ≡ b → answer c m is rs ws (k + 1) (past s n i) ≡ answer c m is rs ws k s
          go true e =
              let l : s.at + length (dwords i) ≤ 262_144 = leb-true (s.at + length (dwords i)) 262_144 e in
              rw (e, le-leb s.at 262_144 (omega arith)) (more s.at i (onward c m is rs ws (k + 1) (past s n i)) ∙ ap (dwords_from s.at) (sym (from (omega arith))))
          go false e = rw e (sym (no_answer s.at (too_long (leb-false (s.at + length (dwords i)) 262_144 e))))

-- a walk that comes to instruction k goes past it, or none is right
module _ {c : ℕ} {m : Bool} {is rs ws : List ℕ} {k : ℕ} {s : Walk} {whole : Option ℕ} (y : Walking c m is rs ws k s whole) (h : k < length is / 16) where
  none_on : onward c m is rs ws k s ≡ nothing → None ≡ whole
  none_on e = sym (no_answer s.at e) ∙ y.same

  pub went_off : None ≡ next_walk c m (row_at k is) rs ws s → None ≡ whole
  went_off e = first (leb (n c m is rs ws k s h) (length ws - s.word)) refl e
    where
      second : n c m is rs ws k s h ≤ length ws - s.word → (o : Maybe Instruction) → one c m is rs ws k s h ≡ o → None ≡ past_if s (n c m is rs ws k s h) o → None ≡ whole
      second z nothing e x = none_on (there c m is rs ws k s h z ∙ rw e)
      second z (just i) e x = impossible (cc)

      first : (b : Bool) → leb (n c m is rs ws k s h) (length ws - s.word) ≡ b → None ≡ cond b (past_if s (n c m is rs ws k s h) (one c m is rs ws k s h)) None → None ≡ whole
      first true b x = second (leb-true _ _ b) (one c m is rs ws k s h) refl x
      first false b x =
          let z = leb-false _ _ b in
          none_on (here c m is rs ws k s h ∙ rw (lt-leb (n c m is rs ws k s h) (length (drop s.word ws)) (omega (arith, z, length-drop s.word ws))))

  pub went_on : ((j : ℕ) → get_or is j 0 < 2 ^ 32) → {t : Walk} → Some t ≡ next_walk c m (row_at k is) rs ws s → Walking c m is rs ws (k + 1) t whole
  went_on f {t} e = first (leb (n c m is rs ws k s h) (length ws - s.word)) refl e
    where
      past_it : (i : Instruction) → n c m is rs ws k s h ≤ length ws - s.word → one c m is rs ws k s h ≡ just i → Walking c m is rs ws (k + 1) (past s (n c m is rs ws k s h) i) whole
      past_it i z e =
          let w : s.word + at 15 (row_at k is) ≤ length ws = omega (arith, y.word_within) in
          record {
            at_most = omega (arith, place_told c m (row_at k is) rs ws s w e, size_told c m (row_at k is) rs ws s w e, word_at is (16 * k) 0 (lit< tt), word_at is (16 * k) 1 (lit< tt), f (16 * k + 0), f (16 * k + 1));
            row_within = rows_there c m (row_at k is) rs ws s w e y.row_within;
            word_within = w;
            same = same_past c m is rs ws k s h z e ∙ y.same;
          }

      second : n c m is rs ws k s h ≤ length ws - s.word → (o : Maybe Instruction) → one c m is rs ws k s h ≡ o → Some t ≡ past_if s (n c m is rs ws k s h) o → Walking c m is rs ws (k + 1) t whole
      second z nothing e x = impossible (cc)
      second z (just i) e x = let p : t ≡ past s (n c m is rs ws k s h) i = (cc) in rw p (past_it i z e)

      first : (b : Bool) → leb (n c m is rs ws k s h) (length ws - s.word) ≡ b → Some t ≡ cond b (past_if s (n c m is rs ws k s h) (one c m is rs ws k s h)) None → Walking c m is rs ws (k + 1) t whole
      first true b x = second (leb-true _ _ b) (one c m is rs ws k s h) refl x
      first false b x = impossible (cc)

-- where instructions are confirmed from a walk on: the next of them, and a walk past it
pub cond_just : {A : Type 0} (b : Bool) (x : Maybe A) {a : A} → cond b x nothing ≡ just a → (b ≡ true) × (x ≡ just a)
cond_just true x e = (refl, e)
cond_just false x e = impossible (cc)

bind_just : {A B : Type 0} (x : Maybe A) (f : A → Maybe B) {b : B} → ◌>>=◌ x f ≡ just b → (a : A) × (x ≡ just a) × (f a ≡ just b)
bind_just nothing f e = impossible (cc)
bind_just (just a) f e = (a, refl, e)

pub record Next (c : ℕ) (m : Bool) (is rs ws : List ℕ) (k : ℕ) (s : Walk) (l : List Instruction) : Type 0 where
  pub one : Instruction
  pub rest : List Instruction
  pub list_is : l ≡ one ∷ rest
  pub words_there : at 15 (row_at k is) ≤ length ws - s.word
  pub words_are : length (take (at 15 (row_at k is)) (drop s.word ws)) ≡ at 15 (row_at k is)
  pub confirmed : confirm_instruction c m (row_at k is) (4 * s.at) (drop (16 * s.row) rs) (take (at 15 (row_at k is)) (drop s.word ws)) s.row s.word ≡ just one
  pub onward_is : onward c m is rs ws (k + 1) (past s (at 15 (row_at k is)) one) ≡ just rest

pub next_of : {c : ℕ} {m : Bool} {is rs ws : List ℕ} {k : ℕ} {s : Walk} (h : k < length is / 16) {l : List Instruction} → onward c m is rs ws k s ≡ just l → Next c m is rs ws k s l
next_of {c} {m} {is} {rs} {ws} {k} {s} h {l} e =
    let w : ℕ = at 15 (row_at k is) in
    let a = cond_just (leb w (length (drop s.word ws))) (◌>>=◌ (one c m is rs ws k s h) (after c m is rs ws k s h)) (sym (here c m is rs ws k s h) ∙ e) in
    let z : w ≤ length ws - s.word = omega (arith, leb-true w (length (drop s.word ws)) a.0, length-drop s.word ws) in
    let b = bind_just (one c m is rs ws k s h) (after c m is rs ws k s h) a.1 in
    let i : Instruction = b.0 in
    let d = cond_just (leb (4 * s.at + 4 * length (dwords i)) 1_048_576) (behind c m is rs ws k s h i) b.2 in
    let f = from c m is rs ws k s h z b.1 (leb-true _ 1_048_576 d.0) in
    let g = bind_just (onward c m is rs ws (k + 1) (past s w i)) (λ l. just (i ∷ l)) (sym f ∙ e) in
    record {
      one = i;
      rest = g.0;
      list_is = (cc g.2);
      words_there = z;
      words_are = length-take-le w (drop s.word ws) (omega (arith, length-drop s.word ws));
      confirmed = b.1;
      onward_is = g.1;
    }

-- before the first instruction
pub begin : (c : ℕ) (m : Bool) (is rs ws : List ℕ) → Walking c m is rs ws 0 (record { at = 2; row = 0; word = 0 }) (dwords_from 2 (confirm_all c m (length is / 16) 8 is rs ws 0 0))
begin c m is rs ws =
    let z : length is / 16 - 0 ≡ length is / 16 = omega arith in
    record { at_most = omega arith; row_within = omega arith; word_within = omega arith; same = ap (λ (n : ℕ). dwords_from 2 (confirm_all c m n 8 is rs ws 0 0)) z }

-- behind the last
ended : (c : ℕ) (m : Bool) (is rs ws : List ℕ) (k : ℕ) (s : Walk) → length is / 16 ≤ k → onward c m is rs ws k s ≡ cond (eqb (length (drop (16 * s.row) rs)) 0 && eqb (length (drop s.word ws)) 0) (just []) nothing
unfolding confirm_all
ended c m is rs ws k s h =
    let e : length is / 16 - k ≡ 0 = omega arith in
    rw e

pub ended_list : (c : ℕ) (m : Bool) (is rs ws : List ℕ) (k : ℕ) (s : Walk) → length is / 16 ≤ k → {l : List Instruction} → onward c m is rs ws k s ≡ just l → l ≡ []
ended_list c m is rs ws k s h e = let a = cond_just (eqb (length (drop (16 * s.row) rs)) 0 && eqb (length (drop s.word ws)) 0) (just []) (sym (ended c m is rs ws k s h) ∙ e) in cc a.1

module _ {c : ℕ} {m : Bool} {is rs ws : List ℕ} {k : ℕ} {s : Walk} {whole : Option ℕ} (y : Walking c m is rs ws k s whole) where
  pub limit_past : 262_144 < s.at → None ≡ whole
  limit_past z = sym (rw (lt-leb s.at 262_144 z)) ∙ y.same

  module _ (h : length is / 16 ≤ k) where
    pub rows_left : 16 * s.row < length rs → None ≡ whole
    rows_left z =
        let e : onward c m is rs ws k s ≡ nothing = ended c m is rs ws k s h ∙ rw (ne_eqb (length (drop (16 * s.row) rs)) 0 (λ e. omega (arith, length-drop (16 * s.row) rs))) in
        sym (no_answer s.at e) ∙ y.same

    module _ (r : length rs ≤ 16 * s.row) where
      no_rows : eqb (length (drop (16 * s.row) rs)) 0 ≡ true
      no_rows = eq-eqb (length (drop (16 * s.row) rs)) 0 (omega (arith, length-drop (16 * s.row) rs))

      pub words_left : s.word < length ws → None ≡ whole
      words_left z =
          let e : onward c m is rs ws k s ≡ nothing = ended c m is rs ws k s h ∙ rw (no_rows, ne_eqb (length (drop s.word ws)) 0 (λ e. omega (arith, length-drop s.word ws))) in
          sym (no_answer s.at e) ∙ y.same

      pub all_told : s.at ≤ 262_144 → length ws ≤ s.word → Some s.at ≡ whole
      unfolding all_dwords
      all_told l z =
          let e : onward c m is rs ws k s ≡ just [] = ended c m is rs ws k s h ∙ rw (no_rows, eq-eqb (length (drop s.word ws)) 0 (omega (arith, length-drop s.word ws))) in
          let n : s.at ≡ s.at + 0 = omega arith in
          let x : answer c m is rs ws k s ≡ dwords_from s.at (onward c m is rs ws k s) = rw (le-leb s.at 262_144 l) in
          ap (λ (j : ℕ). Some j) n ∙ sym (ap (dwords_from s.at) e) ∙ sym x ∙ y.same
