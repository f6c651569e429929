-- Instructions that are confirmed one after the other are those that are read, and each that is read is confirmed.
use Prim.Native.Nat.{ℕ, zero, suc, ◌+◌, ◌*◌, ◌≤◌}
use mathlib.Core.Path.{◌≡◌, refl, sym, ap, ap₂, ◌∙◌, subst}
use mathlib.Core.List.{List, [], ◌∷◌, ◌++◌}
use mathlib.Core.Option.{Option, none as nothing, some as just}
use mathlib.Core.Bool.{Bool, ◌&&◌}
use native.Mathlib.Omega.{arith}
use lib.ListN.{length, take, drop, length-append, length-drop, take-append-drop}
use lib.Seq.{length-take-le, take_at, drop_at}
use lib.Dec.{eqb, leb}
use borrow.Author.Tests.{leb-true, eqb-true, le-leb}
use Rattle.format.specs.Instructions.{Instruction, dwords, all_dwords}
use Rattle.format.specs.Rows.{parts_rows, parts_words, parts_table, parts, instruction_row, instruction_rows, all_parts}
use Rattle.format.specs.Encoder.{at}
use Rattle.format.proofs.Dwords.{impossible, both}
use Rattle.format.proofs.Instructions.{kept_ok, read_restores}
use Rattle.format.proofs.Rows.{row_length, parts_length, words_append, table_append}
use Rattle.format.proofs.Refusals.{Reads, nil, cons}
use Rattle.format.proofs.Remade.{row_words}
use Rattle.format.proofs.Room as room
use Rattle.format.proofs.Room.{Fit, fit_append, fit_front, fit_drop}
use Rattle.operand_deep.proofs.Every.{Every, unmet, met, every_then, every_if, every_of}
use Rattle.instruction_deep.specs.Confirm.{confirm_instruction}
use Rattle.reading.specs.Confirm.{confirm_all}
use Rattle.instruction_deep.proofs.Sound.{Confirmed, sound}
use Rattle.instruction_deep.proofs.Complete.{complete, own_length}

-- ---- what is confirmed is read
-- the rows, operand rows and words are those of instructions that read, the first of which stands at a place
pub record AllConfirmed (c : ℕ) (m : Bool) (n place : ℕ) (is rs ws : List ℕ) (r w : ℕ) (l : List Instruction) : Type 0 where
  pub rows : is ≡ instruction_rows place r w l
  pub operands : rs ≡ parts_table r w (all_parts l)
  pub words : ws ≡ parts_words (all_parts l)
  pub count : length l ≡ n
  pub reads : Reads c m (all_dwords l) l
  pub short : place ≤ 1_048_576 → place + 4 * length (all_dwords l) ≤ 1_048_576
  pub fit : Fit is → Fit ws → Fit (all_dwords l)

empty : (l : List ℕ) → length l ≡ 0 → l ≡ []
empty [] e = refl
empty (x ∷ l) e = impossible (omega arith)

every_just : {A : Type 0} {P : A → Type 0} (o : Option A) → ((a : A) → o ≡ just a → P a) → Every P o
every_just nothing f = unmet
every_just (just a) f = met (f a refl)

pub fit_take : (n : ℕ) (l : List ℕ) → Fit l → Fit (take n l)
fit_take n l f = fit_front (take n l) (drop n l) (subst Fit (sym (take-append-drop n l)) f)

module _ (c : ℕ) (m : Bool) where
  all_nil : (place : ℕ) (is rs ws : List ℕ) (r w : ℕ) → length is ≡ 0 → length rs ≡ 0 → length ws ≡ 0 → AllConfirmed c m 0 place is rs ws r w []
  unfolding instruction_rows all_parts all_dwords parts_table parts_words
  all_nil place is rs ws r w ei er ew =
      record { rows = empty is ei; operands = empty rs er; words = empty ws ew; count = refl; reads = nil; short = λ h. omega arith; fit = λ f g. room.empty }

  all_cons : (n place : ℕ) (is rs ws : List ℕ) (r w k : ℕ) (i : Instruction) (l : List Instruction) → k ≤ length ws → Confirmed c m (take 16 is) place rs (take k ws) r w i → place + 4 * length (dwords i) ≤ 1_048_576 →
      AllConfirmed c m n (place + 4 * length (dwords i)) (drop 16 is) (drop (16 * parts_rows (parts i)) rs) (drop k ws) (r + parts_rows (parts i)) (w + k) l → AllConfirmed c m (suc n) place is rs ws r w (i ∷ l)
  unfolding instruction_rows all_parts all_dwords
  all_cons n place is rs ws r w k i l h a e b =
      let z : length (parts_words (parts i)) ≡ k = sym (ap length a.words) ∙ length-take-le k ws h in
      record {
        rows = rw z (sym (take-append-drop 16 is) ∙ ap₂ ◌++◌ a.row b.rows);
        operands = rw (table_append r w (parts i) (all_parts l), z) (a.rows ∙ ap (λ (x : List ℕ). parts_table r w (parts i) ++ x) b.operands);
        words = rw (words_append (parts i) (all_parts l)) (sym (take-append-drop k ws) ∙ ap₂ ◌++◌ a.words b.words);
        count = ap suc b.count;
        reads = rw a.dwords_are (cons a.token a.others (all_dwords l) (a.framed (all_dwords l)) refl a.reads b.reads);
        short = λ y. omega (arith, length-append (dwords i) (all_dwords l), b.short e);
        fit = λ f g. fit_append (a.fit (fit_take 16 is f) (fit_take k ws g)) (b.fit (fit_drop 16 f) (fit_drop k g));
      }

all_every : (c : ℕ) (m : Bool) (n place : ℕ) (is rs ws : List ℕ) (r w : ℕ) → length is ≡ 16 * n → Every (AllConfirmed c m n place is rs ws r w) (confirm_all c m n place is rs ws r w)
unfolding confirm_all
all_every c m zero place is rs ws r w h = every_if (eqb (length rs) 0 && eqb (length ws) 0) _ _
    (λ z. let b = both (eqb (length rs) 0) (eqb (length ws) 0) z in met (all_nil c m place is rs ws r w h (eqb-true (length rs) 0 b.0) (eqb-true (length ws) 0 b.1)))
    (λ z. unmet)
all_every c m (suc n) place is rs ws r w h =
    let q : List ℕ = take 16 is in
    let k : ℕ = at 15 q in
    every_if (leb k (length ws)) _ _ (λ z.
    let hk : k ≤ length ws = leb-true k (length ws) z in
    every_then (every_just (confirm_instruction c m q place rs (take k ws) r w) (λ i e. sound c m q place rs (take k ws) r w i (length-take-le k ws hk) e)) (λ i a.
    every_if (leb (place + 4 * length (dwords i)) 1_048_576) _ _ (λ y.
    every_then (all_every c m n (place + 4 * length (dwords i)) (drop 16 is) (drop (16 * parts_rows (parts i)) rs) (drop k ws) (r + parts_rows (parts i)) (w + k) (length-drop 16 is ∙ omega arith)) (λ l b.
    met (all_cons c m n place is rs ws r w k i l hk a (leb-true _ 1_048_576 y) b)))
    (λ y. unmet)))
    (λ z. unmet)

pub all_sound : (c : ℕ) (m : Bool) (n place : ℕ) (is rs ws : List ℕ) (r w : ℕ) (l : List Instruction) → length is ≡ 16 * n → confirm_all c m n place is rs ws r w ≡ just l → AllConfirmed c m n place is rs ws r w l
all_sound c m n place is rs ws r w l h e = every_of e (all_every c m n place is rs ws r w h)

-- ---- what is read is confirmed
pub all_complete : {c : ℕ} {m : Bool} {ds : List ℕ} {l : List Instruction} → Reads c m ds l → (place r w : ℕ) → place + 4 * length ds ≤ 1_048_576 →
    confirm_all c m (length l) place (instruction_rows place r w l) (parts_table r w (all_parts l)) (parts_words (all_parts l)) r w ≡ just l
unfolding confirm_all instruction_rows all_parts
all_complete nil place r w h = unfold parts_table parts_words in refl
all_complete {c} {m} {ds} (cons t i left {j = j} {l = l} n s e k) place r w h =
    let q : List ℕ = instruction_row place r w j in
    let p : List ℕ = parts_words (parts j) in
    let ws : List ℕ = parts_words (all_parts l) in
    let x : length (dwords j) + length left ≡ length ds = omega (arith, ap length (kept_ok (read_restores c m (t ∷ i)) e), ap length s, length-append (t ∷ i) left) in
    rw (
      take_at q _ 16 (row_length place r w j),
      drop_at q _ 16 (row_length place r w j),
      row_words place r w j,
      words_append (parts j) (all_parts l),
      table_append r w (parts j) (all_parts l),
      le-leb (length p) (length (p ++ ws)) (omega (arith, length-append p ws)),
      take_at p _ (length p) refl,
      drop_at p _ (length p) refl,
      complete c m t i j (own_length t i left k n) e place r w _,
      le-leb (place + 4 * length (dwords j)) 1_048_576 (omega arith),
      drop_at (parts_table r w (parts j)) _ (16 * parts_rows (parts j)) (parts_length r w (parts j)),
      all_complete k (place + 4 * length (dwords j)) (r + parts_rows (parts j)) (w + length p) (omega arith),
    )
