-- Instructions whose code has an operand count, from what was accepted to what is written.
use Prim.Native.Nat.{ℕ, zero, suc, ◌+◌, ◌-◌, ◌≤◌}
use mathlib.Core.Path.{◌≡◌, refl, sym, ap, ◌∙◌}
use mathlib.Core.List.{List, [], ◌∷◌, ◌++◌}
use mathlib.Core.Bool.{Bool, false}
use mathlib.Core.Option as m
use mathlib.Core.Option.{none, some}
use native.Mathlib.Nat.{zero-add}
use native.Mathlib.Omega.{arith}
use lib.ListN.{length, get_or, take, drop, replicate}
use lib.Seq.{slice}
use borrow.Rule.Slice.PartMut.{put_mid}
use Rattle.std.specs.Prelude.{Option, Some, None, IsSome}
use Rattle.format.specs.Dwords.{then, dword, none_left, follows, chain}
use Rattle.format.specs.Framing.{code}
use Rattle.format.specs.Counts.{operand_count, rising}
use Rattle.format.specs.Declarations.{o, tail, Layout, layout}
use Rattle.format.specs.Operands as op
use Rattle.format.specs.Instructions.{pieces, read_head, read_item, read_items, split, judged, extensions}
use Rattle.format.proofs.Dwords.{impossible}
use Rattle.layouts.specs.declared.Shape.{Shape}
use Rattle.layouts.specs.Shapes.{counted, Laid, meant, items_of}
use Rattle.layouts.proofs.Others.{counts}
use Rattle.tokens.specs.Chains.{ends}
use Rattle.instruction_fields.proofs.Heads.{Headed, headed_at}
use Rattle.instruction_fields.proofs.Counted.{chain_head}
use Rattle.operand_rows.specs.declared.Sums.{Sums}
use Rattle.instruction_write.specs.Writes.{counted_shape, operands_of, row_for, RowReady, Room, WroteRun, BodyRoom, WroteBody, Ready}
use Rattle.instruction_write.proofs.Parted.{then_same, run_room, Known, known, copy_room, written}
use Rattle.instruction_write.proofs.Knowing.{headed}

-- what the code's count tells of the definition's
pub is_counted : (k : m.Option ℕ) {r : Option ℕ} {n : ℕ} → r ≡ counted k → r ≡ Some n → k ≡ some n
is_counted none e f = impossible (cc)
is_counted (some i) e f = cc

pub is_uncounted : (k : m.Option ℕ) {r : Option ℕ} → r ≡ counted k → r ≡ None → k ≡ none
is_uncounted none e f = refl
is_uncounted (some i) e f = impossible (cc)

-- such an instruction is the same in either model
same_items : (m : Bool) (n : ℕ) (ds : List ℕ) → read_items m (replicate n o ++ tail ∷ []) ds ≡ read_items false (replicate n o ++ tail ∷ []) ds
unfolding read_items read_item
same_items m zero ds = refl
same_items m (suc n) ds = then_same (read_items m (replicate n o ++ tail ∷ [])) (read_items false (replicate n o ++ tail ∷ [])) (same_items m n) (op.operand 64 ds)

either_shape : (m : Bool) (c n : ℕ) (ds : List ℕ) → read_items m (items_of (counted_shape c n)) ds ≡ read_items false (items_of (counted_shape c n)) ds
unfolding items_of
either_shape m c n ds = same_items m n ds

pub either : (m : Bool) (t n : ℕ) (ds : List ℕ) → operand_count (code t) ≡ some n → judged (layout (code t)) (split m (layout (code t)) ds) ≡ judged (layout (code t)) (split false (layout (code t)) ds)
unfolding split
either m t n ds h =
    let x : Layout = meant (counted_shape (code t) n) in
    let e : x ≡ layout (code t) = (counts (code t) n h).meaning in
    let same : split m x ds ≡ split false x ds = λ i. then (dword ds) (λ k r. then (read_head x k r) (λ y q. then (either_shape m (code t) n q i) (λ ps. none_left (pieces k y ps)))) in
    sym (ap (λ (y : Layout). judged y (split m y ds)) e) ∙ ap (judged x) same ∙ ap (λ (y : Layout). judged y (split false y ds)) e

-- a row can be made by either of two shapes of a code
pub ready_by : {c : ℕ} {s x : Shape} {ds : List ℕ} {end words : ℕ} → Laid c s → Laid c x → RowReady s ds end words → RowReady x ds end words
ready_by {ds = ds} {end = end} l k q = record {
  sound = k.sound;
  from = q.from;
  within = q.within;
  rises = ap (λ (y : Layout). rising 0 (extensions y (slice 1 end ds))) (k.meaning ∙ sym l.meaning) ∙ q.rises;
  few = q.few;
  words_fit = q.words_fit;
}

pub row_by : {c : ℕ} {s x : Shape} {R : List ℕ} (e : List ℕ) (t at j r i w m : ℕ) → Laid c s → Laid c x → R ≡ row_for (meant s) t e at j r i w m → R ≡ row_for (meant x) t e at j r i w m
row_by e t at j r i w m l k z = z ∙ ap (λ (y : Layout). row_for y t e at j r i w m) (l.meaning ∙ sym k.meaning)

-- a row that is another's is stored as that
pub stored_as : {is' R : List ℕ} (is S : List ℕ) → is' ≡ R ++ drop 16 is → R ≡ S → is' ≡ S ++ drop 16 is
stored_as is S e f = e ∙ ap (λ (l : List ℕ). l ++ drop 16 is) f

-- places and words of parts before which nothing stands
run_at : (n : ℕ) (ds : List ℕ) {k ops ws row at at' word word' : ℕ} → at' ≡ at → word' ≡ word → Room (operands_of n (drop at ds)) k at ops ws row word → Room (operands_of n (drop at' ds)) k at' ops ws row word'
run_at n ds e f q = rw (e, f) q

ran_at : (n : ℕ) (ds : List ℕ) (at at' : ℕ) {row word word' : ℕ} {L W L' W' : List ℕ} {a : Sums} → at' ≡ at → word' ≡ word → WroteRun (operands_of n (drop at ds)) row word L W a L' W' → WroteRun (operands_of n (drop at' ds)) row word' L W a L' W'
ran_at n ds at at' e f q = rw (e, f) q

-- its parts: operands before which no dwords stand, and those behind them
module _ (c n : ℕ) (ds : List ℕ) (at : ℕ) {ops row word : ℕ} (W : List ℕ) (q : BodyRoom (read_items false (items_of (counted_shape c n)) (drop at ds)) (length ds) at ops (length W) row word) where
  same_place : at + 0 ≡ at
  same_place = omega arith

  same_word : word + 0 ≡ word
  same_word = omega arith

  pub parts_room : Room (operands_of n (drop at ds)) (length ds) at ops (length (take (length W - 0) (drop 0 W))) row word
  parts_room = run_at n ds (sym same_place) (sym same_word) (run_room false (counted_shape c n) ds at W q {W₁ = W} refl)

  module _ {L L' zs : List ℕ} {a : Sums} (wr : WroteRun (operands_of n (drop at ds)) row word L (take (length W - 0) (drop 0 W)) a L' zs) where
    pub moved : WroteRun (operands_of n (drop (at + 0) ds)) row (word + 0) L (take (length W - 0) (drop 0 W)) a L' zs
    moved = ran_at n ds at (at + 0) same_place same_word wr

    pub parts_known : Known false (counted_shape c n) ds at W q {W₁ = W} refl moved
    parts_known = known false (counted_shape c n) ds at W q {W₁ = W} refl moved

    module _ {j : ℕ} (ej : j ≡ length ds) where
      abbrev Y : List ℕ
      Y = put_mid 0 (length W - 0) W zs

      pub parts_copy : (at + a.dwords + (j - (at + a.dwords)) ≤ length ds) × (j - (at + a.dwords) ≤ length (take (length Y - a.words) (drop a.words Y)))
      parts_copy = rw (same_place, zero-add a.words) at (copy_room false (counted_shape c n) ds at W q {W₁ = W} refl moved ej)

      pub parts_written : {vs : List ℕ} → vs ≡ take (j - (at + a.dwords)) (drop (at + a.dwords) ds) ++ drop (j - (at + a.dwords)) (take (length Y - a.words) (drop a.words Y))
          → WroteBody (read_items false (items_of (counted_shape c n)) (drop at ds)) row word L W (record { rows = a.rows; words = a.words + (j - (at + a.dwords)) }) L' (put_mid a.words (length Y - a.words) Y vs)
      parts_written {vs} = rw (same_place, zero-add a.words) at (written false (counted_shape c n) ds at W q {W₁ = W} refl moved ej {vs = vs})

-- the place behind its chain is known
module _ (ds : List ℕ) (t n : ℕ) (et : t ≡ get_or ds 0 0) (h : operand_count (code t) ≡ some n) {rows ops ws at row word : ℕ}
    (q : Ready (judged (layout (code t)) (split false (layout (code t)) ds)) ds rows ops ws at row word)
    {f : Bool} (ef : f ≡ follows t) {a : Option ℕ} (ea : a ≡ ends 1 (chain f (drop 1 ds))) where
  told : a ≡ ends 1 (read_head (meant (counted_shape (code t) n)) t (drop 1 ds))
  told = ea ∙ ap (λ (g : Bool). ends 1 (chain g (drop 1 ds))) ef ∙ ap (ends 1) (sym (chain_head t n h (drop 1 ds)) ∙ ap (λ (y : Layout). read_head y t (drop 1 ds)) (sym (counts (code t) n h).meaning))

  pub chain_ends : IsSome a
  chain_ends = headed false (counted_shape (code t) n) t ds et (counts (code t) n h) q a told

  pub chain_headed : {b : ℕ} → a ≡ Some b → Headed (meant (counted_shape (code t) n)) t ds b
  chain_headed e = headed_at (meant (counted_shape (code t) n)) t ds q.some told e
