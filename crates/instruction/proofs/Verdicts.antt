-- From the sums of an instruction's parts to its verdict.
use Prim.Native.Nat.{ℕ, ◌-◌, ◌≤◌, ◌<◌}
use mathlib.Core.Path.{◌≡◌, refl, sym, ap, ◌∙◌, subst}
use mathlib.Core.List.{List, [], ◌∷◌, ◌++◌, append-nil}
use mathlib.Core.Bool.{Bool, true, false, cond, ◌&&◌, and-false}
use lib.ListN.{length, get_or, drop, length-drop}
use lib.Seq.{slice}
use native.Mathlib.Omega.{arith}
use borrow.Author.Tests.{lt-ltb, le-ltb, eq-eqb, ne_eqb}
use Rattle.format.specs.Dwords.{Got, malformed, got, then, dword, none_left}
use Rattle.format.specs.Framing.{code, code_of}
use Rattle.format.specs.Declarations.{Layout, layout}
use Rattle.format.specs.Operands as op
use Rattle.format.specs.Operands.{Tree}
use Rattle.format.specs.Instructions.{Instruction, pieces, ok, inexact, read_head, read_items, split, fault, exact_class, exact_pieces, checked, judged, read}
use Rattle.format.specs.Rows.{parts_rows, parts_words, parts, tree_words, tree_rows}
use Rattle.format.proofs.Dwords.{impossible, All, unmet, met}
use Rattle.format.proofs.Instructions.{makes_items}
use Rattle.std.specs.Prelude.{Some, None, Result, Err}
use Rattle.instruction.specs.declared.Body.{Body}
use Rattle.instruction.specs.declared.Needs.{Needs}
use Rattle.instruction.specs.declared.Fault.{Fault}
use Rattle.instruction.specs.declared.Fault.TheVariants.{Miscounted, Inexact}
use Rattle.instruction_fields.specs.Fields.{Sum, off, sum, total, sum_of, headed}
use Rattle.instruction.specs.Measure.{fine, body_of, verdict}
use Rattle.instruction_fields.proofs.Heads.{Headed}

-- a code not known
pub verdict_unread : (c : ℕ) (m : Bool) (ds : List ℕ) → c ≤ code_of ds → fine 0 (length ds) ≡ verdict (read c m ds)
unfolding read parts parts_rows parts_words tree_rows tree_words
verdict_unread c m ds h = rw (le-ltb (code_of ds) c h, append-nil, append-nil ds)

-- what a sum says of the reading
data Summed (m : Bool) (x : Layout) (ds : List ℕ) : Sum → Type 0 where
  lost : ((f : List Tree → Instruction) → then (read_items m x.items ds) (λ ps. none_left (f ps)) ≡ malformed) → Summed m x ds off
  kept : {ps : List Tree} → read_items m x.items ds ≡ got ps [] → Summed m x ds (sum (parts_rows ps) (length (parts_words ps)) (op.exact_parts ps))

summed : (m : Bool) (x : Layout) (ds : List ℕ) → Summed m x ds (sum_of m x.items ds)
unfolding sum_of none_left
summed m x ds = go (read_items m x.items ds) refl
  where
    go : (g : Got (List Tree)) → read_items m x.items ds ≡ g → Summed m x ds (total (then g (λ ps. none_left ps)))
    go malformed e = lost (λ f. rw e)
    go (got ps []) e = kept e
    go (got ps (y ∷ r)) e = lost (λ f. rw e)

dword_first : (ds : List ℕ) → 0 < length ds → dword ds ≡ got (get_or ds 0 0) (drop 1 ds)
unfolding dword
dword_first [] h = impossible (omega arith)
dword_first (t ∷ ds) h = refl

-- the parts behind a head of which b dwords stand before them
parts_left : {ds : List ℕ} {g : Got (List Tree)} {ps : List Tree} → All (λ qs r. op.parts_dwords qs ++ r ≡ ds) g → g ≡ got ps [] → length (op.parts_dwords ps) ≡ length ds
parts_left unmet e = impossible (cc)
parts_left {ps = ps} (met {a = qs} {r = r} p) e =
    let z : qs ≡ ps = cc in
    let y : r ≡ [] = cc in
    ap length (sym (append-nil (op.parts_dwords ps)) ∙ (rw (z, y) at p))

pub verdict_known : (c : ℕ) (m : Bool) (ds : List ℕ) (t : ℕ) → t ≡ get_or ds 0 0 → code t < c → verdict (judged (layout (code t)) (split m (layout (code t)) ds)) ≡ verdict (read c m ds)
unfolding read code_of
verdict_known c m ds t et k = rw (← et, lt-ltb (code t) c k)

module _ (x : Layout) (m : Bool) (ds : List ℕ) (t : ℕ) (h : 0 < length ds) (et : t ≡ get_or ds 0 0) where
  split_head : split m x ds ≡ then (read_head x t (drop 1 ds)) (λ e r. then (read_items m x.items r) (λ ps. none_left (pieces t e ps)))
  unfolding split
  split_head = rw (dword_first ds h, ← et)

  faulty : split m x ds ≡ malformed → verdict (fault x) ≡ verdict (judged x (split m x ds))
  unfolding judged
  faulty z = sym (ap (λ (g : Got Instruction). verdict (judged x g)) z)

  pub head_lost : {r : Result Needs Fault} → r ≡ verdict (fault x) → read_head x t (drop 1 ds) ≡ malformed → r ≡ verdict (judged x (split m x ds))
  head_lost f e = f ∙ faulty (split_head ∙ rw e)

  module _ {b : ℕ} (k : Headed x t ds b) where
    abbrev e : List ℕ
    e = slice 1 b ds

    items_lost : sum_of m x.items (drop b ds) ≡ off → verdict (fault x) ≡ verdict (judged x (split m x ds))
    items_lost z = go (summed m x (drop b ds)) z
      where
        go : {a : Sum} → Summed m x (drop b ds) a → a ≡ off → verdict (fault x) ≡ verdict (judged x (split m x ds))
        go (lost f) z = faulty (split_head ∙ rw k.is (f (λ ps. pieces t e ps)))
        go (kept f) z = impossible (cc)

    -- whether the pieces are exact
    abbrev sharp : Bool → Bool
    sharp ex = headed x t e (length ds - b) && ex

    checks : (ps : List Tree) → read_items m x.items (drop b ds) ≡ got ps [] → cond (sharp (op.exact_parts ps)) (fine (parts_rows ps) (length (parts_words ps))) (Err Inexact) ≡ verdict (judged x (split m x ds))
    unfolding judged checked exact_pieces exact_class none_left parts headed
    checks ps f =
        let n : length (op.parts_dwords ps) ≡ length ds - b = parts_left (makes_items m x.items (drop b ds)) f ∙ length-drop b ds in
        let z : split m x ds ≡ got (pieces t e ps) [] = split_head ∙ rw (k.is, f) in
        rw (z, n) (go (sharp (op.exact_parts ps)))
      where
        go : (q : Bool) → cond q (fine (parts_rows ps) (length (parts_words ps))) (Err Inexact) ≡ verdict (cond q (ok (pieces t e ps)) inexact)
        go true = refl
        go false = refl

    items_kept : {r w : ℕ} {ex : Bool} → sum_of m x.items (drop b ds) ≡ sum r w ex → cond (sharp ex) (fine r w) (Err Inexact) ≡ verdict (judged x (split m x ds))
    items_kept {r} {w} {ex} z = go (summed m x (drop b ds)) z
      where
        go : {a : Sum} → Summed m x (drop b ds) a → a ≡ sum r w ex → cond (sharp ex) (fine r w) (Err Inexact) ≡ verdict (judged x (split m x ds))
        go (lost f) z = impossible (cc)
        go (kept {ps = ps} f) z =
            let a : parts_rows ps ≡ r = cc in
            let d : length (parts_words ps) ≡ w = cc in
            let q : op.exact_parts ps ≡ ex = cc in
            rw (← a, ← d, ← q) (checks ps f)

    -- by what the code was told of the parts
    pub parts_off : {r : Result Needs Fault} → r ≡ verdict (fault x) → None ≡ body_of (sum_of m x.items (drop b ds)) → r ≡ verdict (judged x (split m x ds))
    parts_off {r} f p = go (sum_of m x.items (drop b ds)) refl p
      where
        go : (a : Sum) → sum_of m x.items (drop b ds) ≡ a → None ≡ body_of a → r ≡ verdict (judged x (split m x ds))
        go off z w = f ∙ items_lost z
        go (sum u v ex) z w = impossible (cc)

    module _ {y : Body} (p : Some y ≡ body_of (sum_of m x.items (drop b ds))) where
      told : sum_of m x.items (drop b ds) ≡ sum y.rows y.words y.exact
      told = go (sum_of m x.items (drop b ds)) refl p
        where
          go : (a : Sum) → sum_of m x.items (drop b ds) ≡ a → Some y ≡ body_of a → sum_of m x.items (drop b ds) ≡ sum y.rows y.words y.exact
          go off z w = impossible (cc)
          go (sum u v g) z w =
              let a₁ : u ≡ y.rows = cc in
              let a₂ : v ≡ y.words = cc in
              let a₃ : g ≡ y.exact = cc in
              z ∙ (λ i. sum (a₁ i) (a₂ i) (a₃ i))

      pub parts_inexact : y.exact ≡ false → Err Inexact ≡ verdict (judged x (split m x ds))
      parts_inexact z = sym (rw (z, and-false (headed x t e (length ds - b))) at (sym (items_kept told)))

      pub head_inexact : (c : Bool) → c ≡ headed x t e (length ds - b) → c ≡ false → Err Inexact ≡ verdict (judged x (split m x ds))
      head_inexact c f z = sym (rw (← f, z) at (sym (items_kept told)))

      pub all_fine : y.exact ≡ true → (c : Bool) → c ≡ headed x t e (length ds - b) → c ≡ true → fine y.rows y.words ≡ verdict (judged x (split m x ds))
      all_fine z c f w = sym (rw (z, ← f, w) at (sym (items_kept told)))

-- the fault
module _ (x : Layout) where
  pub uncounted : (x.kind ≡ 1 → ⊥) → Err Inexact ≡ verdict (fault x)
  unfolding fault
  uncounted h = rw (ne_eqb x.kind 1 h)

  pub count_0 : x.kind ≡ 1 → (n : ℕ) → n ≡ length x.items → n ≤ 1 → Err Inexact ≡ verdict (fault x)
  unfolding fault
  count_0 e n f h = rw (eq-eqb x.kind 1 e, ← f, le-ltb 1 n h)

  pub count_above : x.kind ≡ 1 → (n : ℕ) → n ≡ length x.items → 1 < n → Err Miscounted ≡ verdict (fault x)
  unfolding fault
  count_above e n f h = rw (eq-eqb x.kind 1 e, ← f, lt-ltb 1 n h)

pub verdict_unread_at : (c : ℕ) (m : Bool) (ds : List ℕ) (t : ℕ) → t ≡ get_or ds 0 0 → (n : ℕ) → n ≡ length ds → c ≤ code t → fine 0 n ≡ verdict (read c m ds)
unfolding code_of
verdict_unread_at c m ds t et n en h = ap (fine 0) en ∙ verdict_unread c m ds (subst (λ (x : ℕ). c ≤ code x) et h)
