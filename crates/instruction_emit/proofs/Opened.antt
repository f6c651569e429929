-- What a confirmed instruction is made of: words alone; or a token, what stands after it, and parts.
use Prim.Native.Nat.{ℕ, ◌+◌, ◌*◌, ◌-◌, ◌/◌, ◌^◌, ◌<◌, ◌≤◌}
use mathlib.Core.Path.{◌≡◌, refl, sym, ap, ◌∙◌}
use mathlib.Core.Bool.{Bool, true, false, cond, ◌&&◌, ◌||◌}
use mathlib.Core.List.{List, [], ◌∷◌}
use native.Mathlib.Omega.{arith}
use lib.ListN.{length, drop}
use lib.Pow.{pow_mono, pow-add}
use lib.Dec.{ltb, eqb}
use borrow.Author.Tests.{eqb-true, lt-ltb}
use Rattle.format.specs.Dwords.{follows}
use Rattle.format.specs.Framing.{code, long, length_of}
use Rattle.format.specs.Counts.{token_with, extension_type, rising, type_bits}
use Rattle.format.specs.Declarations.{layout, in_bounds}
use Rattle.format.specs.Operands.{Tree, parts_dwords}
use Rattle.format.specs.Instructions.{Instruction, unread, pieces, fields_of, extensions, dwords}
use Rattle.format.specs.Rows.{parts_words, top_level, parts, unread_row, instruction_row}
use Rattle.format.specs.Encoder.{at, sized_row, token_of_row, head_of_row, same}
use Rattle.format.proofs.Dwords.{impossible, both}
use Rattle.format.proofs.Chains.{rose}
use Rattle.format.proofs.Remade.{kind_positive}
use Rattle.instruction_fields.specs.Fields.{classed, headed}
use Rattle.operand_deep.proofs.Every.{Every, unmet, met, every_then, every_if, every_of}
use Rattle.instruction_deep.specs.Confirm.{head_taken, confirm_pieces, confirm_known, confirm_unread, confirm_instruction}
use Rattle.instruction_deep.proofs.Layouts.{token_below}
use Rattle.instruction_deep.proofs.Sound.{sound}
use Rattle.instruction_emit.specs.Emits.{Is, Fits, before}
use Rattle.instruction_emit.proofs.Items.{Around, items_around}

-- ---- the types of a chain are 1, 2 and 3, each at most once
doubled : (j : ℕ) → 0 < j → 2 ^ j ≡ 2 * 2 ^ (j - 1)
doubled j h = let e : j ≡ 1 + (j - 1) = omega arith in ap (λ (n : ℕ). 2 ^ n) e ∙ pow-add 2 1 (j - 1)

bits_rise : (k : ℕ) (l : List ℕ) → k < 4 → rising k l ≡ true → type_bits l + 2 ^ k ≤ 8
unfolding type_bits
bits_rise k [] h z = let p : 2 ^ k ≤ 2 ^ 3 = pow_mono {i = k} {j = 3} (omega arith) in omega (arith, p)
bits_rise k (e ∷ l) h z =
    let r = rose k e l z in
    let j : ℕ = extension_type e in
    let p : 2 ^ k ≤ 2 ^ (j - 1) = pow_mono {i = k} {j = j - 1} (omega (arith, r.more)) in
    omega (arith, p, doubled j (omega (arith, r.more)), bits_rise j l r.less r.then)

-- ---- the numbers of a row
long_sized : (q : List ℕ) (t n : ℕ) → at 2 q ≡ code t → at 8 q ≡ n + cond (long t) 8 0 → sized_row q ≡ false → long t ≡ false
unfolding sized_row long
long_sized q t n a b h = go (eqb (code t) 145 || eqb (code t) 146) (follows t) refl refl
  where
    go : (x y : Bool) → (eqb (code t) 145 || eqb (code t) 146) ≡ x → follows t ≡ y → (x && y) ≡ false
    go true true ex ey =
        let k : ltb 0 (at 8 q) ≡ true = lt-ltb 0 (at 8 q) (omega (arith, rw (ex, ey) at b)) in
        let z : (eqb (code t) 53 || true) ≡ false = rw (a, ex, k) at h in
        or_true (eqb (code t) 53) z
      where
        or_true : (x : Bool) → (x || true) ≡ false → true ≡ false
        or_true true z = z
        or_true false z = z
    go true false ex ey = refl
    go false y ex ey = refl

-- ---- what is confirmed of an instruction, beside what its rows and words are
data Shown (q rs ws : List ℕ) (r w : ℕ) : Instruction → Type 0 where
  not_read : Shown q rs ws r w (unread ws)
  read : {ps : List Tree} → headed (layout (at 2 q)) (token_of_row q) (head_of_row q) (length (parts_dwords ps)) ≡ true → (ws ≡ parts_words ps → Around (before (at 2 q)) rs ws r w ps) → Shown q rs ws r w (pieces (token_of_row q) (head_of_row q) ps)

module _ (q : List ℕ) (place : ℕ) (rs ws : List ℕ) (r w : ℕ) where
  shown_pieces : (ps : List Tree) → (ws ≡ parts_words ps → Around (before (at 2 q)) rs ws r w ps) → Every (Shown q rs ws r w) (confirm_pieces q place r w (token_of_row q) (head_of_row q) ps)
  unfolding confirm_pieces
  shown_pieces ps f =
      let x = layout (at 2 q) in
      let t : ℕ = token_of_row q in
      let e : List ℕ = head_of_row q in
      let i : Instruction = pieces t e ps in
      let h : Bool = headed x t e (length (parts_dwords ps)) in
      let b : Bool = eqb (length_of t e) (length (dwords i)) in
      let y : Bool = same q (instruction_row place r w i) in
      every_if (h && head_taken x t e && b && y) _ _
      (λ z. met (read (both h (head_taken x t e) (both (h && head_taken x t e) b (both (h && head_taken x t e && b) y z).0).0).0 f))
      (λ z. unmet)

  shown_known : (m : Bool) → Every (Shown q rs ws r w) (confirm_known m q place rs ws r w)
  unfolding confirm_known
  shown_known m = every_then (items_around m rs r w ws (at 2 q)) shown_pieces

  shown_unread : Every (Shown q rs ws r w) (confirm_unread q place rs ws r w)
  unfolding confirm_unread
  shown_unread = every_if (ltb 0 (length ws) && eqb (length_of (at 0 ws) (drop 1 ws)) (length ws) && same q (unread_row place r w ws)) _ _ (λ z. met not_read) (λ z. unmet)

  shown : (c : ℕ) (m : Bool) → Every (Shown q rs ws r w) (confirm_instruction c m q place rs ws r w)
  unfolding confirm_instruction
  shown c m = go (ltb (at 2 q) c)
    where
      go : (b : Bool) → Every (Shown q rs ws r w) (cond b (confirm_known m q place) (confirm_unread q place) rs ws r w)
      go true = shown_known m
      go false = shown_unread

-- ---- its row
pub record Known (q rs ws : List ℕ) (r w : ℕ) (ps : List Tree) : Type 0 where
  pub is_read : at 3 q ≡ 0 → ⊥
  pub fits : Fits q
  pub count : at 13 q ≡ top_level ps
  pub around : Around (before (at 2 q)) rs ws r w ps

pub data Opened (q rs ws : List ℕ) (r w : ℕ) : Instruction → Type 0 where
  words_alone : at 3 q ≡ 0 → at 13 q ≡ 0 → Opened q rs ws r w (unread ws)
  known : {ps : List Tree} → Known q rs ws r w ps → Opened q rs ws r w (pieces (token_of_row q) (head_of_row q) ps)

row_fits : (place r w : ℕ) (q : List ℕ) (t : ℕ) (e : List ℕ) (ps : List Tree) → q ≡ instruction_row place r w (pieces t e ps) → t ≡ token_of_row q → headed (layout (at 2 q)) t e (length (parts_dwords ps)) ≡ true → Fits q
unfolding instruction_row headed
row_fits place r w q t e ps s et h =
    let x = layout (code t) in
    let a : at 2 q ≡ code t = ap (at 2) s in
    let b : at 8 q ≡ type_bits (extensions x e) + cond (long t) 8 0 = ap (at 8) s in
    let h₁ : headed x t e (length (parts_dwords ps)) ≡ true = rw a at h in
    let h₂ = both _ (classed x.kind t (length (parts_dwords ps))) h₁ in
    let h₃ = both _ (in_bounds x.field t) h₂.0 in
    let h₄ = both (eqb t (token_with (code t) (fields_of x t))) (rising 0 (extensions x e)) h₃.0 in
    record {
      token_fits = rw (← et) (token_below (code t) t (eqb-true t _ h₄.0));
      kind_is = ap (at 3) s ∙ ap (λ (n : ℕ). (layout n).kind) (sym a);
      bits_fit = λ z. omega (arith, rw (long_sized q t (type_bits (extensions x e)) a b z) at b, bits_rise 0 (extensions x e) (omega arith) h₄.1);
      offsets_fit = omega (arith, ap (at 9) s);
      second_fits = omega (arith, ap (at 10) s);
    }

open_shown : (place r w : ℕ) (q rs ws : List ℕ) {i : Instruction} → Shown q rs ws r w i → q ≡ instruction_row place r w i → ws ≡ parts_words (parts i) → Opened q rs ws r w i
unfolding parts
open_shown place r w q rs ws not_read s e = words_alone (unfold instruction_row unread_row in ap (at 3) s) (unfold instruction_row unread_row in ap (at 13) s)
open_shown place r w q rs ws (read {ps = ps} h f) s e =
    let g = row_fits place r w q (token_of_row q) (head_of_row q) ps s refl h in
    let n : at 13 q ≡ top_level ps = unfold instruction_row in ap (at 13) s in
    known (
    record {
      is_read = λ z. let k = kind_positive (at 2 q) in impossible (cc);
      fits = g;
      count = n;
      around = f e;
    }
    )

-- what is confirmed, opened
pub opened : (q rs ws : List ℕ) (o w : ℕ) (i : Instruction) → length ws ≡ at 15 q → Is q rs ws o w i → Opened q rs ws (o / 16) w i
opened q rs ws o w i n k =
    let s = sound k.ceiling k.model51 q k.place rs ws (o / 16) w i n k.confirmed in
    open_shown k.place (o / 16) w q rs ws (every_of k.confirmed (shown q k.place rs ws (o / 16) w k.ceiling k.model51)) s.row s.words
