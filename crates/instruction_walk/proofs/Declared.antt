-- The short way of a declaration: a row with nothing but a field needs no other token, and its operand stands alone.
use Prim.Native.Nat.{ℕ, ◌+◌, ◌-◌, ◌*◌, ◌/◌, ◌^◌, ◌<◌, ◌≤◌}
use mathlib.Core.Path.{◌≡◌, refl, sym, ap, ◌∙◌, subst}
use mathlib.Core.List.{List, [], ◌∷◌, map}
use mathlib.Core.Bool.{Bool, true, false, cond, ◌&&◌, ◌||◌}
use native.Mathlib.Omega.{arith}
use lib.ListN.{length, get_or, drop}
use lib.Seq.{get_or-drop}
use lib.Dec.{eqb}
use borrow.Author.Tests.{ne_eqb}
use Rattle.format.specs.Dwords.{bits, follows}
use Rattle.format.specs.Framing.{code, long, sized, length_of}
use Rattle.format.specs.Counts.{within, numbers, line_of, operand_count, token_with}
use Rattle.format.specs.Declarations.{Layout, in_table, layout, chained, field_in}
use Rattle.format.specs.Instructions.{fields_of}
use Rattle.format.specs.Encoder.{at, sized_row, token_of_row, head_of_row}
use Rattle.format.proofs.Dwords.{impossible}
use Rattle.format.proofs.Each.{member}
use Rattle.layouts.specs.Shapes.{kind_number, meant, field_of, items_of}
use Rattle.layouts.specs.declared.Shape.{Shape}
use Rattle.operand_walk.specs.declared.Ran.{Ran}
use Rattle.operand_walk.specs.Walks.{Run, empty, next, IsRun}
use Rattle.instruction_fields.specs.Fields.{Declared, rest}
use Rattle.instruction_fields.specs.Places.{dwords_on}
use Rattle.std.specs.Prelude.{Option, Some}
use Rattle.instruction_deep.specs.Confirm.{confirm_known}
use Rattle.instruction_deep.specs.Walks.{some_walked, some_parts, walked_instruction, Takes, Runs, PassesIn, Headed, Fielded, Pieces, Placed}
use Rattle.instruction_walk.specs.Short.{short_token, OnlyField, Lone}
use Rattle.instruction_deep.proofs.Deciding.{holds}
use Rattle.instruction_deep.proofs.Items.{bounds}
use Rattle.instruction_deep.proofs.Heads.{no_dword, bare_head}
use Rattle.instruction_deep.proofs.Runs.{begin, finished, first_bounds, third_bounds, all_parts_lem}
use Rattle.instruction_walk.proofs.Alone.{run_takes}
use Rattle.instruction_deep.proofs.Ways.{walks}

-- ---- the token
and_no : (b : Bool) → (b && false) ≡ false
and_no true = refl
and_no false = refl

either_way : (b : Bool) (n : ℕ) → n ≡ 0 → cond b n 0 ≡ 0
either_way true n e = e
either_way false n e = refl

record Split (t c n : ℕ) : Type 0 where
  code_is : code t ≡ c
  length_is : bits 24 30 t ≡ n
  top : bits 31 31 t ≡ 0

split : (t c f n : ℕ) → t ≡ c + f * 2 ^ 11 + n * 2 ^ 24 → c < 2048 → f < 2 ^ 13 → n < 2 ^ 7 → Split t c n
split t c f n z hc hf hn =
    let d₂₄ : t / 2 ^ 24 ≡ n = omega arith in
    let d₃₁ : t / 2 ^ 31 ≡ 0 = omega arith in
    record { code_is = omega arith; length_is = rw d₂₄ (omega arith); top = rw d₃₁ }

module _ (q : List ℕ) (x : Shape) (g : Declared (at 2 q) x) (p : OnlyField q x) where
  abbrev c : ℕ
  c = at 2 q

  abbrev t : ℕ
  t = token_of_row q

  by_shape : layout c ≡ meant x
  by_shape = sym g.laid.meaning

  kind_4 : (layout c).kind ≡ 4
  kind_4 = ap (λ (y : Layout). y.kind) by_shape ∙ ap kind_number g.kind

  -- codes of another kind declare nothing
  of_another : (k : ℕ) (cs : List ℕ) → map (λ c. (layout c).kind) cs ≡ map (λ c. k) cs → (k ≡ 4 → ⊥) → within c cs ≡ false
  of_another k cs e n = go (within c cs) refl
    where
      go : (b : Bool) → within c cs ≡ b → b ≡ false
      go true z = absurd (n (sym (member (λ c. (layout c).kind) (λ c. k) cs e c z) ∙ kind_4))
      go false z = refl

  untested : within c (3 ∷ 5 ∷ 8 ∷ 13 ∷ 31 ∷ 63 ∷ []) ≡ false
  unfolding numbers within line_of operand_count in_table layout
  untested = of_another 1 (3 ∷ 5 ∷ 8 ∷ 13 ∷ 31 ∷ 63 ∷ []) refl (λ e. omega arith)

  not_53 : eqb c 53 ≡ false
  unfolding numbers within line_of operand_count in_table layout
  not_53 = ne_eqb c 53 (λ e. let z : 5 ≡ 4 = ap (λ (c : ℕ). (layout c).kind) (sym e) ∙ kind_4 in omega arith)

  short_row : sized_row q ≡ false
  unfolding sized_row
  short_row = rw (p.no_chain.bits_are, not_53) (and_no (eqb c 145 || eqb c 146))

  made : t ≡ short_token q
  unfolding token_of_row
  made = rw (short_row, p.no_chain.bits_are, p.no_saturate, p.no_test, p.no_precise) (omega arith)

  parts : Split t c (at 1 q)
  parts = split t c (at 7 q) (at 1 q) made p.below p.narrow p.short

  code_of : at 2 q ≡ code t
  code_of = sym parts.code_is

  unfollowed : follows t ≡ false
  unfolding follows
  unfollowed = rw parts.top

  not_long : long t ≡ false
  unfolding long
  not_long = rw unfollowed (and_no (eqb (code t) 145 || eqb (code t) 146))

  unsized : sized t ≡ false
  unfolding sized
  unsized = rw (parts.code_is, not_53, not_long)

  -- it is exact
  field_of_lem : field_in (field_of x) t ≡ at 7 q
  field_of_lem = rw made p.field_is

  fielded : Fielded q (fields_of (meant x) t)
  unfolding fields_of
  fielded = record {
    saturate_is = rw g.kind p.no_saturate;
    test_is = rw (parts.code_is, untested) p.no_test;
    precise_is = rw g.kind p.no_precise;
    field_is = sym field_of_lem;
  }

  no_top : (fields_of (meant x) t).extended ≡ 0
  unfolding fields_of
  no_top = either_way (chained (meant x) || long t) (bits 31 31 t) parts.top

  own_length : (fields_of (meant x) t).length ≡ at 1 q
  unfolding fields_of
  own_length = rw unsized parts.length_is

  exact : t ≡ token_with (code t) (fields_of (meant x) t)
  exact = omega (arith, made, code_of, p.no_saturate, p.no_test, p.no_precise, fielded.saturate_is, fielded.test_is, fielded.precise_is, fielded.field_is, no_top, own_length)

  same_layout : layout (code t) ≡ meant x
  same_layout = ap layout parts.code_is ∙ by_shape

  unchained : chained (layout (code t)) ≡ false
  unchained = rw (same_layout, g.kind)

  no_head : head_of_row q ≡ []
  no_head = no_dword q t code_of unsized unchained p.no_chain

  head : Headed q (meant x) t (head_of_row q)
  head = rw (← same_layout) (bare_head q t code_of unsized unchained p.no_chain)

  token_length : length_of t (head_of_row q) ≡ at 1 q
  unfolding length_of
  token_length = rw unsized parts.length_is

  declared_pieces : (n : ℕ) → at 1 q ≡ 1 + n → Pieces q n
  declared_pieces n e =
      let z : at 1 q ≡ 1 + length (head_of_row q) + n = e ∙ rw no_head (omega arith) in
      rw by_shape (record {
        token = exact;
        bounds = rw made p.bounds;
        class = rw g.kind;
        size = token_length ∙ z;
        dwords_are = z;
        code_is = code_of;
        fields_are = fielded;
        head = head;
      })

-- ---- an operand that stands alone
no_rows : {left : ℕ} {rs ws : List ℕ} {r w k p v n : ℕ} → Run left rs ws r w k p v n → k ≡ 0 → (p ≡ 0) × (n ≡ 0)
no_rows empty e = (refl, refl)
no_rows (next t e₁) e = impossible (omega arith)

own_dwords : {left : ℕ} {rs ws : List ℕ} {r w k p v n : ℕ} → Run left rs ws r w k p v n → k ≡ 1 → n ≡ get_or rs (16 * r + 15) 0
own_dwords empty e = impossible (omega arith)
own_dwords {rs = rs} {r = r} (next {p = p} {n = n} t e₁) e =
    let z = no_rows t (omega arith) in
    let y : r + p ≡ r = omega (arith, z.0) in
    let u : n + at 15 (drop (16 * (r + p)) rs) ≡ at 15 (drop (16 * (r + p)) rs) = omega (arith, z.1) in
    u ∙ get_or-drop (16 * (r + p)) rs 15 0 ∙ ap (λ (j : ℕ). get_or rs (16 * j + 15) 0) y

module _ (k : ℕ) (rs ws : List ℕ) (r w : ℕ) (h : w ≤ length ws) where
  pub no_lone : k ≡ 0 → Lone k rs ws r w (Some w)
  no_lone z =
      let a : r ≡ r + k = omega arith in
      let b : 0 ≡ k + (w - w) = omega arith in
      subst (Runs k rs ws r w) (λ i. some_parts (a i) w (b i)) (finished (begin k rs ws r w h) (omega arith))

  module _ (l : k ≤ 1) (z : k ≡ 0 → ⊥) {x : Ran} (f : IsRun rs r w 1 (length ws) x) (er : x.rows ≡ 0) (ed : x.dwords ≡ 0) where
    abbrev y : ℕ
    y = get_or rs (16 * r + 15) 0

    lone_size : y ≡ 1 + (f.past - w)
    lone_size =
        let a : 1 + (f.past - w) + x.dwords ≡ y = own_dwords (f.runs 62 ws refl) refl in
        omega arith

    pub lone_fits : (1 ≤ y) × (w + y ≤ length ws + 1)
    lone_fits = (omega (arith, lone_size), omega (arith, lone_size, f.words_from, f.words_to))

    pub one_lone : Lone k rs ws r w (Some (w + y - 1))
    one_lone =
        let v : ℕ = w + y - 1 in
        let b : f.past ≡ v = omega (arith, lone_size, f.words_from) in
        let d : 1 + (f.past - w) + x.dwords ≡ 1 + (v - w) = omega (arith, b) in
        let p : r + (1 + x.rows) ≡ r + 1 = omega arith in
        let j : 1 ≡ k = omega (arith, z) in
        let one : Runs 1 rs ws r w (some_parts (r + 1) v (1 + (v - w))) = subst (Runs 1 rs ws r w) (λ i. some_parts (p i) (b i) (d i)) (run_takes (f.runs 62 ws refl) h) in
        subst (λ (c : ℕ). Runs c rs ws r w (some_parts (r + c) v (c + (v - w)))) j one

-- ---- walking it
module _ (m : Bool) (x : Shape) (rs ws : List ℕ) (r w : ℕ) (hw : w ≤ length ws) (p : Option ℕ) (ep : p ≡ dwords_on (length ws) w x.before) (a : ℕ) (ea : p ≡ Some a) (b : ℕ) (run : Runs x.operands rs ws r a (some_parts (r + x.operands) b (x.operands + (b - a)))) where
  pub behind_lone : (a ≤ b) × (b ≤ length ws)
  behind_lone = let s = bounds (run m) in (s.words_from, s.words_to)

  module _ (v : Option ℕ) (last : PassesIn m (rest x) ws b v) (end : ℕ) (ee : v ≡ Some end) where
    pub ends : (w ≤ end) × (end ≤ length ws)
    ends =
        let f = first_bounds m x rs ws r w hw p ep a ea in
        let t = third_bounds m x rs ws r w hw p ep a ea run _ refl v last end ee in
        (omega (arith, f, behind_lone, t), t.1)

    declared_parts : Takes m (items_of x) x.operands rs ws r w (some_parts (r + x.operands) end (x.operands + (end - w)))
    declared_parts =
        let f = first_bounds m x rs ws r w hw p ep a ea in
        let t = third_bounds m x rs ws r w hw p ep a ea run _ refl v last end ee in
        let y : a - w + (x.operands + (b - a)) + (end - b) ≡ x.operands + (end - w) = omega (arith, f, behind_lone, t) in
        rw y at (all_parts_lem m x rs ws r w hw p ep a ea run _ refl v last end ee)

    pub declared_walks : (q : List ℕ) (place : ℕ) → length q ≡ 16 → Declared (at 2 q) x → OnlyField q x → {kind : ℕ} → kind ≡ kind_number x.kind → Placed q place kind r x.operands w (end - w) → at 1 q ≡ 1 + x.operands + (end - w) →
        some_walked x.operands (1 + x.operands + (end - w)) ≡ walked_instruction (confirm_known m q place (drop (16 * r) rs) (drop w ws) r w)
    declared_walks q place h g f ek pl e =
        let j : x.operands ≡ r + x.operands - r = omega arith in
        let s : Pieces q (x.operands + (end - w)) = declared_pieces q x g f _ (omega arith) in
        (λ i. some_walked (j i) (sym e i)) ∙ walks q place m rs ws r w h x g.laid declared_parts _ refl ek (holds pl) refl (holds s) refl
