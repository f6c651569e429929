-- What stands after a token, as words 8 to 11 of its row tell it.
use Prim.Native.Nat.{ℕ, ◌+◌, ◌≤◌}
use mathlib.Core.Path.{◌≡◌, refl, sym, ap, ◌∙◌, subst}
use mathlib.Core.List.{List, [], ◌∷◌}
use mathlib.Core.Bool.{Bool, true, false, cond, ◌&&◌, ◌||◌}
use mathlib.Core.Logic.{◌⊎◌, inl, inr}
use native.Mathlib.Nat.{add-zero}
use native.Mathlib.Omega.{arith}
use lib.ListN.{length}
use lib.Dec.{eqb, ltb}
use borrow.Author.Tests.{eqb-true}
use Rattle.format.specs.Dwords.{bits, follows}
use Rattle.format.specs.Framing.{code, long, sized}
use Rattle.format.specs.Counts.{numbers, within, line_of, operand_count, rising, of_type, type_bits}
use Rattle.format.specs.Declarations.{in_table, Layout, layout, chained}
use Rattle.format.specs.Instructions.{extensions}
use Rattle.format.specs.Encoder.{at, chain_of, sized_row, head_of_row}
use Rattle.format.proofs.Dwords.{impossible, both}
use Rattle.std.specs.Prelude.{Option, Some, Decides}
use Rattle.std.specs.Bool.{then_some}
use Rattle.std.proofs.lemmas.Bool.Decides.{not_from_Decides}
use Rattle.instruction_deep.specs.Confirm.{linked, head_taken}
use Rattle.instruction_deep.specs.Walks.{Counts, are, none_are, Unchained, Chained, Headed}

-- ---- codes whose length may be in the next dword have no chain
chainless_145 : (c : ℕ) (b : Bool) → eqb c 145 ≡ b → (b || eqb c 146) ≡ true → chained (layout c) ≡ false
unfolding layout in_table within numbers operand_count line_of
chainless_145 c true e f = rw (eqb-true c 145 e)
chainless_145 c false e f = rw (eqb-true c 146 f)

chainless_53 : (c : ℕ) → eqb c 53 ≡ true → chained (layout c) ≡ false
unfolding layout in_table within numbers operand_count line_of
chainless_53 c e = rw (eqb-true c 53 e)

sized_chainless : (t : ℕ) → sized t ≡ true → chained (layout (code t)) ≡ false
unfolding sized long
sized_chainless t e = go (eqb (code t) 53) refl e
  where
    go : (b : Bool) → eqb (code t) 53 ≡ b → (b || (eqb (code t) 145 || eqb (code t) 146) && follows t) ≡ true → chained (layout (code t)) ≡ false
    go true p h = chainless_53 (code t) p
    go false p h = chainless_145 (code t) (eqb (code t) 145) refl (both (eqb (code t) 145 || eqb (code t) 146) (follows t) h).0

-- ---- which rows have their length in the next dword
module _ (q : List ℕ) (t : ℕ) (ec : at 2 q ≡ code t) where
  abbrev x : Layout
  x = layout (code t)

  abbrev Head : Type 0
  Head = Headed q x t (head_of_row q)

  sized_row_lem : sized t ≡ true → Unchained q (cond (long t) 8 0) → sized_row q ≡ true
  unfolding sized_row sized long
  sized_row_lem z u = rw (ec, u.bits_are) (go (eqb (code t) 53) (eqb (code t) 145 || eqb (code t) 146) (follows t) z)
    where
      go : (a b f : Bool) → (a || b && f) ≡ true → (a || b && ltb 0 (cond (b && f) 8 0)) ≡ true
      go true b f e = refl
      go false true true e = refl
      go false true false e = e
      go false false f e = e

  pub short_row : sized t ≡ false → (chained x ≡ true) ⊎ (at 8 q ≡ 0) → sized_row q ≡ false
  unfolding sized_row sized long
  short_row z h = rw ec (go (eqb (code t) 53) z)
    where
      chains : (b : Bool) → (eqb (code t) 145 || eqb (code t) 146) ≡ b → (b && ltb 0 (at 8 q)) ≡ false
      chains false e = refl
      chains true e = last h
        where
          last : (chained x ≡ true) ⊎ (at 8 q ≡ 0) → ltb 0 (at 8 q) ≡ false
          last (inl k) = let n = chainless_145 (code t) (eqb (code t) 145) refl e in impossible (cc)
          last (inr k) = rw k

      go : (a : Bool) → (a || (eqb (code t) 145 || eqb (code t) 146) && follows t) ≡ false → (a || (eqb (code t) 145 || eqb (code t) 146) && ltb 0 (at 8 q)) ≡ false
      go true e = e
      go false e = chains _ refl

  short : sized t ≡ false → long t ≡ false
  unfolding sized
  short e = go (eqb (code t) 53) (long t) e
    where
      go : (a b : Bool) → (a || b) ≡ false → b ≡ false
      go true b e = impossible (cc)
      go false b e = e

  -- ---- no chain: what the row tells is what stands there
  unchained_of : chained x ≡ false → Head → Unchained q (cond (long t) 8 0)
  unfolding extensions type_bits of_type
  unchained_of z h = record { bits_are = (rw z at h.bits_are) ∙ none (long t); no_first = rw z at h.first_is; no_second = rw z at h.second_is; no_third = rw z at h.third_is }
    where
      none : (b : Bool) → 0 + cond b 8 0 ≡ cond b 8 0
      none true = refl
      none false = refl

  headed_of : chained x ≡ false → Unchained q (cond (long t) 8 0) → head_taken x t (head_of_row q) ≡ true → Head
  unfolding extensions type_bits of_type rising
  headed_of z u k = record { risen = rw z; taken = k; bits_are = rw z (u.bits_are ∙ none (long t)); first_is = rw z u.no_first; second_is = rw z u.no_second; third_is = rw z u.no_third }
    where
      none : (b : Bool) → cond b 8 0 ≡ 0 + cond b 8 0
      none true = refl
      none false = refl

  -- the length dword
  module _ (z : sized t ≡ true) where
    one_dword_lem : Unchained q (cond (long t) 8 0) → head_of_row q ≡ at 1 q ∷ []
    unfolding head_of_row
    one_dword_lem u = rw (sized_row_lem z u)

    pub sized_dword : Head → head_of_row q ≡ at 1 q ∷ []
    sized_dword h = one_dword_lem (unchained_of (sized_chainless t z) h)

    sized_head : Unchained q (cond (long t) 8 0) → Head
    unfolding head_taken
    sized_head u = headed_of (sized_chainless t z) u (rw (z, one_dword_lem u))

  -- nothing
  module _ (z : sized t ≡ false) (k : chained x ≡ false) where
    at_none : Unchained q 0 → Unchained q (cond (long t) 8 0)
    at_none u = rw (short z) u

    pub no_dword : Unchained q 0 → head_of_row q ≡ []
    unfolding head_of_row
    no_dword u = rw (short_row z (inr u.bits_are), ec, k)

    pub bare_head : Unchained q 0 → Head
    unfolding head_taken linked
    bare_head u = headed_of k (at_none u) (rw (z, k, no_dword u))

    head_bare : Head → Unchained q 0
    head_bare h = rw (short z) at (unchained_of k h)

  -- a chain
  module _ (z : sized t ≡ false) (k : chained x ≡ true) where
    abbrev chain : List ℕ
    chain = chain_of (at 8 q) (at 9 q) (at 10 q) (at 11 q)

    pub a_chain : head_of_row q ≡ chain
    unfolding head_of_row
    a_chain = rw (short_row z (inl k), ec, k)

    pub chain_head : Chained (follows t) (at 8 q) (at 9 q) (at 10 q) (at 11 q) → Head
    unfolding head_taken extensions
    chain_head c = rw a_chain (record { risen = rw k c.risen; taken = rw (z, k) c.taken; bits_are = rw (k, short z) (c.bits_are ∙ sym (add-zero _)); first_is = rw k c.first_is; second_is = rw k c.second_is; third_is = rw k c.third_is })

    head_chain : Head → Chained (follows t) (at 8 q) (at 9 q) (at 10 q) (at 11 q)
    unfolding head_taken extensions
    head_chain h =
        let g : Headed q x t chain = subst (Headed q x t) a_chain h in
        record { risen = rw k at g.risen; taken = rw (z, k) at g.taken; bits_are = (rw (k, short z) at g.bits_are) ∙ add-zero _; first_is = rw k at g.first_is; second_is = rw k at g.second_is; third_is = rw k at g.third_is }

-- ---- the code's ways
counts_as : {P Q : Type 0} {n m : ℕ} {p : Option ℕ} → (P → Q) → (Q → P) → n ≡ m → Counts P n p → Counts Q m p
counts_as {P} {Q} {n} f g e (are h a) = subst (λ (k : ℕ). Counts Q k (Some n)) e (are h (f a))
counts_as f g e (none_are n) = none_are (λ b. n (g b))

-- what a test decides is counted where it holds
counts_if : {P Q : Type 0} {n k : ℕ} (u : Bool) → Decides u P → n ≤ 3 → (P → Q) → (Q → P) → (P → n ≡ k) → Counts Q k (then_some u n)
counts_if {P} {Q} {n} true d h f g e = subst (λ (k : ℕ). Counts Q k (Some n)) (e (d.0 refl)) (are h (f (d.0 refl)))
counts_if false d h f g e = none_are (λ b. not_from_Decides false d refl (g b))

module _ (q : List ℕ) (t : ℕ) (ec : at 2 q ≡ code t) (b : Bool) (eb : b ≡ sized t) where
  abbrev pub Answers : Option ℕ → Type 0
  Answers p = Counts (Headed q (layout (code t)) t (head_of_row q)) (length (head_of_row q)) p

  pub by_length : b ≡ true → {n : ℕ} → n ≡ cond (long t) 8 0 → {u : Bool} → Decides u (Unchained q n) → Answers (then_some u 1)
  by_length h en {u} d =
      let z : sized t ≡ true = sym eb ∙ h in
      counts_if u (subst (λ (n : ℕ). Decides u (Unchained q n)) en d) (omega arith) (sized_head q t ec z) (unchained_of q t ec (sized_chainless t z)) (λ a. sym (ap length (one_dword_lem q t ec z a)))

  module _ (h : b ≡ false) (kind : ℕ) (ek : kind ≡ (layout (code t)).kind) where
    pub by_chain : ltb kind 3 ≡ true → {p : Option ℕ} → Counts (Chained (eqb (bits 31 31 t) 1) (at 8 q) (at 9 q) (at 10 q) (at 11 q)) (length (chain_of (at 8 q) (at 9 q) (at 10 q) (at 11 q))) p → Answers p
    unfolding follows
    by_chain k {p} c =
        let z : sized t ≡ false = sym eb ∙ h in
        let y : chained (layout (code t)) ≡ true = ap (λ (j : ℕ). ltb j 3) (sym ek) ∙ k in
        counts_as (chain_head q t ec z y) (head_chain q t ec z y) (ap length (sym (a_chain q t ec z y))) c

    pub by_none : ltb kind 3 ≡ false → {u : Bool} → Decides u (Unchained q 0) → Answers (then_some u 0)
    by_none k {u} d =
        let z : sized t ≡ false = sym eb ∙ h in
        let y : chained (layout (code t)) ≡ false = ap (λ (j : ℕ). ltb j 3) (sym ek) ∙ k in
        counts_if u d (omega arith) (bare_head q t ec z y) (head_bare q t ec z y) (λ a. sym (ap length (no_dword q t ec z y a)))
