-- The layout of a code with no row in the table of declarations.
use Prim.Native.Nat.{ℕ, suc, ◌+◌, ◌-◌, ◌<◌, ◌≤◌}
use mathlib.Core.Path.{◌≡◌, refl, sym, ◌∙◌, ap}
use mathlib.Core.Bool.{Bool, true, false, cond, ◌&&◌, ◌||◌}
use mathlib.Core.List.{List, [], ◌∷◌, ◌++◌, map}
use mathlib.Core.Option as m
use mathlib.Core.Option.{none, some}
use native.Mathlib.Omega.{arith}
use Rattle.std.proofs.lemmas.Bool.Decides.{nat_tests}
use mathlib.Core.Bool.{or-false}
use lib.Dec.{eqb, leb, ltb}
use lib.ListN.{length, get_or, drop, replicate}
use borrow.Author.Tests.{leb-true, ne_eqb, le-leb, lt-ltb, le-ltb}
use Rattle.std.specs.Prelude.{Some, None, is_some}
use Rattle.format.specs.Counts.{numbers, within, ◌‥◌, operand_counts, line_of, operand_count}
use Rattle.format.specs.Declarations.{Item, o, tail, Field, no, from, declarations, Layout, by_count, in_table, layout}
use Rattle.format.proofs.Dwords.{impossible}
use Rattle.layouts.specs.declared.Kind.TheVariants.{Counted, Opaque, Phase, CustomData}
use Rattle.layouts.specs.Shapes.{counted, field_of, items_of, Laid}
use Rattle.layouts.specs.Table.{row_of, plain_shape, width_of}
use Rattle.layouts.proofs.Lines.{line}
use Rattle.format.proofs.Each.{below, absent, member}
use Rattle.layouts.proofs.Shapes.{plain_sound}

-- a code that fails a test which all codes of the table pass is in none of its rows
not_in_table : (p : ℕ → Bool) (c : ℕ) (x : Layout) (l : List (List ℕ × Field × List Item)) → map (λ r. map p r.0) l ≡ map (λ r. map (λ x. true) r.0) l → p c ≡ false → in_table l c x ≡ x
unfolding in_table
not_in_table p c x [] e h = refl
not_in_table p c x (r ∷ l) e h =
    rw (absent p r.0 (ap (λ m. get_or m 0 []) e) c h) (not_in_table p c x l (ap (drop 1) e) h)

-- a line's number is below that of the lines
line_under : (ls : List (List ℕ)) (n c k : ℕ) → line_of n ls c ≡ some k → k < n + length ls
unfolding line_of
line_under [] n c k e = impossible (cc)
line_under (l ∷ ls) n c k e = go (within c l) e (line_under ls (suc n) c k)
  where
    go : (b : Bool) → cond b (some n) (line_of (suc n) ls c) ≡ some k → (line_of (suc n) ls c ≡ some k → k < suc n + length ls) → k < n + suc (length ls)
    go true e f = let h : n ≡ k = cc in omega arith
    go false e f = omega (arith, f e)

-- and not below the first's
line_over : (ls : List (List ℕ)) (n c k : ℕ) → line_of n ls c ≡ some k → n ≤ k
unfolding line_of
line_over [] n c k e = impossible (cc)
line_over (l ∷ ls) n c k e = go (within c l) e (line_over ls (suc n) c k)
  where
    go : (b : Bool) → cond b (some n) (line_of (suc n) ls c) ≡ some k → (line_of (suc n) ls c ≡ some k → suc n ≤ k) → n ≤ k
    go true e f = let h : n ≡ k = cc in omega arith
    go false e f = omega (arith, f e)

-- a code of line k stands in it
line_in : (ls : List (List ℕ)) (n c k : ℕ) → line_of n ls c ≡ some k → within c (get_or ls (k - n) []) ≡ true
unfolding line_of
line_in [] n c k e = impossible (cc)
line_in (l ∷ ls) n c k e = go (within c l) refl e (line_in ls (suc n) c k)
  where
    go : (b : Bool) → within c l ≡ b → cond b (some n) (line_of (suc n) ls c) ≡ some k → (line_of (suc n) ls c ≡ some k → within c (get_or ls (k - suc n) []) ≡ true) → within c (get_or (l ∷ ls) (k - n) []) ≡ true
    go true q e f = let h : n ≡ k = cc in let z : k - n ≡ 0 = omega arith in rw z q
    go false q e f = let z : k - n ≡ suc (k - suc n) = omega (arith, line_over ls (suc n) c k e) in rw z (f e)

-- the layouts of a line's codes are those that its count tells, computed once over all lines
laid_by_count : (c n : ℕ) → operand_count c ≡ some n → layout c ≡ by_count c (some n)
unfolding numbers within line_of operand_count in_table layout
laid_by_count c n e =
    let h : n < 7 = omega (arith, line_under operand_counts 0 c n e) in
    let all = below (λ k. map layout (line k)) (λ k. map (λ x. by_count x (some k)) (line k)) 7 refl n h in
    let z : n - 0 ≡ n = omega arith in
    member layout (λ x. by_count x (some n)) (line n) all c (rw z at (line_in operand_counts 0 c n e))

within_two : (c a b : ℕ) → within c (a ∷ b ∷ []) ≡ (eqb c a || eqb c b)
unfolding within
within_two c a b = simp or-false

-- 113 to 116
among_phases : (c : ℕ) → within c (113 ‥ 116) ≡ (leb 113 c && ltb c 117)
unfolding numbers within
among_phases c = grind (arith, nat_tests)

module _ (c : ℕ) where
  -- a code with no row, no phase and no custom data: as it is counted
  pub by_count_lem : None ≡ row_of c → (c ≡ 53 → ⊥) → (113 ≤ c → c ≤ 116 → ⊥) → layout c ≡ by_count c (operand_count c)
  unfolding layout numbers within row_of
  by_count_lem h k m =
      let t : is_some (row_of c) ≡ false = ap is_some (sym h) in
      rw (among_phases c ∙ no_phase (leb 113 c) refl, ne_eqb c 53 k) (not_in_table (λ x. is_some (row_of x)) c (by_count c (operand_count c)) declarations refl t)
    where
      no_phase : (b : Bool) → leb 113 c ≡ b → (b && ltb c 117) ≡ false
      no_phase true e = let f = leb-true 113 c e in le-ltb c 117 (omega (arith, m f))
      no_phase false e = refl

  pub custom : c ≡ 53 → Laid c (plain_shape CustomData 5 0 true)
  unfolding layout numbers within field_of items_of
  custom e = record { meaning = rw e; sound = plain_sound CustomData 5 0 true (omega arith) (omega arith) }

  pub phase : 113 ≤ c → c ≤ 116 → Laid c (plain_shape Phase 0 0 false)
  unfolding layout numbers field_of items_of
  phase h k = record { meaning = rw (among_phases c, le-leb 113 c h, lt-ltb c 117 (omega arith)); sound = plain_sound Phase 0 0 false (omega arith) (omega arith) }

  -- no count
  pub opaque : layout c ≡ by_count c (operand_count c) → operand_count c ≡ none → Laid c (plain_shape Opaque 0 0 true)
  unfolding field_of items_of
  opaque e h = record { meaning = sym (e ∙ ap (by_count c) h); sound = plain_sound Opaque 0 0 true (omega arith) (omega arith) }

  -- a count, and the field bits of 61, 111 and 190; no such code has a row, is a phase or custom data
  pub counts : (n : ℕ) → operand_count c ≡ some n → Laid c (plain_shape Counted (width_of c) n true)
  unfolding numbers operand_count field_of items_of width_of
  counts n s =
      record { meaning = sym (laid_by_count c n s ∙ ap shown fields); sound = plain_sound Counted (width_of c) n true narrow (omega (arith, line_under operand_counts 0 c n s)) }
    where
      shown : Field → Layout
      shown f = record { kind = 1; field = f; items = replicate n o ++ tail ∷ [] }

      fields : cond (within c (61 ∷ 111 ∷ [])) (from 11 12) (cond (eqb c 190) (from 11 14) no) ≡ field_of (plain_shape Counted (width_of c) n true)
      fields = rw (within_two c 61 111) (go (eqb c 61 || eqb c 111) (eqb c 190))
        where
          go : (a b : Bool) → cond a (from 11 12) (cond b (from 11 14) no) ≡ field_of (plain_shape Counted (cond a 2 (cond b 4 0)) n true)
          go true b = refl
          go false true = refl
          go false false = refl

      narrow : width_of c ≤ 13
      narrow = go (eqb c 61 || eqb c 111) (eqb c 190)
        where
          go : (a b : Bool) → cond a 2 (cond b 4 0) ≤ 13
          go true b = omega arith
          go false true = omega arith
          go false false = omega arith

-- a count that was told
pub is_counted : (c n : ℕ) → Some n ≡ counted (operand_count c) → operand_count c ≡ some n
is_counted c n e = go (operand_count c) e
  where
    go : (m : m.Option ℕ) → Some n ≡ counted m → m ≡ some n
    go none e = impossible (cc)
    go (some k) e = let q : n ≡ k = cc in ap some (sym q)
