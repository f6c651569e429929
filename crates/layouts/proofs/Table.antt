-- The rule of the table of declarations; the row of a code.
use Prim.Native.Nat.{ℕ, ◌%◌, ◌<◌, ◌≤◌}
use mathlib.Core.Path.{◌≡◌, refl, ◌∙◌, ap, subst}
use mathlib.Core.Bool.{Bool, true, false, ◌&&◌}
use mathlib.Core.List.{List, map}
use native.Mathlib.Omega.{arith}
use lib.Dec.{eqb, ltb}
use lib.ListN.{length, get_or}
use borrow.Author.Tests.{eqb-true, ltb-true, ltb-false, le-ltb, ne_eqb}
use Rattle.std.specs.Prelude.{Option, Some, None}
use Rattle.format.specs.Counts.{numbers, within, line_of, operand_count}
use Rattle.format.specs.Declarations.{Layout, in_table, layout}
use Rattle.layouts.specs.declared.TheConstants.{DECLARATIONS}
use Rattle.layouts.specs.Shapes.{field_of, items_of, meant, Laid}
use Rattle.layouts.specs.Table.{code_of, row_of, shape_of, Right, Declares}
use Rattle.format.proofs.Dwords.{both, impossible}
use Rattle.format.proofs.Each.{at, below}
use Rattle.layouts.proofs.Shapes.{checks, passed, sound}

-- what a row tells, and what row i ought to
abbrev told : ℕ → ℕ × Layout × List Bool
told x = (x % 256, meant (shape_of x), checks (shape_of x))

abbrev due : ℕ → ℕ × Layout × List Bool
due i = (code_of i, layout (code_of i), passed)

-- a table that tells what it ought to is right in each row
right : (l : List ℕ) (z i : ℕ) → map told l ≡ map due (numbers (length l) 0) → i < length l → Right i (get_or l i z)
right l z i e h =
    let p : told (get_or l i z) ≡ due i = at told due l z e i h in
    record { code = ap (λ x. x.0) p; laid = record { meaning = ap (λ x. x.1) p; sound = sound (shape_of (get_or l i z)) (ap (λ x. x.2) p) } }

-- the rule of the whole table, computed once
pub rule : (i : ℕ) → i < 40 → Right i (get_or DECLARATIONS i 0)
unfolding numbers within line_of operand_count in_table layout field_of items_of code_of
rule i h = right DECLARATIONS 0 i refl h

-- ---- the row of a code
row_over : (c : ℕ) → 207 ≤ c → row_of c ≡ None
unfolding row_of
row_over c h =
    rw (le-ltb c 88 (omega arith), le-ltb c 107 (omega arith), ne_eqb c 120 (λ e. omega arith), le-ltb c 144 (omega arith), le-ltb c 163 (omega arith), ne_eqb c 206 (λ e. omega arith))

-- a code's row is one of the table's, and has the code
abbrev fits : Option ℕ → ℕ → Bool
fits None c = true
fits (Some i) c = ltb i 40 && eqb (code_of i) c

row_fits : (c : ℕ) → fits (row_of c) c ≡ true
unfolding code_of row_of numbers
row_fits c = go (ltb c 207) refl
  where
    go : (b : Bool) → ltb c 207 ≡ b → fits (row_of c) c ≡ true
    go true k = below (λ c. fits (row_of c) c) (λ c. true) 207 refl c (ltb-true c 207 k)
    go false k = rw (row_over c (ltb-false c 207 k))

module _ (c i : ℕ) (e : Some i ≡ row_of c) where
  fit : (ltb i 40 && eqb (code_of i) c) ≡ true
  fit = ap (λ r. fits r c) e ∙ row_fits c

  pub row_within : i < 40
  row_within = ltb-true i 40 (both _ _ fit).0

  row_code : code_of i ≡ c
  row_code = eqb-true _ _ (both _ _ fit).1

  -- so the row tells the code's layout
  pub of_row : (x : ℕ) → Right i x → Laid c (shape_of x)
  of_row x r = subst (λ n. Laid n (shape_of x)) row_code r.laid

  pub declares_row : (x : ℕ) → Right i x → Declares c (Some x)
  declares_row x r = record { laid = λ d k. let q : x ≡ d = cc in subst (λ n. Laid c (shape_of n)) q (of_row x r); none = λ z. impossible (cc) }
