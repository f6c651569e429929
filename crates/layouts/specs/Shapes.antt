-- What a count and a shape of the code mean, in the words of document 01's definitions.
use Rattle.std.proofs.Math.Option as m
use Rattle.std.proofs.Math.Option.{none, some}
use Rattle.std.specs.Prelude.{Option, Some, None, ◌⊎◌, ℕ, ◌+◌, ◌-◌, ◌<◌, ◌≤◌, ◌≡◌, List, [], ◌∷◌, ◌++◌, Bool, cond, replicate, eqb}
use Rattle.format.specs.Declarations.{Item, o, d, small, s, tail, list, Field, no, from, bounded, Layout, layout}
use Rattle.layouts.specs.declared.Kind.{Kind}
use Rattle.layouts.specs.declared.Kind.TheVariants.{Counted, Opaque, Phase, Declaration, CustomData}
use Rattle.layouts.specs.declared.Shape.{Shape}

-- a code's operand count, as the code holds it
abbrev pub counted : m.Option ℕ → Option ℕ
counted none = None
counted (some n) = Some n

-- the number of a kind
abbrev pub kind_number : Kind → ℕ
kind_number Counted = 1
kind_number Opaque = 2
kind_number Phase = 3
kind_number Declaration = 4
kind_number CustomData = 5

-- no width: no field bits; no bounded bits: width bits from the first on; else width bits from bit 11 on, the lowest bounded
unfoldable pub field_of : Shape → Field
field_of x =
    cond (eqb x.width 0) no
    (cond (eqb x.bounded 0) (from x.first (x.first + x.width - 1)) (bounded (x.first + x.width - 1) (10 + x.bounded) x.lo x.hi))

-- a list whose length stands in n bits of its first dword; 0: none
abbrev pub listed : ℕ → List Item
listed n = cond (eqb n 0) [] (list n ∷ [])

abbrev pub tailed : Bool → List Item
tailed b = cond b (tail ∷ []) []

unfoldable pub items_of : Shape → List Item
items_of x =
    replicate x.before d ++ (replicate x.operands o ++ (replicate x.small small ++
    (replicate x.after d ++ (replicate x.extra s ++ (listed x.list ++ tailed x.tail)))))

abbrev pub meant : Shape → Layout
meant x = record { kind = kind_number x.kind; field = field_of x; items = items_of x }

-- the numbers of every shape stay in these bounds
pub record Sound (x : Shape) : Type 0 where
  pub bits_from : 11 ≤ x.first
  pub bits_to : x.first + x.width ≤ 24
  pub bounded : x.bounded ≤ x.width
  pub bounded_from : 0 < x.bounded → x.first ≡ 11
  pub before : x.before ≤ 3
  pub operands : x.operands ≤ 6
  pub small : x.small ≤ 1
  pub after : x.after ≤ 2
  pub extra : x.extra ≤ 2
  pub list : (x.list ≡ 0) ⊎ ((x.list ≡ 16) ⊎ (x.list ≡ 32))

-- the shape is the code's layout
pub record Laid (c : ℕ) (x : Shape) : Type 0 where
  pub meaning : meant x ≡ layout c
  pub sound : Sound x
