-- The order of the table of declarations, and the shape that a row tells.
use Rattle.std.specs.Prelude.{Option, Some, None, ℕ, ◌+◌, ◌*◌, ◌-◌, ◌/◌, ◌%◌, ◌≡◌, Bool, false, cond, ◌||◌, eqb, ltb}
use Rattle.layouts.specs.declared.Kind.{Kind}
use Rattle.layouts.specs.declared.Kind.TheVariants.{Declaration}
use Rattle.layouts.specs.declared.Shape.{Shape}
use Rattle.layouts.specs.Shapes.{Laid}

-- rows 0 to 18: codes 88 to 106; 19: 120; 20 to 38: 144 to 162; 39: 206
unfoldable pub code_of : ℕ → ℕ
code_of i = cond (ltb i 19) (i + 88) (cond (ltb i 20) 120 (cond (ltb i 39) (i + 124) 206))

-- the row of a code, if it has one
unfoldable pub row_of : ℕ → Option ℕ
row_of c =
    cond (ltb c 88) None
    (cond (ltb c 107) (Some (c - 88))
    (cond (eqb c 120) (Some 19) (cond (ltb c 144) None (cond (ltb c 163) (Some (c - 124)) (cond (eqb c 206) (Some 39) None)))))

-- what stands in a row beside its code, in the low eight bits
abbrev pub shape_of : ℕ → Shape
shape_of x = record {
  kind = Declaration;
  first = 11 + x / 0x100 % 2 * 5;
  width = x / 0x200 % 16;
  bounded = x / 0x2000 % 8;
  lo = x / 0x10000 % 2;
  hi = x / 0x20000 % 16;
  before = x / 0x200000 % 4;
  operands = x / 0x800000 % 2;
  small = x / 0x1000000 % 2;
  after = x / 0x2000000 % 4;
  extra = x / 0x8000000 % 4;
  list = x / 0x20000000 % 4 * 16;
  tail = false;
}

-- row i of the table is its code's
pub record Right (i : ℕ) (x : ℕ) : Type 0 where
  pub code : x % 256 ≡ code_of i
  pub laid : Laid (code_of i) (shape_of x)

-- what stands in the row of a code that declares; nothing for another
pub record Declares (c : ℕ) (x : Option ℕ) : Type 0 where
  pub laid : (d : ℕ) → x ≡ Some d → Laid c (shape_of d)
  pub none : x ≡ None → row_of c ≡ None

-- a shape of operands and perhaps a tail, with field bits from bit 11 on
abbrev pub plain_shape : Kind → ℕ → ℕ → Bool → Shape
plain_shape k w n t = record { kind = k; first = 11; width = w; bounded = 0; lo = 0; hi = 0; before = 0; operands = n; small = 0; after = 0; extra = 0; list = 0; tail = t }

-- field bits of counted codes: 11-12 of 61 and 111, 11-14 of 190
unfoldable pub width_of : ℕ → ℕ
width_of c = cond (eqb c 61 || eqb c 111) 2 (cond (eqb c 190) 4 0)
