-- What is told of a token, of its fields and of the items that are dwords as they are.
use Rattle.std.specs.Prelude.{Option, Some, None, ℕ, ◌+◌, ◌-◌, ◌≤◌, ◌≡◌, List, [], ◌∷◌, ◌++◌, Bool, true, false, cond, not, ◌&&◌, ◌||◌, length, drop, replicate, eqb, ltb, ◌%◌, ◌^◌}
use Rattle.format.specs.Dwords.{bits, Got, malformed, got, then, none_left}
use Rattle.format.specs.Counts.{within, Fields, token_with, rising}
use Rattle.format.specs.Framing.{code}
use Rattle.format.specs.Declarations.{Item, d, small, s, Layout, field_in, in_bounds}
use Rattle.format.specs.Operands.{Tree, exact_parts}
use Rattle.format.specs.Instructions.{read_items, fields_of, extensions}
use Rattle.format.specs.Rows.{parts_rows, parts_words}
use Rattle.layouts.specs.Shapes.{listed, tailed, field_of, Laid}
use Rattle.layouts.specs.declared.Kind.TheVariants.{Declaration}
use Rattle.layouts.specs.declared.Shape.{Shape}
use Rattle.instruction_fields.specs.declared.Fields.{Fields as CodeFields}

-- what the parts of an instruction come to; or they do not end with it
pub data Sum : Type 0 where
  off : Sum
  sum : ℕ → ℕ → Bool → Sum

abbrev pub add : ℕ → ℕ → Bool → Sum → Sum
add r w e off = off
add r w e (sum r₁ w₁ e₁) = sum (r + r₁) (w + w₁) (e && e₁)

abbrev pub total : Got (List Tree) → Sum
total malformed = off
total (got ps left) = sum (parts_rows ps) (length (parts_words ps)) (exact_parts ps)

-- items read from some dwords, all of them
unfoldable pub sum_of : Bool → List Item → List ℕ → Sum
sum_of model51 items ds = total (then (read_items model51 items ds) (λ ps. none_left ps))

-- items that are dwords as they are take those from a place on to another, whatever items follow, in either model; or do not fit
pub data Passes (items : List Item) (ds : List ℕ) (at : ℕ) : Option ℕ → Type 0 where
  to : {k : ℕ} → at ≤ k → k ≤ length ds → ((m : Bool) (l : List Item) → sum_of m (items ++ l) (drop at ds) ≡ add 0 (k - at) true (sum_of m l (drop k ds))) → Passes items ds at (Some k)
  out : ((m : Bool) (l : List Item) → sum_of m (items ++ l) (drop at ds) ≡ off) → Passes items ds at None

-- the bits that count a list
pub data Bits : ℕ → Type 0 where
  low : Bits 16
  all : Bits 32

pub data Listed : ℕ → Type 0 where
  unlisted : Listed 0
  counted : {n : ℕ} → Bits n → Listed n

-- the items of a shape behind its operands
unfoldable pub rest : Shape → List Item
rest x = replicate x.small small ++ (replicate x.after d ++ (replicate x.extra s ++ (listed x.list ++ tailed x.tail)))

-- items that are dwords as they are end with the dwords, or not
abbrev pub Ends : Bool → List Item → List ℕ → ℕ → Bool → Type 0
Ends m items ds at r = sum_of m items (drop at ds) ≡ cond r (sum 0 (length ds - at) true) off

-- the code's fields are the definition's
abbrev pub fields_in : CodeFields → Fields
fields_in f = record { field = f.field; saturate = f.saturate; test = f.test; precise = f.precise; length = f.length; extended = f.extended }

-- what the class asks of n dwords behind the head
abbrev pub classed : ℕ → ℕ → ℕ → Bool
classed kind t n = not (eqb kind 5 && eqb (bits 11 15 t) 3) || eqb (n % 4) 0

-- a token, the dwords after it and the number of those behind are exact
unfoldable pub headed : Layout → ℕ → List ℕ → ℕ → Bool
headed x t e n = eqb t (token_with (code t) (fields_of x t)) && rising 0 (extensions x e) && in_bounds x.field t && classed x.kind t n

-- a token with nothing but its code, its length, saturate, test and precise
abbrev pub clear_token : ℕ → Bool
clear_token t = eqb (bits 11 12 t) 0 && eqb (bits 14 17 t) 0 && eqb (bits 23 23 t) 0 && eqb (bits 31 31 t) 0

-- the same, and with a test only if its code may have one
abbrev pub plain_token : ℕ → Bool
plain_token t = clear_token t && (eqb (bits 18 18 t) 0 || within (code t) (3 ∷ 5 ∷ 8 ∷ 13 ∷ 31 ∷ 63 ∷ []))

-- a token of a declaration with nothing but its code, its field, within its bounds, and its length
abbrev pub bare_token : Shape → ℕ → Bool
bare_token x t = ltb t (2 ^ 31) && eqb (bits 11 23 t) (field_in (field_of x) t) && in_bounds (field_of x) t

-- whether k small dwords stand at a place, if it is not past the end
abbrev pub IsSmall : ℕ → List ℕ → ℕ → Bool → Type 0
IsSmall k ds at r = r ≡ true → at ≤ length ds → Passes (replicate k small) ds at (Some (at + k))

-- the shape is a declaration's
pub record Declared (c : ℕ) (x : Shape) : Type 0 where
  pub laid : Laid c x
  pub kind : x.kind ≡ Declaration
  pub operands : x.operands ≤ 1
  pub ends : x.tail ≡ false
