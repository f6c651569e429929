-- What the short ways over a usual row answer.
use Rattle.std.specs.Prelude.{ℕ, ◌+◌, ◌-◌, ◌*◌, ◌^◌, ◌<◌, ◌≡◌, List, [], ◌∷◌, Bool, true, cond, ltb, Option, Some, IfSome}
use Rattle.std.proofs.Math.Option.{some as just}
use Rattle.format.specs.Dwords.{bits}
use Rattle.format.specs.Counts.{within, operand_count}
use Rattle.format.specs.Declarations.{field_in, in_bounds}
use Rattle.format.specs.Encoder.{at, chain_of}
use Rattle.layouts.specs.Shapes.{field_of}
use Rattle.layouts.specs.declared.Shape.{Shape}
use Rattle.instruction_deep.specs.Confirm.{confirm_known}
use Rattle.instruction_deep.specs.declared.Walked.{Walked}
use Rattle.instruction_deep.specs.Walks.{walked_instruction, some_parts, Runs, Unchained, Chained}

-- a row of a code with k operands
pub record Counted (q : List ℕ) (k : ℕ) : Type 0 where
  pub count : operand_count (at 2 q) ≡ just k
  pub below : at 2 q < 2048

-- bits 13 and 18 of the token of a code c; only some codes have the second
pub record Bits (c saturate test : ℕ) : Type 0 where
  pub first : saturate < 2
  pub second : test < 2
  pub tested : test ≡ cond (within c (3 ∷ 5 ∷ 8 ∷ 13 ∷ 31 ∷ 63 ∷ [])) test 0

-- a row without a field, of other numbers that a token holds as they are; the field bits of 190 have saturate's
pub record Plain (q : List ℕ) : Type 0 where
  pub code_is : at 2 q ≡ 190 → ⊥
  pub bits_are : Bits (at 2 q) (at 4 q) (at 5 q)
  pub precise_is : at 6 q < 16
  pub field_is : at 7 q ≡ 0

-- a plain row that tells this place, first operand row, first word and number of words
pub record Ready (q : List ℕ) (place r w n : ℕ) : Type 0 where
  pub place_is : at 0 q ≡ place
  pub row_is : at 12 q ≡ r
  pub row_below : r < 2 ^ 32
  pub word_is : at 14 q ≡ w
  pub words_are : at 15 q ≡ n
  pub plain : Plain q

-- the chain that words 8 to 11 of a row tell
abbrev pub chain_in : List ℕ → List ℕ
chain_in q = chain_of (at 8 q) (at 9 q) (at 10 q) (at 11 q)

abbrev pub Linked : List ℕ → Type 0
Linked q = Chained (ltb 0 (at 8 q)) (at 8 q) (at 9 q) (at 10 q) (at 11 q)

-- what walking answers of a known code, in either model
abbrev pub Known : List ℕ → ℕ → List ℕ → List ℕ → ℕ → ℕ → Option Walked → Type 0
Known q place rs ws r w a = (m : Bool) → a ≡ walked_instruction (confirm_known m q place rs ws r w)

-- the same, if there is an answer
abbrev pub KnownIf : List ℕ → ℕ → List ℕ → List ℕ → ℕ → ℕ → Option Walked → Type 0
KnownIf q place rs ws r w a = IfSome a (λ x. Known q place rs ws r w (Some x))

-- a declaration's field begins at bit 11 or 16
abbrev pub Stepped : Shape → Type 0
Stepped x = (x.first ≡ 11 → ⊥) → x.first ≡ 16

-- a token that has f in bits 11 to 23 holds it as its field, within its bounds
pub record Fitting (x : Shape) (f : ℕ) : Type 0 where
  pub narrow : f < 2 ^ 13
  pub field_is : (t : ℕ) → bits 11 23 t ≡ f → field_in (field_of x) t ≡ f
  pub bounds : (t : ℕ) → bits 11 23 t ≡ f → in_bounds (field_of x) t ≡ true

-- a short declaration's token: its code, its field and its length
abbrev pub short_token : List ℕ → ℕ
short_token q = at 2 q + at 7 q * 2 ^ 11 + at 1 q * 2 ^ 24

-- a row with nothing but a field, which that token holds within its bounds
pub record OnlyField (q : List ℕ) (x : Shape) : Type 0 where
  pub no_saturate : at 4 q ≡ 0
  pub no_test : at 5 q ≡ 0
  pub no_precise : at 6 q ≡ 0
  pub no_chain : Unchained q 0
  pub below : at 2 q < 2 ^ 11
  pub short : at 1 q < 2 ^ 7
  pub narrow : at 7 q < 2 ^ 13
  pub field_is : field_in (field_of x) (short_token q) ≡ at 7 q
  pub bounds : in_bounds (field_of x) (short_token q) ≡ true

-- k operands without an extension, each in a row of its own, stand between two words; None says nothing
abbrev pub Lone : ℕ → List ℕ → List ℕ → ℕ → ℕ → Option ℕ → Type 0
Lone k rs ws r w p = IfSome p (λ v. Runs k rs ws r w (some_parts (r + k) v (k + (v - w))))
