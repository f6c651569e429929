-- An operand's dword that is exact, and has neither extensions nor representations.
use Rattle.std.specs.Prelude.{ℕ, ◌+◌, ◌/◌, cond, ◌&&◌, List, [], ◌∷◌, ltb, get_or, Option, Some, None}
use Rattle.format.specs.Operands.{immediate, immediates, exact_dword}

-- the bits that it has not, by the lowest four
abbrev pub strays : List ℕ
strays = 0xFFC0_0FFF ∷ 0xFFC0_0FFE ∷ 0xFFC0_0F0D ∷ 0xFFC0_0FFF ∷ 0xFFC0_0FFF ∷ 0xFFC0_0FFF ∷ 0xFFC0_0009 ∷ 0xFFC0_0FFF ∷ 0xFFC0_0FFF ∷ 0xFFC0_0FFF ∷ 0xFFC0_0FC5 ∷ []

abbrev pub stray_bits : ℕ → ℕ
stray_bits k = get_or strays k 0xFFC0_0FFF

-- how many dwords its operand has; None: it is another, or malformed
unfoldable pub usual_length : ℕ → Option ℕ
usual_length t = cond (ltb t 0x400000 && exact_dword t) (cond (immediate t) (cond (ltb t 0x100000) (Some (1 + immediates t)) None) (Some (1 + t / 0x100000))) None
