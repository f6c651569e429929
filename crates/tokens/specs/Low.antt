-- The bits that an operand's dword may have below its type.
use Rattle.std.specs.Prelude.{ℕ, [], ◌∷◌, get_or}

-- by the lowest four: those of one, mask, swizzle and scalar
abbrev pub allowed_bits : ℕ → ℕ
allowed_bits k = get_or (0 ∷ 0x001 ∷ 0x0F2 ∷ 0 ∷ 0 ∷ 0 ∷ 0xFF6 ∷ 0 ∷ 0 ∷ 0 ∷ 0x03A ∷ []) k 0
