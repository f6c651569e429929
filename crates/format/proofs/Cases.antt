-- The paper's cases and the vectors that settle its readings, computed.
use Prim.Native.Nat.{ℕ}
use mathlib.Core.Path.{◌≡◌, refl}
use mathlib.Core.List.{List, [], ◌∷◌, ◌++◌, map}
use lib.ListN.{length, replicate}
use lib.IntN.{ℤ, pos, negsuc}
use Rattle.format.specs.Dwords.{dwords_of, bytes_of, follows, dword, some, none_left, chain}
use Rattle.format.specs.Framing.{code_of, long, sized, length_of, frame, ceiling}
use Rattle.format.specs.Counts.{numbers, within, line_of, operand_count, lower_bits, rising, of_type, type_bits}
use Rattle.format.specs.Operands as op
use Rattle.format.specs.Declarations.{field_in, in_bounds, in_table, layout}
use Rattle.format.specs.Instructions as ins
use Rattle.format.specs.Rows.{tree_words, tree_rows, operand_row, tree_table, parts_words, parts_rows, parts_table, top_level, parts, unread_row, instruction_row, instruction_rows, all_parts}
use Rattle.format.specs.Refusals.{number, place, SHEX, first_of, header, first_pass, second_pass, readings, Outcome, refused, accepted, is_model51, body, read_chunk}
use Rattle.format.specs.Calls.{reached, signed, offset}

-- what a caller sees: a refusal's number and place; or the version token, the instructions' rows, the operands' rows, the words, and the
-- first row's u
pub data Seen : Type 0 where
  refusal : ℕ → ℕ → Seen
  rows : ℕ → List ℕ → List ℕ → List ℕ → ℤ → Seen

unfoldable pub seen : Outcome → Seen
seen (refused r) = refusal (number r) (place r)
seen (accepted v l) = let is = instruction_rows 8 0 0 l in rows v is (parts_table 0 0 (all_parts l)) (parts_words (all_parts l)) (offset 0 0 (length l) is)

-- dwords read as SHEX with enough room; the whole reading is opened by this one name
unfoldable pub reading : ℕ → List ℕ → Seen
unfolding seen read_chunk body is_model51 header first_of first_pass second_pass readings frame length_of long sized ceiling code_of bytes_of dwords_of follows dword some none_left chain numbers within line_of operand_count lower_bits rising of_type type_bits op.immediate op.form op.selection op.immediates op.reprs op.repr op.own op.nests op.known op.read_index op.read_immediates op.read_indices op.operand op.dwords op.modifiers op.exact_extension op.exact_dword op.exact op.parts_dwords op.exact_parts field_in in_bounds in_table layout ins.read_head ins.read_item ins.read_items ins.split ins.fault ins.fields_of ins.extensions ins.exact_class ins.exact_pieces ins.checked ins.judged ins.read ins.dwords tree_words tree_rows operand_row tree_table parts_words parts_rows parts_table top_level parts unread_row instruction_row instruction_rows all_parts offset reached signed
reading e ds = seen (read_chunk e SHEX (bytes_of ds))

pub record Case : Type 0 where
  pub edition : ℕ
  pub dwords : List ℕ
  pub expected : Seen

abbrev pub case : ℕ → List ℕ → Seen → Case
case e ds s = record { edition = e; dwords = ds; expected = s }

abbrev pub zeros : ℕ → List ℕ
zeros n = replicate n 0

-- P1 to P10, in order; P9 at editions 3 and 1
abbrev pub cases : List Case
cases =
    case 3 (0x50 ∷ 2 ∷ []) (rows 0x50 [] [] [] (pos 0)) ∷
    case 3 (0x50 ∷ 3 ∷ 0x0100003E ∷ []) (rows 0x50 (8 ∷ 1 ∷ 62 ∷ 1 ∷ zeros 12) [] [] (pos 0)) ∷
    case 3 (0x50 ∷ 3 ∷ 0x0000003A ∷ []) (refusal 11 8) ∷
    case 3 (0x50 ∷ 3 ∷ 0x0200003E ∷ []) (refusal 12 8) ∷
    case 3 (0x50 ∷ 4 ∷ 0x0200003E ∷ 0xAABBCCDD ∷ []) (rows 0x50 (8 ∷ 2 ∷ 62 ∷ 1 ∷ zeros 11 ++ 1 ∷ []) [] (0xAABBCCDD ∷ []) (pos 0)) ∷
    case 3 (0x50 ∷ 7 ∷ 0x05000036 ∷ 0x001000F2 ∷ 0 ∷ 0x00100E46 ∷ 1 ∷ []) (rows 0x50
    (8 ∷ 5 ∷ 54 ∷ 1 ∷ 0 ∷ 0 ∷ 0 ∷ 0 ∷ 0 ∷ 0 ∷ 0 ∷ 0 ∷ 0 ∷ 2 ∷ 0 ∷ 2 ∷ [])
    (0 ∷ 2 ∷ 15 ∷ 0 ∷ 0 ∷ 0 ∷ 1 ∷ 0 ∷ 0 ∷ 0 ∷ 0 ∷ 0 ∷ 0 ∷ 0 ∷ 1 ∷ 2 ∷ 0 ∷ 3 ∷ 228 ∷ 0 ∷ 0 ∷ 0 ∷ 1 ∷ 0 ∷ 1 ∷ 0 ∷ 0 ∷ 0 ∷ 0 ∷ 0 ∷ 1 ∷ 2 ∷ [])
    (0 ∷ 1 ∷ []) (pos 0)) ∷
    case 3 (0x50 ∷ 5 ∷ 0x03000036 ∷ 0x001000F2 ∷ 0 ∷ []) (refusal 13 8) ∷
    case 3 (0x50 ∷ 4 ∷ 0x35 ∷ 1 ∷ []) (refusal 11 12) ∷
    case 3 (0x50 ∷ 3 ∷ 0x010000BF ∷ []) (refusal 13 8) ∷
    case 1 (0x50 ∷ 3 ∷ 0x010000BF ∷ []) (rows 0x50 (8 ∷ 1 ∷ 191 ∷ 0 ∷ zeros 11 ++ 1 ∷ []) [] (0x010000BF ∷ []) (pos 0)) ∷
    case 3 (0x50 ∷ 4 ∷ 0x8200003A ∷ 0x1001 ∷ []) (rows 0x50 (8 ∷ 2 ∷ 58 ∷ 1 ∷ 0 ∷ 0 ∷ 0 ∷ 0 ∷ 1 ∷ 8 ∷ zeros 6) [] [] (negsuc 7)) ∷
    case 3 (0x50 ∷ 4 ∷ 0x8200003A ∷ 0x0E01 ∷ []) (rows 0x50 (8 ∷ 2 ∷ 58 ∷ 1 ∷ 0 ∷ 0 ∷ 0 ∷ 0 ∷ 1 ∷ 7 ∷ zeros 6) [] [] (pos 7)) ∷ []

abbrev pub AllRight : List Case → Type 0
AllRight l = map (λ (c : Case). reading c.edition c.dwords) l ≡ map (λ (c : Case). c.expected) l

pub jointly : AllRight cases
unfolding reading
jointly = refl
