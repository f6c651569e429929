-- The fields of the token and the bits of the extensions.
use mathlib.Core.Path.{refl}
use Rattle.layouts.specs.Shapes.{meant}
use Rattle.format.specs.Dwords.{dwords_of}
use Rattle.instruction_write.proofs.Rowed.{chain_rises, row_is}
use Rattle.instruction_write.proofs.Source.known_row.Goals as goal

pub type_bits-requires : goal.type_bits-requires
type_bits-requires c = chain_rises c.args.s (dwords_of c.args.self.part.now) _ _ _ c.chain_end-to.ensures c.requires

pub returns : goal.returns
returns c =
    let f = c.args.self in
    rw (c.row.ensures, c.number.ensures)
    (row_is (meant c.args.s) f.token (dwords_of f.part.now) c.args.end _ f.place.offset _ f.place.row c.args.operands f.place.word c.args.words _ _ _ _ _ _ c.chain_end-to.ensures refl c.fields_of-f.ensures c.type_bits.ensures.0 c.long_bit.ensures c.of_type.ensures c.of_type-2.ensures c.of_type-3.ensures)
