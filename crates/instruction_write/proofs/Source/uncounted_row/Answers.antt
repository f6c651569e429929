-- The row of a declaration, from its token's field.
use Rattle.format.specs.Framing.{long}
use mathlib.Core.Bool.{false}
use mathlib.Core.Path.{◌≡◌, refl, sym, ap, ◌∙◌}
use lib.Seq.{slice}
use Rattle.format.specs.Dwords.{dwords_of}
use Rattle.layouts.specs.Shapes.{kind_number}
use Rattle.instruction_write.proofs.Plainly.{declared_row_at}
use Rattle.instruction_write.proofs.Source.uncounted_row.Goals as goal

pub returns-in-Declaration : goal.returns-in-Declaration
returns-in-Declaration c =
    let f = c.args.self in
    let short : long f.token ≡ false = sym c.long.ensures ∙ c.if-not-long.true in
    rw c.row.ensures
    (declared_row_at f.token c.args.s c.requires.0 (ap kind_number c.in-Declaration.is) short (slice 1 c.args.end (dwords_of f.part.now)) f.place.offset _ _ f.place.row c.args.s.operands f.place.word c.args.words _ refl c.field_of.ensures)
