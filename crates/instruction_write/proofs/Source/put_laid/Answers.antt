-- The row by either of two shapes of a code.
use mathlib.Core.Path.{◌∙◌}
use Rattle.format.specs.Dwords.{dwords_of}
use Rattle.layouts.proofs.Others.{counts}
use Rattle.instruction_write.proofs.Counting.{ready_by, row_by, stored_as}
use lib.ListN.{length}
use lib.Seq.{slice}
use Rattle.format.specs.Framing.{code}
use Rattle.layouts.specs.Shapes.{meant}
use Rattle.instruction_write.specs.Writes.{counted_shape, row_for}
use Rattle.instruction_write.proofs.Source.put_laid.Goals as goal

pub known_row-requires : goal.known_row-requires
known_row-requires c = ready_by (counts _ c.args.n c.requires.0) c.counted_layout-s.ensures c.requires.2

pub returns : goal.returns
returns c =
    let f = c.args.self in
    stored_as c.args.instructions.now (row_for (meant (counted_shape (code f.token) c.args.n)) f.token (slice 1 c.args.end (dwords_of f.part.now)) f.place.offset (length (dwords_of f.part.now)) f.place.row c.args.n f.place.word c.args.words) c.put_row.ensures (c.numbers.ensures ∙ row_by _ _ _ _ _ _ _ _ c.counted_layout-s.ensures (counts _ c.args.n c.requires.0) c.known_row.ensures)
