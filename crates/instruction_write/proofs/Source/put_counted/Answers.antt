-- The row of a plain token, from its bits.
use mathlib.Core.Path.{refl, sym, ◌∙◌}
use Prim.Native.Nat.{◌^◌, ◌<◌}
use native.Mathlib.Omega.{arith}
use Rattle.format.specs.Dwords.{dwords_of}
use Rattle.instruction_write.proofs.Plainly.{plain_row_at}
use Rattle.instruction_write.proofs.Counting.{stored_as}
use lib.ListN.{length}
use lib.Seq.{slice}
use Rattle.format.specs.Framing.{code}
use Rattle.layouts.specs.Shapes.{meant}
use Rattle.instruction_write.specs.Writes.{counted_shape, row_for}
use Rattle.instruction_write.proofs.Source.put_counted.Goals as goal

pub returns : goal.returns
returns c =
    let f = c.args.self in
    let small : f.token < 2 ^ 32 = omega arith in
    stored_as c.args.instructions.now (row_for (meant (counted_shape (code f.token) c.args.n)) f.token (slice 1 c.args.end (dwords_of f.part.now)) f.place.offset (length (dwords_of f.part.now)) f.place.row c.args.n f.place.word c.args.words) c.put_row.ensures (c.numbers.ensures ∙ rw c.row.ensures
    (plain_row_at f.token c.args.n c.requires.0 (sym c.plain.ensures ∙ c.if-not-plain.false) small c.if-t-eq190.false (dwords_of f.part.now) c.args.end c.requires.3 f.place.offset _ _ f.place.row c.args.n f.place.word c.args.words refl))
