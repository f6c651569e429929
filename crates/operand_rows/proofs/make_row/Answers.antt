use Rattle.operand_rows.specs.Writes.{row_for}
use Rattle.operand_rows.proofs.make_row.Goals as goal

pub returns : goal.returns
unfolding row_for
returns c =
    simp (
      c.type_of.ensures,
      c.form.ensures,
      c.selection.ensures,
      c.dimension.ensures,
      c.reprs.ensures,
      c.placed.ensures,
      c.placed-2.ensures,
      c.placed-3.ensures,
      c.placed-4.ensures,
      c.placed-5.ensures,
      c.placed-6.ensures,
      c.own.ensures,
      c.own-2.ensures,
      c.own-3.ensures,
      c.nests.ensures,
      c.nests-2.ensures,
      c.nests-3.ensures,
      c.repr-r0.ensures,
      c.repr-r1.ensures,
      c.repr-r2.ensures,
    )
