use mathlib.Core.Path.{refl}
use Rattle.operand_rows.specs.Writes.{flat_row}
use Rattle.operand_rows.proofs.Front.flat.Goals as goal

pub returns : goal.returns
unfolding flat_row
returns c =
    record {
      rows_are = refl;
      words_are = cc;
      dwords_are = cc;
      rows_put = rw (c.put_row.ensures, c.numbers.ensures, c.lone_row.ensures, c.placed.ensures, c.placed-2.ensures, c.placed-3.ensures, c.dimension-dimension.ensures);
      words_put = cc;
    }
