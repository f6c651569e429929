use mathlib.Core.Path.{refl}
use Rattle.operand_rows.specs.Writes.{leaf_row}
use Rattle.operand_rows.proofs.Front.leaf.Goals as goal

pub returns : goal.returns
unfolding leaf_row
returns c =
    record {
      rows_are = refl;
      words_are = cc;
      dwords_are = cc;
      rows_put = simp (c.put_row.ensures, c.numbers.ensures, c.lone_row.ensures, c.placed.ensures, c.immediates-n.ensures);
      words_put = cc;
    }
