-- One dword is copied, and the row is that of one index; the selection of an exact dword takes all of its bits.
use mathlib.Core.Path.{◌≡◌, refl, sym}
use Prim.Native.Nat.{◌+◌, ◌-◌, ◌/◌, ◌%◌}
use native.Mathlib.Omega.{arith}
use native.Mathlib.Nat.{add-zero}
use Rattle.format.specs.Dwords.{dwords_of}
use Rattle.format.specs.Operands.{dimension, selection}
use Rattle.format.proofs.Dwords.{length_dwords}
use Rattle.tokens.proofs.Low.{exact_selection}
use Rattle.operand_rows.specs.Writes.{flat_row}
use Rattle.operand_rows.proofs.Copies.{copied_more}
use Rattle.operand_rows.proofs.single.Goals as goal

pub overflow_add-at : goal.overflow_add-at
overflow_add-at c = omega (arith, c.requires, length_dwords c.args.part.now)

pub returns : goal.returns
unfolding flat_row
returns c =
    let a = c.args in
    let one : dimension a.token ≡ 1 = c.requires.0 in
    let all : a.token / 16 % 256 ≡ selection a.token = exact_selection a.token (omega (arith, c.ranges)) c.requires.1 in
    let two : a.at + 1 - a.at + 1 ≡ 2 = omega arith in
    record {
      rows_are = refl;
      words_are = sym one;
      dwords_are = rw (one, two);
      rows_put = rw (c.put_row.ensures, c.numbers.ensures, c.lone_row.ensures, one, all, two);
      words_put = rw (one, c.dword.ensures) (rw (add-zero (a.at + 1)) at (copied_more (dwords_of a.part.now) a.words.now (a.at + 1) 0 (omega (arith, c.requires)) (omega (arith, c.requires))));
    }
