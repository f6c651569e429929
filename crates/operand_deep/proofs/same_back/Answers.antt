use Rattle.operand_deep.specs.Walks.{back_for}
use Rattle.std.proofs.Common.{arith}
use Rattle.operand_deep.proofs.SameRows.{same_second}
use Rattle.operand_deep.proofs.same_back.Goals as goal

pub returns : goal.returns
unfolding back_for
returns c = rw (c.placed.ensures, c.placed-2.ensures, c.placed-3.ensures, c.placed-4.ensures, c.placed-5.ensures, c.placed-6.ensures, c.own.ensures, c.own-2.ensures, c.own-3.ensures, c.nests.ensures, c.nests-2.ensures, c.nests-3.ensures, c.repr-i.ensures, c.repr-j.ensures, c.repr-k.ensures) (same_second c.args.row.now (omega arith) _ _ _ _ _ _ _ _)
