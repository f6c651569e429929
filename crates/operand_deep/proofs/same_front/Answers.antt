use Rattle.operand_deep.specs.Walks.{front_for}
use Rattle.std.proofs.Common.{arith}
use Rattle.operand_deep.proofs.SameRows.{same_first}
use Rattle.operand_deep.proofs.same_front.Goals as goal

pub returns : goal.returns
unfolding front_for
returns c = rw (c.type_of.ensures, c.form.ensures, c.selection.ensures, c.modifiers.ensures, c.placed.ensures, c.dimension.ensures, c.reprs.ensures) (same_first c.args.row.now (omega arith) _ _ _ _ _ _ _ _)
