use Prim.Native.Nat.{◌+◌, ◌*◌}
use Rattle.operand_write.proofs.+extended_index_tree.Given as goal

abbrev pub decreases-extended : goal.decreases-extended
decreases-extended l = l.left * 4 + 2

abbrev pub decreases-index : goal.decreases-index
decreases-index l = l.left * 4

abbrev pub decreases-tree : goal.decreases-tree
decreases-tree l = l.left * 4 + 1
