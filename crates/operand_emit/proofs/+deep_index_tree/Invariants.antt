use Prim.Native.Nat.{◌+◌, ◌*◌}
use Rattle.operand_emit.proofs.+deep_index_tree.Given as goal

abbrev pub decreases-deep : goal.decreases-deep
decreases-deep l = l.left * 3 + 2

abbrev pub decreases-tree : goal.decreases-tree
decreases-tree l = l.left * 3 + 1

abbrev pub decreases-index : goal.decreases-index
decreases-index l = l.left * 3
