use Rattle.format.specs.Dwords.{dwords_of}
use Rattle.format.specs.Operands.{operand, read_indices}
use Rattle.operand.specs.Measures.{measured, extensions, behind}
use Rattle.operand.proofs.Indices.{Going}
use Prim.Native.Nat.{◌+◌, ◌-◌, ◌*◌}
use Rattle.operand.proofs.+measure_index_tree.Given as goal

abbrev pub decreases-measure : goal.decreases-measure
decreases-measure l = l.left * 3 + 2

abbrev pub decreases-index : goal.decreases-index
decreases-index l = l.left * 3

abbrev pub decreases-front::Front::tree : goal.decreases-front::Front::tree
decreases-front::Front::tree l = l.left * 3 + 1

abbrev pub invariant-front::Front::tree-loop-i : goal.invariant-front::Front::tree-loop-i
invariant-front::Front::tree-loop-i l =
    Going (measured (read_indices (operand (l.left - 1)) l.self.token (extensions l.self) (behind l.self))) l.left (dwords_of l.self.part.now) l.self.at l.self.token l.i-end l.rows l.words l.place l.exact l.i
