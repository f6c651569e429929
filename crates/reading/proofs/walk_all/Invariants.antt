use Prim.Native.Nat.{◌/◌}
use lib.ListN.{length}
use Rattle.reading.specs.Confirm.{confirm_all}
use Rattle.reading.specs.Walks.{dwords_from, Walking}
use Rattle.reading.proofs.walk_all.Given as goal

abbrev pub invariant-loop-row : goal.invariant-loop-row
invariant-loop-row l = Walking l.rules.ceiling l.rules.model51 l.instructions l.operands l.words l.row-index l.s (dwords_from 2 (confirm_all l.rules.ceiling l.rules.model51 (length l.instructions / 16) 8 l.instructions l.operands l.words 0 0))
