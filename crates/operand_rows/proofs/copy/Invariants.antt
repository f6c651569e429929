use Rattle.std.proofs.Common.{◌≡◌, ◌++◌, take, drop}
use Rattle.format.specs.Dwords.{dwords_of}
use Rattle.operand_rows.proofs.copy.Given as goal

abbrev pub invariant-loop-i : goal.invariant-loop-i
invariant-loop-i l = l.word-items ≡ take l.i (drop l.at (dwords_of l.part)) ++ drop l.i l.initial.word-items
