use Rattle.std.proofs.Common.{arith}
use Rattle.operand_walk.proofs.Alone.{none_row}
use Rattle.operand_walk.proofs.no_words.Goals as goal

pub returns-then-row-extended : goal.returns-then-row-extended
returns-then-row-extended c = none_row c.told-row c.requires.0 c.requires.1 (c.no_indices.ensures c.if-no_indices.true) (omega (arith, c.extended.ensures.value))
