use mathlib.Core.Path.{◌∙◌}
use native.Mathlib.Omega.{arith}
use Rattle.instruction_deep.proofs.Ways.{no_parts, misplaced, unlike, walks}
use Rattle.instruction_deep.proofs.known.Goals as goal

pub returns-in_err-past : goal.returns-in_err-past
returns-in_err-past c = c.from_residual.ensures ∙ no_parts c.args.instruction.now c.args.place c.args.model51 c.args.pools.now.operands.now c.args.pools.now.words.now c.args.pools.now.row c.args.pools.now.word (omega arith) _ c.shape_of-s.ensures c.parts_of.ensures c.in_err-past.was

pub returns-then-not-placed : goal.returns-then-not-placed
returns-then-not-placed c = misplaced c.args.instruction.now c.args.place c.args.model51 c.args.pools.now.operands.now c.args.pools.now.words.now c.args.pools.now.row c.args.pools.now.word (omega arith) _ c.shape_of-s.ensures c.parts_of.ensures _ c.in_ok-past.was c.number-kind.ensures c.placed.ensures c.if-not-placed.true

pub returns-then-not-pieces : goal.returns-then-not-pieces
returns-then-not-pieces c = unlike c.args.instruction.now c.args.place c.args.model51 c.args.pools.now.operands.now c.args.pools.now.words.now c.args.pools.now.row c.args.pools.now.word (omega arith) _ c.shape_of-s.ensures c.parts_of.ensures _ c.in_ok-past.was c.pieces.ensures c.if-not-pieces.true

pub returns : goal.returns
returns c = walks c.args.instruction.now c.args.place c.args.model51 c.args.pools.now.operands.now c.args.pools.now.words.now c.args.pools.now.row c.args.pools.now.word (omega arith) _ c.shape_of-s.ensures c.parts_of.ensures _ c.in_ok-past.was c.number-kind.ensures c.placed.ensures c.if-not-placed.false c.pieces.ensures c.if-not-pieces.false
