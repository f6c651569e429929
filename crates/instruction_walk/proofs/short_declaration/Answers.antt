use native.Mathlib.Omega.{arith}
use Rattle.instruction_walk.proofs.Declared.{behind_lone, ends, declared_walks}
use Rattle.instruction_walk.proofs.short_declaration.Goals as goal

pub past_rest-requires : goal.past_rest-requires
past_rest-requires c = ((behind_lone c.args.model51 c.args.s c.args.pools.now.operands.now c.args.pools.now.words.now c.args.pools.now.row c.args.pools.now.word c.args.pools.now.within _ c.past_dwords.ensures.place _ c.in_ok-a.was _ c.in_ok-b.ensures).1, c.requires.1.laid.sound)

pub overflow_sub-k : goal.overflow_sub-k
overflow_sub-k c = (ends c.args.model51 c.args.s c.args.pools.now.operands.now c.args.pools.now.words.now c.args.pools.now.row c.args.pools.now.word c.args.pools.now.within _ c.past_dwords.ensures.place _ c.in_ok-a.was _ c.in_ok-b.ensures _ c.past_rest.ensures _ c.in_ok-k.was).0

pub returns : goal.returns
returns c = declared_walks c.args.model51 c.args.s c.args.pools.now.operands.now c.args.pools.now.words.now c.args.pools.now.row c.args.pools.now.word c.args.pools.now.within _ c.past_dwords.ensures.place _ c.in_ok-a.was _ c.in_ok-b.ensures _ c.past_rest.ensures _ c.in_ok-k.was c.args.instruction.now c.args.place (omega arith) c.requires.1 c.requires.0 c.number-kind.ensures (c.placed.ensures.0 c.if-not-placed.false) c.if-instruction-dwords.false
