use native.Mathlib.Omega.{arith}
use mathlib.Core.Bool.{true}
use mathlib.Core.Path.{refl}
use Rattle.instruction_deep.proofs.Deciding.{told}
use Rattle.instruction_deep.proofs.Items.{bounds, all_few}
use Rattle.instruction_walk.proofs.Short.{one_by_one}
use Rattle.instruction_walk.proofs.by_count.Goals as goal

pub overflow_add-dwords-2 : goal.overflow_add-dwords-2
overflow_add-dwords-2 c = omega (arith, (told c.in_ok-chain.ensures refl).few, all_few (bounds (c.in_ok-past.ensures true)), c.well_formed)

pub overflow_sub-dwords : goal.overflow_sub-dwords
overflow_sub-dwords c = (bounds (c.in_ok-past.ensures true)).words_to

pub overflow_add-dwords-3 : goal.overflow_add-dwords-3
overflow_add-dwords-3 c = omega (arith, (told c.in_ok-chain.ensures refl).few, all_few (bounds (c.in_ok-past.ensures true)), c.well_formed)

pub overflow_sub-result : goal.overflow_sub-result
overflow_sub-result c = (bounds (c.in_ok-past.ensures true)).rows_from

pub returns : goal.returns
returns c = one_by_one c.args.instruction.now c.args.place c.args.pools.now.operands.now c.args.pools.now.words.now c.args.pools.now.row c.args.pools.now.word (omega arith) c.requires (c.plain.ensures c.if-not-plain.false) (c.placed.ensures.0 c.if-not-placed.false) c.in_ok-past.ensures c.in_ok-chain.ensures c.if-dwords-ge128.false c.if-instruction-dwords.false
