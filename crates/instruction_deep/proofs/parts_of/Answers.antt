use mathlib.Core.Path.{sym, subst}
use native.Mathlib.Omega.{arith}
use Rattle.layouts.specs.Shapes.{items_of}
use Rattle.instruction_deep.specs.Walks.{Takes}
use Rattle.instruction_deep.proofs.Runs.{before_off, first_bounds, operands_off, second_bounds, rest_off, third_bounds, all_parts_lem, parts_few}
use Rattle.instruction_deep.proofs.parts_of.Goals as goal

pub returns-in_err-a : goal.returns-in_err-a
returns-in_err-a c = subst (Takes c.args.model51 (items_of c.args.s) c.args.s.operands c.args.pools.now.operands.now c.args.pools.now.words.now c.args.pools.now.row c.args.pools.now.word) (sym c.from_residual.ensures) (before_off c.args.model51 c.args.s c.args.pools.now.operands.now c.args.pools.now.words.now c.args.pools.now.row c.args.pools.now.word c.args.pools.now.within _ c.past_dwords.ensures.place c.in_err-a.was)

pub returns-in_err-past : goal.returns-in_err-past
returns-in_err-past c = subst (Takes c.args.model51 (items_of c.args.s) c.args.s.operands c.args.pools.now.operands.now c.args.pools.now.words.now c.args.pools.now.row c.args.pools.now.word) (sym c.from_residual-in_err-past.ensures) (operands_off c.args.model51 c.args.s c.args.pools.now.operands.now c.args.pools.now.words.now c.args.pools.now.row c.args.pools.now.word c.args.pools.now.within _ c.past_dwords.ensures.place _ c.in_ok-a.was c.operands_of.ensures c.in_err-past.was)

pub past_rest-requires : goal.past_rest-requires
past_rest-requires c = ((second_bounds c.args.model51 c.args.s c.args.pools.now.operands.now c.args.pools.now.words.now c.args.pools.now.row c.args.pools.now.word c.args.pools.now.within _ c.past_dwords.ensures.place _ c.in_ok-a.was c.operands_of.ensures _ c.in_ok-past.was).words_to, c.requires)

pub returns-in_err-end : goal.returns-in_err-end
returns-in_err-end c = subst (Takes c.args.model51 (items_of c.args.s) c.args.s.operands c.args.pools.now.operands.now c.args.pools.now.words.now c.args.pools.now.row c.args.pools.now.word) (sym c.from_residual-in_err-end.ensures) (rest_off c.args.model51 c.args.s c.args.pools.now.operands.now c.args.pools.now.words.now c.args.pools.now.row c.args.pools.now.word c.args.pools.now.within _ c.past_dwords.ensures.place _ c.in_ok-a.was c.operands_of.ensures _ c.in_ok-past.was _ c.past_rest.ensures c.in_err-end.was)

pub overflow_add-result : goal.overflow_add-result
overflow_add-result c = omega (arith, c.well_formed, first_bounds c.args.model51 c.args.s c.args.pools.now.operands.now c.args.pools.now.words.now c.args.pools.now.row c.args.pools.now.word c.args.pools.now.within _ c.past_dwords.ensures.place _ c.in_ok-a.was, second_bounds c.args.model51 c.args.s c.args.pools.now.operands.now c.args.pools.now.words.now c.args.pools.now.row c.args.pools.now.word c.args.pools.now.within _ c.past_dwords.ensures.place _ c.in_ok-a.was c.operands_of.ensures _ c.in_ok-past.was)

pub overflow_sub-result-2 : goal.overflow_sub-result-2
overflow_sub-result-2 c = omega (arith, third_bounds c.args.model51 c.args.s c.args.pools.now.operands.now c.args.pools.now.words.now c.args.pools.now.row c.args.pools.now.word c.args.pools.now.within _ c.past_dwords.ensures.place _ c.in_ok-a.was c.operands_of.ensures _ c.in_ok-past.was _ c.past_rest.ensures _ c.in_ok-end.was)

pub overflow_add-result-2 : goal.overflow_add-result-2
overflow_add-result-2 c = omega (arith, c.well_formed, parts_few c.args.model51 c.args.s c.args.pools.now.operands.now c.args.pools.now.words.now c.args.pools.now.row c.args.pools.now.word c.args.pools.now.within _ c.past_dwords.ensures.place _ c.in_ok-a.was c.operands_of.ensures _ c.in_ok-past.was _ c.past_rest.ensures _ c.in_ok-end.was)

pub returns : goal.returns
returns c = all_parts_lem c.args.model51 c.args.s c.args.pools.now.operands.now c.args.pools.now.words.now c.args.pools.now.row c.args.pools.now.word c.args.pools.now.within _ c.past_dwords.ensures.place _ c.in_ok-a.was c.operands_of.ensures _ c.in_ok-past.was _ c.past_rest.ensures _ c.in_ok-end.was
