use mathlib.Core.Path.{sym, subst, ◌∙◌}
use native.Mathlib.Omega.{arith}
use Rattle.instruction_deep.specs.Walks.{Runs}
use Rattle.instruction_deep.proofs.Runs.{begin, goes_on, stopped, room}
use Rattle.instruction_deep.proofs.operands_of.Goals as goal

pub loop-init : goal.loop-init
loop-init c = begin _ _ _ _ _ c.args.pools.now.within

pub returns-in_err-walked : goal.returns-in_err-walked
returns-in_err-walked c = subst (Runs c.args.count c.args.pools.now.operands.now c.args.pools.now.words.now c.args.pools.now.row c.args.pools.now.word) (sym c.from_residual.ensures) (stopped c.loop.invariant c.loop-test.true (sym c.in_err-walked.was ∙ c.walk.ensures))

pub overflow_add-past : goal.overflow_add-past
overflow_add-past c = omega (arith, (room (goes_on c.loop.invariant c.loop-test.true (sym c.in_ok-walked.was ∙ c.walk.ensures))).0, c.well_formed)

pub overflow_add-past-in-loop : goal.overflow_add-past-in-loop
overflow_add-past-in-loop c = omega (arith, (room (goes_on c.loop.invariant c.loop-test.true (sym c.in_ok-walked.was ∙ c.walk.ensures))).1, c.well_formed)

pub overflow_add-past-in-loop-2 : goal.overflow_add-past-in-loop-2
overflow_add-past-in-loop-2 c = omega (arith, (room (goes_on c.loop.invariant c.loop-test.true (sym c.in_ok-walked.was ∙ c.walk.ensures))).2, c.well_formed)

pub loop-preserved : goal.loop-preserved
loop-preserved c = goes_on c.loop.invariant c.loop-test.true (sym c.in_ok-walked.was ∙ c.walk.ensures)
