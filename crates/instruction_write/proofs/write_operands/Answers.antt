use native.Mathlib.Omega.{arith}
use Rattle.format.proofs.Dwords.{length_dwords}
use Rattle.instruction_write.proofs.Looping.{begin, turn_of, turn_room, sizes, turns, ended}
use Rattle.instruction_write.proofs.write_operands.Goals as goal

pub loop-init : goal.loop-init
loop-init c = begin c.requires

pub overflow_mul-done : goal.overflow_mul-done
overflow_mul-done c = omega (arith, turn_of c.loop.invariant c.loop-test.true, c.well_formed)

pub offset_bounds-operands-done : goal.offset_bounds-operands-done
offset_bounds-operands-done c = omega (arith, turn_of c.loop.invariant c.loop-test.true, c.well_formed)

pub slice_bounds-write-count : goal.slice_bounds-write-count
slice_bounds-write-count c = omega (arith, turn_of c.loop.invariant c.loop-test.true)

pub slice_bounds-write-start : goal.slice_bounds-write-start
slice_bounds-write-start c = omega (arith, turn_of c.loop.invariant c.loop-test.true)

pub overflow_add-row : goal.overflow_add-row
overflow_add-row c = omega (arith, turn_of c.loop.invariant c.loop-test.true)

pub write-x-requires : goal.write-x-requires
write-x-requires c = turn_room c.loop.invariant c.loop-test.true

pub overflow_add-done : goal.overflow_add-done
overflow_add-done c = omega (arith, sizes c.loop.invariant c.loop-test.true c.write-x.ensures)

pub overflow_add-done-in-loop : goal.overflow_add-done-in-loop
overflow_add-done-in-loop c = omega (arith, sizes c.loop.invariant c.loop-test.true c.write-x.ensures)

pub overflow_add-done-in-loop-2 : goal.overflow_add-done-in-loop-2
overflow_add-done-in-loop-2 c = omega (arith, sizes c.loop.invariant c.loop-test.true c.write-x.ensures, length_dwords c.args.part.now, c.well_formed)

pub loop-preserved : goal.loop-preserved
loop-preserved c = turns c.loop.invariant c.loop-test.true c.write-x.ensures

pub returns : goal.returns
returns c = ended c.loop.invariant c.loop-test.false
