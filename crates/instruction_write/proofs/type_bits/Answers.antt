use native.Mathlib.Omega.{arith}
use Rattle.instruction_write.proofs.Types.{type_range, sum_small, sums_on, summed}
use Rattle.instruction_write.proofs.type_bits.Goals as goal

pub type_bit-bits-requires : goal.type_bit-bits-requires
type_bit-bits-requires c = type_range c.loop-at.invariant c.loop-at-test.true _ c.dword.ensures

pub overflow_add-bits : goal.overflow_add-bits
overflow_add-bits c = omega (arith, sum_small c.loop-at.invariant c.loop-at-test.true _ c.dword.ensures, c.type_bit-bits.ensures)

pub loop-at-preserved : goal.loop-at-preserved
loop-at-preserved c = sums_on c.loop-at.invariant c.loop-at-test.true _ c.dword.ensures _ c.type_bit-bits.ensures

pub returns : goal.returns
returns c = summed c.loop-at.invariant c.loop-at-test.false
