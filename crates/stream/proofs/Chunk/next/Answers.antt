use native.Mathlib.Omega.{arith}
use Rattle.stream.proofs.Walks.{fined, miscounts, inexacts, zero_off, past_off, fine_fits, fine_on, miscounted_off, inexact_on}
use Rattle.stream.proofs.Chunk.next.Goals as goal

pub returns-then-n-eq0 : goal.returns-then-n-eq0
returns-then-n-eq0 c = zero_off c.requires.1 c.requires.0 c.instruction_length-n.ensures c.if-n-eq0.true c.place.ensures

pub returns-then-dwords-s : goal.returns-then-dwords-s
returns-then-dwords-s c = past_off c.requires.1 c.requires.0 c.instruction_length-n.ensures c.if-n-eq0.false c.dwords.ensures c.if-dwords-s.true c.place-then-dwords-s.ensures

pub overflow_add-result-in-Ok : goal.overflow_add-result-in-Ok
overflow_add-result-in-Ok c = omega (arith, fine_fits c.requires.1 c.requires.0 c.instruction_length-n.ensures c.if-n-eq0.false c.dwords.ensures c.if-dwords-s.false (fined _ _ c.in-Ok.ensures), c.args.self.now.small, c.requires.1.fits, c.if-dwords-s.false, c.dwords.ensures)

pub overflow_add-result-in-Ok-2 : goal.overflow_add-result-in-Ok-2
overflow_add-result-in-Ok-2 c = omega (arith, fine_fits c.requires.1 c.requires.0 c.instruction_length-n.ensures c.if-n-eq0.false c.dwords.ensures c.if-dwords-s.false (fined _ _ c.in-Ok.ensures), c.args.self.now.small, c.requires.1.fits, c.if-dwords-s.false, c.dwords.ensures)

pub returns-in-Ok : goal.returns-in-Ok
returns-in-Ok c = fine_on c.requires.1 c.requires.0 c.instruction_length-n.ensures c.if-n-eq0.false c.dwords.ensures c.if-dwords-s.false (fined _ _ c.in-Ok.ensures)

pub returns-in-Err-Miscounted : goal.returns-in-Err-Miscounted
returns-in-Err-Miscounted c = miscounted_off c.requires.1 c.requires.0 c.instruction_length-n.ensures c.if-n-eq0.false c.dwords.ensures c.if-dwords-s.false (miscounts _ (rw c.in-Err-Miscounted.field-0-is at c.in-Err-Miscounted.ensures)) c.place-in-Err-Miscounted.ensures

pub returns-in-Err-Inexact : goal.returns-in-Err-Inexact
returns-in-Err-Inexact c = rw c.noted.ensures (inexact_on c.requires.1 c.requires.0 c.instruction_length-n.ensures c.if-n-eq0.false c.dwords.ensures c.if-dwords-s.false (inexacts _ (rw c.in-Err-Inexact.field-0-is at c.in-Err-Inexact.ensures)))
