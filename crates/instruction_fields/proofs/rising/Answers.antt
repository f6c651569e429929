use Rattle.instruction_fields.proofs.Chained.{not_risen, too_high, not_exact, rises_on}
use Rattle.instruction_fields.proofs.rising.Goals.{then-k-last-via-then-k-last, then-k-last-via-else-k-last+then-k-ge4, then-k-last-via-else-k-last+else-k-ge4+then-not-exact_extension}
use Rattle.instruction_fields.proofs.rising.Goals as goal

pub returns-then-k-last : goal.returns-then-k-last
returns-then-k-last c =
    elim c.then-k-last.branch [
      | then-k-last-via-then-k-last w ↦ not_risen c.loop-at.invariant c.loop-at-test.true _ c.dword-e.ensures w.if-k-last.true
      | then-k-last-via-else-k-last+then-k-ge4 w ↦ too_high c.loop-at.invariant c.loop-at-test.true _ c.dword-e.ensures w.if-k-last.false w.if-k-ge4.true
      | then-k-last-via-else-k-last+else-k-ge4+then-not-exact_extension w ↦ not_exact c.loop-at.invariant c.loop-at-test.true _ c.dword-e.ensures w.if-k-last.false w.if-k-ge4.false _ w.exact_extension.ensures w.if-not-exact_extension.true
    ]

pub loop-at-preserved : goal.loop-at-preserved
loop-at-preserved c = rises_on c.loop-at.invariant c.loop-at-test.true _ c.dword-e.ensures c.if-k-last.false c.if-k-ge4.false _ c.exact_extension.ensures c.if-not-exact_extension.false
