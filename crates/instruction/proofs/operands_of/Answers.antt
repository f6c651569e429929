-- Usual operands are passed by their length, others are measured.
use Prim.Native.Nat.{◌<◌}
use native.Mathlib.Omega.{arith}
use lib.ListN.{length}
use Rattle.format.specs.Dwords.{dwords_of}
use Rattle.format.proofs.Dwords.{length_dwords}
use Rattle.instruction.proofs.Usually.{start, long, lost_past, lost_deep, past_usual, surpassed, surplus_lost, room, past_other}
use Rattle.instruction.proofs.operands_of.Goals as goal
use Rattle.instruction.proofs.operands_of.Goals.{in-Some, in-None+in-Some-unusual}

pub loop-i-init : goal.loop-i-init
loop-i-init c = start _ _ _ c.requires

pub returns-then-n-end : goal.returns-then-n-end
returns-then-n-end c = lost_past c.loop-i.invariant (omega arith) (omega (arith, c.dwords-n.ensures, c.if-n-end.true))

pub overflow_add-end : goal.overflow_add-end
overflow_add-end c = omega (arith, (long (dwords_of c.args.part.now) c.loop-i.end (omega (arith, c.dwords-n.ensures, c.if-n-end.false)) _ c.dword.ensures _ c.in-Some.ensures).few, c.dwords-n.ensures, c.if-n-end.false, length_dwords c.args.part.now, c.well_formed)

pub returns-in_default : goal.returns-in_default
returns-in_default c = lost_deep c.loop-i.invariant (omega arith) (surplus_lost _ c.in_default.ensures)

pub overflow_add-more : goal.overflow_add-more
overflow_add-more c =
    let there : c.loop-i.end < length (dwords_of c.args.part.now) = omega (arith, c.dwords-n.ensures, c.if-n-end.false) in
    omega (arith, room c.loop-i.invariant (omega arith) there (surpassed _ _ (omega arith) _ c.in-Some-unusual.ensures), length_dwords c.args.part.now, c.well_formed)

pub overflow_add-skipped : goal.overflow_add-skipped
overflow_add-skipped c =
    let there : c.loop-i.end < length (dwords_of c.args.part.now) = omega (arith, c.dwords-n.ensures, c.if-n-end.false) in
    omega (arith, room c.loop-i.invariant (omega arith) there (surpassed _ _ (omega arith) _ c.in-Some-unusual.ensures), length_dwords c.args.part.now, c.well_formed)

pub overflow_add-end-in-None : goal.overflow_add-end-in-None
overflow_add-end-in-None c =
    let there : c.loop-i.end < length (dwords_of c.args.part.now) = omega (arith, c.dwords-n.ensures, c.if-n-end.false) in
    omega (arith, room c.loop-i.invariant (omega arith) there (surpassed _ _ (omega arith) _ c.in-Some-unusual.ensures), length_dwords c.args.part.now, c.well_formed)

pub loop-i-preserved : goal.loop-i-preserved
loop-i-preserved c =
    let there : c.loop-i.end < length (dwords_of c.args.part.now) = omega (arith, c.dwords-n.ensures, c.if-n-end.false) in
    elim c.match-usual_length.branch [
      | in-Some w ↦ rw (w.more-is, w.skipped-is, w.end-is, w.exact-is) (past_usual c.loop-i.invariant (omega arith) there _ (long (dwords_of c.args.part.now) c.loop-i.end there _ c.dword.ensures _ w.in-Some.ensures))
      | in-None+in-Some-unusual w ↦ rw (w.more-is, w.skipped-is, w.end-is, w.exact-is) (past_other c.loop-i.invariant (omega arith) there (surpassed _ _ (omega arith) _ w.in-Some-unusual.ensures))
    ]
