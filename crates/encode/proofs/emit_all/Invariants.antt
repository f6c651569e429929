use Rattle.encode.proofs.Emits.{Midway}
use Rattle.encode.proofs.emit_all.Given as goal

abbrev pub invariant-loop-row : goal.invariant-loop-row
invariant-loop-row l = Midway l.instructions l.operands l.words l.initial.output l.row-index l.place l.output
