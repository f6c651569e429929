use Rattle.instruction_emit.proofs.Runs.{Running}
use Rattle.instruction_emit.proofs.emit.Given as goal

abbrev pub invariant-loop : goal.invariant-loop
invariant-loop l =
    let s = l.initial.place in
    Running l.operands l.words s.operand s.word l.end s.at l.initial.output l.place l.counter l.output
