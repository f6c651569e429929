use Rattle.std.proofs.Common.{arith}
use Rattle.std.proofs.lemmas.Option.{IfSome_then}
use Rattle.operand_walk.proofs.Runs.{the_rest, finished}
use Rattle.operand_walk.proofs.run.Goals as goal

pub returns-then-passed-count : goal.returns-then-passed-count
returns-then-passed-count c = IfSome_then c.mixed.result c.mixed.ensures (λ x a. the_rest c.pass_usual-passed.ensures.running c.if-passed-count.true c.requires.2 a)

pub returns : goal.returns
returns c = finished c.pass_usual-passed.ensures.running (omega arith) c.requires.2 c.if-end-passed.false
