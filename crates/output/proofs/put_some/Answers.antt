use Rattle.output.proofs.Puts.{headed_none}
use Rattle.output.proofs.put_some.Goals as goal

pub returns-in_default : goal.returns-in_default
returns-in_default c = rw c.in_default.is (headed_none c.args.at c.args.output.now)
