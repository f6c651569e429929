use Rattle.output.proofs.Puts.{stored}
use Rattle.output.proofs.put_dword.Goals as goal

pub returns : goal.returns
returns c = rw c.to_le_bytes.ensures (stored c.args.output.now c.args.at c.args.x c.requires)
