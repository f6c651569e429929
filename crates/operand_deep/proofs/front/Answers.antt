use Rattle.format.specs.Encoder as e
use Rattle.operand_deep.proofs.front.Goals as goal

pub returns : goal.returns
unfolding e.operand_dword
returns c = rw (c.exact.ensures, c.pack.ensures, c.extension-x.ensures)
