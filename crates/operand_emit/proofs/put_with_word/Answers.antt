use Rattle.operand_emit.proofs.Heads.{two_put}
use Rattle.operand_emit.proofs.put_with_word.Goals as goal

pub returns : goal.returns
returns c = two_put c.args.row.now c.args.at _ c.args.output.now c.pack.ensures c.requires.3 c.args.word c.requires.4 c.put_dword.ensures c.put_dword-2.ensures
