use Rattle.operand_emit.proofs.Heads.{headed_two}
use Rattle.operand_emit.proofs.head.Goals as goal

pub returns : goal.returns
returns c = headed_two c.args.row.now c.args.at _ c.args.output.now c.pack-t.ensures c.in-Some.ensures c.requires.1 c.put_dword-2.ensures c.put_dword-3.ensures
