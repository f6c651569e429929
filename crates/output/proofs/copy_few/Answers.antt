use Rattle.output.proofs.Puts.{dwords_none, words_two}
use Rattle.output.proofs.copy_few.Goals as goal

pub returns-in-0 : goal.returns-in-0
returns-in-0 c = rw c.in-0.is (dwords_none c.args.at c.args.output.now)

pub returns-in-2 : goal.returns-in-2
returns-in-2 c = words_two c.args.at c.args.words.now c.args.word c.args.n c.args.output.now c.in-2.is c.requires.0 c.requires.1 c.put_dword.ensures c.put_dword-in-2.ensures
