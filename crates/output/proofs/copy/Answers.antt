use Rattle.output.proofs.Puts.{dwords_none, words_behind}
use Rattle.output.proofs.copy.Goals as goal

pub returns-then-n-eq0 : goal.returns-then-n-eq0
returns-then-n-eq0 c = rw c.if-n-eq0.true (dwords_none c.args.at c.args.output.now)

pub returns : goal.returns
returns c = words_behind c.args.at c.args.words.now c.args.word c.args.n c.args.output.now c.if-n-eq0.false c.if-n-eq1.false c.requires.0 c.requires.1 c.put_dword.ensures c.put_dword-2.ensures c.copy_few.ensures
