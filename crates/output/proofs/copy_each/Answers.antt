use Rattle.output.proofs.Puts.{dwords_none, words_more}
use Rattle.output.proofs.copy_each.Goals as goal

pub loop-i-init : goal.loop-i-init
loop-i-init c = dwords_none c.args.at c.args.output.now

pub loop-i-preserved : goal.loop-i-preserved
loop-i-preserved c = words_more c.args.at c.args.words.now c.args.word c.loop-i.i c.args.n c.args.output.now c.requires.0 c.requires.1 c.loop-i-test.true c.loop-i.invariant c.put_dword.ensures
