use Rattle.operand_emit.proofs.Heads.{head_room, head_within, words_room, lone_put}
use Rattle.operand_emit.proofs.lone.Goals as goal

pub head-requires : goal.head-requires
head-requires c = let a = c.args in (c.requires.fits, head_room a.row.now a.words.now a.from.word a.from.at a.output.now c.requires)

pub overflow_sub-n : goal.overflow_sub-n
overflow_sub-n c = let a = c.args in head_within a.row.now a.words.now a.from.word a.from.at a.output.now c.requires c.head.ensures

pub write_words-requires : goal.write_words-requires
write_words-requires c = let a = c.args in words_room a.row.now a.words.now a.from.word a.from.at a.output.now c.requires c.head.ensures _ c.head.auto.output

pub returns-clause-bytes : goal.returns-clause-bytes
returns-clause-bytes c = let a = c.args in lone_put a.row.now a.words.now a.from.word a.from.at a.output.now c.requires c.head.ensures c.write_words.ensures.bytes
