use mathlib.Core.Path.{refl, sym, ◌∙◌}
use native.Mathlib.Omega.{arith}
use Rattle.operand_emit.proofs.Trees.{row_within, row_fits, lone_ready, lone_emitted, one_none, two_room, word_there, word_emitted}
use Rattle.operand_emit.proofs.emit.Goals as goal

pub row_at-row-requires : goal.row_at-row-requires
row_at-row-requires c = let a = c.args in row_within a.left a.operands.now a.words.now a.from a.output.now c.requires

pub overflow_add-behind : goal.overflow_add-behind
overflow_add-behind c = let a = c.args in omega (arith, c.well_formed, row_within a.left a.operands.now a.words.now a.from a.output.now c.requires)

pub offset_bounds-words-word : goal.offset_bounds-words-word
offset_bounds-words-word c = let a = c.args in let p = one_none _ _ c.pair.ensures.low (sym c.pair.ensures.value ∙ c.if-pair-eq1.true) in omega (arith, c.well_formed, word_there a.left a.operands.now a.words.now a.from a.output.now c.requires c.row_at-row.ensures p.0 p.1 c.if-row-eq0.true)

pub bounds-words-word : goal.bounds-words-word
bounds-words-word c = let a = c.args in let p = one_none _ _ c.pair.ensures.low (sym c.pair.ensures.value ∙ c.if-pair-eq1.true) in word_there a.left a.operands.now a.words.now a.from a.output.now c.requires c.row_at-row.ensures p.0 p.1 c.if-row-eq0.true

pub put_with_word-requires : goal.put_with_word-requires
put_with_word-requires c = let a = c.args in let p = one_none _ _ c.pair.ensures.low (sym c.pair.ensures.value ∙ c.if-pair-eq1.true) in (row_fits a.left a.operands.now a.words.now a.from a.output.now c.requires c.row_at-row.ensures, p.0, p.1, c.if-row-eq0.true, two_room a.left a.operands.now a.words.now a.from a.output.now c.requires c.row_at-row.ensures p.0 p.1 c.if-row-eq0.true)

pub overflow_add-result-then-row-eq0 : goal.overflow_add-result-then-row-eq0
overflow_add-result-then-row-eq0 c = let a = c.args in let p = one_none _ _ c.pair.ensures.low (sym c.pair.ensures.value ∙ c.if-pair-eq1.true) in omega (arith, c.well_formed, word_there a.left a.operands.now a.words.now a.from a.output.now c.requires c.row_at-row.ensures p.0 p.1 c.if-row-eq0.true)

pub returns-then-row-eq0 : goal.returns-then-row-eq0
returns-then-row-eq0 c = let a = c.args in let p = one_none _ _ c.pair.ensures.low (sym c.pair.ensures.value ∙ c.if-pair-eq1.true) in word_emitted a.left a.operands.now a.words.now a.from a.output.now c.requires c.row_at-row.ensures p.0 p.1 c.if-row-eq0.true c.put_with_word.ensures refl

pub lone-requires : goal.lone-requires
lone-requires c = let a = c.args in lone_ready a.left a.operands.now a.words.now a.from a.output.now c.requires c.row_at-row.ensures c.if-row-ne1.false

pub returns : goal.returns
returns c = let a = c.args in lone_emitted a.left a.operands.now a.words.now a.from a.output.now c.requires c.row_at-row.ensures c.if-row-ne1.false c.lone.ensures.bytes c.lone.ensures.place
