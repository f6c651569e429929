use mathlib.Core.Path.{refl, ◌∙◌}
use Rattle.operand.proofs.Fronts.{leaf_deep, leaf_words}
use Rattle.operand.proofs.front.Front.leaf.Goals as goal

pub returns-then-dimension-ne0 : goal.returns-then-dimension-ne0
returns-then-dimension-ne0 c = leaf_deep c.args.self.now.stands _ c.dimension.ensures c.if-dimension-ne0.true

pub returns : goal.returns
returns c = c.with_words.ensures ∙ leaf_words c.args.self.now.stands _ c.dimension.ensures c.if-dimension-ne0.false _ c.immediates.ensures _ refl
