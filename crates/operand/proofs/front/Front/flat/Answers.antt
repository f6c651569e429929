use mathlib.Core.Path.{refl}
use Rattle.operand.proofs.FlatTrees.{flat_words_measured}
use Rattle.operand.proofs.front.Front.flat.Goals as goal

pub returns : goal.returns
returns c = rw c.with_words.ensures (flat_words_measured c.args.self.now.stands c.requires _ c.dimension.ensures _ refl)
