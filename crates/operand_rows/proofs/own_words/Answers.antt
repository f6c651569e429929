use mathlib.Core.Path.{refl}
use Rattle.format.specs.Dwords.{dwords_of}
use Rattle.operand_rows.proofs.Storing.{owned_put}
use Rattle.operand_rows.proofs.own_words.Goals as goal

pub returns : goal.returns
returns c = let a = c.args in owned_put (dwords_of a.part.now) a.at _ a.r c.own-own.ensures c.requires refl refl refl c.copy.ensures
