use mathlib.Core.Path.{refl, sym, ◌∙◌}
use Rattle.framing.proofs.Lengths.{by_seven_bits, by_next, no_next}
use Rattle.instruction_deep.proofs.own_size.Goals as goal

pub returns-then-not-sized : goal.returns-then-not-sized
returns-then-not-sized c = by_seven_bits c.args.words.now c.args.word refl (sym c.sized.ensures ∙ c.if-not-sized.true)

pub returns-then-words-word : goal.returns-then-words-word
returns-then-words-word c = no_next c.args.words.now c.args.word refl (sym c.sized.ensures ∙ c.if-not-sized.false) c.if-words-word.true

pub returns : goal.returns
returns c = by_next c.args.words.now c.args.word refl (sym c.sized.ensures ∙ c.if-not-sized.false) refl
