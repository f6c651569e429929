use mathlib.Core.Path.{sym, subst, ◌∙◌}
use Rattle.instruction_deep.proofs.Heads.{Answers, by_length, by_chain, by_none}
use Rattle.instruction_deep.proofs.head.Goals as goal

pub returns-then-sized : goal.returns-then-sized
returns-then-sized c = subst (Answers c.args.instruction.now c.args.t c.requires.0 _ c.sized.ensures) (sym c.then_some.ensures) (by_length c.args.instruction.now c.args.t c.requires.0 _ c.sized.ensures c.if-sized.true c.long_bits.ensures c.unchained.ensures)

pub returns-then-has_chain : goal.returns-then-has_chain
returns-then-has_chain c = by_chain c.args.instruction.now c.args.t c.requires.0 _ c.sized.ensures c.if-sized.false _ c.requires.1 (sym c.has_chain.ensures ∙ c.if-has_chain.true) c.chained.ensures

pub returns : goal.returns
returns c = subst (Answers c.args.instruction.now c.args.t c.requires.0 _ c.sized.ensures) (sym c.then_some-2.ensures) (by_none c.args.instruction.now c.args.t c.requires.0 _ c.sized.ensures c.if-sized.false _ c.requires.1 (sym c.has_chain.ensures ∙ c.if-has_chain.false) c.unchained-2.ensures)
