use mathlib.Core.Path.{ap, ◌∙◌}
use native.Mathlib.Omega.{arith}
use Rattle.operand_emit.specs.declared.Place.{Place}
use Rattle.instruction_emit.proofs.Runs.{begin, turn_ready, turns, ended}
use Rattle.instruction_emit.proofs.Emitting.{front_ready, run_ready, within, left_room, emitted}
use Rattle.instruction_emit.proofs.emit.Goals as goal

pub front-place-requires : goal.front-place-requires
front-place-requires c = let a = c.args in front_ready a.row.now a.operands.now a.words.now a.from.operand a.from.word a.from.at a.output.now c.requires.0 c.requires.1

pub loop-init : goal.loop-init
loop-init c = let a = c.args in begin _ _ _ _ _ _ _ (run_ready a.row.now a.operands.now a.words.now a.from.operand a.from.word a.from.at a.output.now c.requires.0 c.requires.1 c.front-place.ensures.fronted c.front-place.ensures.operand c.front-place.auto.output)

pub emit-place-requires : goal.emit-place-requires
emit-place-requires c = turn_ready _ _ _ _ _ _ _ c.loop.invariant c.loop-test.true

pub loop-preserved : goal.loop-preserved
loop-preserved c = turns _ _ _ _ _ _ _ c.loop.invariant c.loop-test.true c.emit-place.ensures

pub overflow_sub-words : goal.overflow_sub-words
overflow_sub-words c = let a = c.args in within a.row.now a.operands.now a.words.now a.from.operand a.from.word a.from.at a.output.now c.requires.0 c.requires.1 c.front-place.ensures.fronted c.front-place.ensures.operand c.front-place.auto.output (ended _ _ _ _ _ _ _ c.loop.invariant c.loop-test.false)

pub write_words-requires : goal.write_words-requires
write_words-requires c = let a = c.args in (omega arith, left_room a.row.now a.operands.now a.words.now a.from.operand a.from.word a.from.at a.output.now c.requires.0 c.requires.1 c.front-place.ensures.fronted c.front-place.ensures.operand c.front-place.auto.output (ended _ _ _ _ _ _ _ c.loop.invariant c.loop-test.false) _ (c.loop.invariant.long ∙ c.front-place.auto.output))

pub returns-clause-emitted : goal.returns-clause-emitted
returns-clause-emitted c = let a = c.args in emitted a.row.now a.operands.now a.words.now a.from.operand a.from.word a.from.at a.output.now c.requires.0 c.requires.1 c.front-place.ensures.fronted c.front-place.ensures.operand c.front-place.auto.output (ended _ _ _ _ _ _ _ c.loop.invariant c.loop-test.false) c.write_words.ensures.bytes c.write_words.ensures.place

pub returns-clause-words : goal.returns-clause-words
returns-clause-words c = let a = c.args in ap (λ (p : Place). p.word) c.write_words.ensures.place ∙ omega (arith, within a.row.now a.operands.now a.words.now a.from.operand a.from.word a.from.at a.output.now c.requires.0 c.requires.1 c.front-place.ensures.fronted c.front-place.ensures.operand c.front-place.auto.output (ended _ _ _ _ _ _ _ c.loop.invariant c.loop-test.false))
