use mathlib.Core.Path.{sym, ◌∙◌}
use native.Mathlib.Omega.{arith}
use Rattle.reading.proofs.Sizes.{ceiling_small, whole_rows, instructions_past, operands_past, words_past, version_none, all_walked}
use Rattle.reading.proofs.size.Goals as goal

pub returns-then-instructions-i : goal.returns-then-instructions-i
returns-then-instructions-i c = instructions_past c.args.edition c.args.version c.args.instruction_count c.args.operand_count c.args.word_count c.args.instructions.now c.args.operands.now c.args.words.now (omega (arith, c.if-instructions-i.true))

pub returns-then-operands-o : goal.returns-then-operands-o
returns-then-operands-o c = operands_past c.args.edition c.args.version c.args.instruction_count c.args.operand_count c.args.word_count c.args.instructions.now c.args.operands.now c.args.words.now (omega (arith, c.if-operands-o.true))

pub returns-then-words-n : goal.returns-then-words-n
returns-then-words-n c = words_past c.args.edition c.args.version c.args.instruction_count c.args.operand_count c.args.word_count c.args.instructions.now c.args.operands.now c.args.words.now c.if-words-n.true

pub returns-then-not-taken : goal.returns-then-not-taken
returns-then-not-taken c = version_none c.args.edition c.args.version c.args.instruction_count c.args.operand_count c.args.word_count c.args.instructions.now c.args.operands.now c.args.words.now (record { version = omega (arith, c.ranges); instructions = λ j z. omega (arith, c.type_inv.instructions j); words = λ j z. omega (arith, c.type_inv.words j) }) (omega (arith, c.if-instructions-i.false)) (omega (arith, c.if-operands-o.false)) c.if-words-n.false (sym c.if-not-taken.true ∙ c.taken.ensures)

pub invariant_of-rules : goal.invariant_of-rules
invariant_of-rules c = record { few = omega (arith, c.ceiling.ensures, ceiling_small c.args.edition) }

pub walk_all-requires : goal.walk_all-requires
walk_all-requires c = whole_rows c.args.instruction_count c.args.instructions.now c.if-instructions-i.false

pub returns : goal.returns
returns c = all_walked c.args.edition c.args.version c.args.instruction_count c.args.operand_count c.args.word_count c.args.instructions.now c.args.operands.now c.args.words.now (record { version = omega (arith, c.ranges); instructions = λ j z. omega (arith, c.type_inv.instructions j); words = λ j z. omega (arith, c.type_inv.words j) }) (omega (arith, c.if-instructions-i.false)) (omega (arith, c.if-operands-o.false)) c.if-words-n.false (sym c.if-not-taken.false ∙ c.taken.ensures) c.ceiling.ensures c.is_model51.ensures c.walk_all.ensures
