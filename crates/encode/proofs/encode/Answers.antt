use mathlib.Core.Path.{sym}
use native.Mathlib.Omega.{arith}
use lib.Seq.{length-take-le}
use Rattle.encode.proofs.Encodes.{by_none, size_is, instructions_within, operands_within, words_within, small, by_room, ready, by_writing}
use Rattle.encode.proofs.encode.Goals as goal

pub returns-in_err-dwords : goal.returns-in_err-dwords
returns-in_err-dwords c = let a = c.args in by_none a.edition a.version a.instruction_count a.operand_count a.word_count a.instructions.now a.operands.now a.words.now a.output.now c.size.ensures c.in_err-dwords.ensures.value c.no_chunk.ensures c.from_residual.ensures.1

pub returns-then-output-dwords : goal.returns-then-output-dwords
returns-then-output-dwords c = let a = c.args in by_room a.edition a.version a.instruction_count a.operand_count a.word_count a.instructions.now a.operands.now a.words.now a.output.now c.size.ensures (size_is _ _ c.in_ok-dwords.ensures.value) (record { version = omega (arith, c.ranges); instructions = λ j z. omega (arith, c.type_inv.instructions j); words = λ j z. omega (arith, c.type_inv.words j) }) c.if-output-dwords.true

pub slice_bounds-write-end : goal.slice_bounds-write-end
slice_bounds-write-end c = let a = c.args in sym (length-take-le _ _ (instructions_within a.edition a.version a.instruction_count a.operand_count a.word_count a.instructions.now a.operands.now a.words.now a.output.now c.size.ensures (size_is _ _ c.in_ok-dwords.ensures.value) (record { version = omega (arith, c.ranges); instructions = λ j z. omega (arith, c.type_inv.instructions j); words = λ j z. omega (arith, c.type_inv.words j) })))

pub slice_bounds-write-end-2 : goal.slice_bounds-write-end-2
slice_bounds-write-end-2 c = let a = c.args in sym (length-take-le _ _ (operands_within a.edition a.version a.instruction_count a.operand_count a.word_count a.instructions.now a.operands.now a.words.now a.output.now c.size.ensures (size_is _ _ c.in_ok-dwords.ensures.value) (record { version = omega (arith, c.ranges); instructions = λ j z. omega (arith, c.type_inv.instructions j); words = λ j z. omega (arith, c.type_inv.words j) })))

pub slice_bounds-write-end-3 : goal.slice_bounds-write-end-3
slice_bounds-write-end-3 c = let a = c.args in sym (length-take-le _ _ (words_within a.edition a.version a.instruction_count a.operand_count a.word_count a.instructions.now a.operands.now a.words.now a.output.now c.size.ensures (size_is _ _ c.in_ok-dwords.ensures.value) (record { version = omega (arith, c.ranges); instructions = λ j z. omega (arith, c.type_inv.instructions j); words = λ j z. omega (arith, c.type_inv.words j) })))

pub write-requires : goal.write-requires
write-requires c = let a = c.args in ready a.edition a.version a.instruction_count a.operand_count a.word_count a.instructions.now a.operands.now a.words.now a.output.now c.size.ensures (size_is _ _ c.in_ok-dwords.ensures.value) (record { version = omega (arith, c.ranges); instructions = λ j z. omega (arith, c.type_inv.instructions j); words = λ j z. omega (arith, c.type_inv.words j) }) (omega (arith, c.if-output-dwords.false))

pub overflow_cast-result : goal.overflow_cast-result
overflow_cast-result c = let a = c.args in omega (arith, small a.edition a.version a.instruction_count a.operand_count a.word_count a.instructions.now a.operands.now a.words.now a.output.now c.size.ensures (size_is _ _ c.in_ok-dwords.ensures.value) (record { version = omega (arith, c.ranges); instructions = λ j z. omega (arith, c.type_inv.instructions j); words = λ j z. omega (arith, c.type_inv.words j) }))

pub overflow_mul-result : goal.overflow_mul-result
overflow_mul-result c = let a = c.args in omega (arith, small a.edition a.version a.instruction_count a.operand_count a.word_count a.instructions.now a.operands.now a.words.now a.output.now c.size.ensures (size_is _ _ c.in_ok-dwords.ensures.value) (record { version = omega (arith, c.ranges); instructions = λ j z. omega (arith, c.type_inv.instructions j); words = λ j z. omega (arith, c.type_inv.words j) }))

pub returns : goal.returns
returns c = let a = c.args in by_writing a.edition a.version a.instruction_count a.operand_count a.word_count a.instructions.now a.operands.now a.words.now a.output.now c.size.ensures (size_is _ _ c.in_ok-dwords.ensures.value) (record { version = omega (arith, c.ranges); instructions = λ j z. omega (arith, c.type_inv.instructions j); words = λ j z. omega (arith, c.type_inv.words j) }) (omega (arith, c.if-output-dwords.false)) c.write.ensures
