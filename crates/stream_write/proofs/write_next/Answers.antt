use mathlib.Core.Path.{refl, ap, ◌∙◌}
use Prim.Native.Nat.{ℕ, ◌+◌}
use Rattle.format.specs.Instructions.{read}
use native.Mathlib.Omega.{arith}
use Rattle.format.specs.Dwords.{dwords_of}
use Rattle.format.proofs.Dwords.{length_dwords}
use Rattle.operand_rows.proofs.Lists.{lent_length}
use Rattle.stream.proofs.Frames.{part_dwords}
use Rattle.stream_write.proofs.Marks.{ahead, ready, one_fits, toward, moved}
use Rattle.stream_write.proofs.write_next.Goals as goal

pub slice_bounds-write-end : goal.slice_bounds-write-end
slice_bounds-write-end c = omega (arith, length_dwords c.args.chunk.now, (ahead _ _ (dwords_of c.args.chunk.now) c.args.s.at c.instruction_length.result c.requires.0 c.instruction_length.ensures c.requires.1.first c.requires.1.second).inside)

pub write-x-requires : goal.write-x-requires
write-x-requires c = let a = c.args in
    let h = ahead _ _ (dwords_of a.chunk.now) a.s.at c.instruction_length.result c.requires.0 c.instruction_length.ensures c.requires.1.first c.requires.1.second in
    ready c.requires.1 h _ (part_dwords a.s.at (a.s.at + c.instruction_length.result) a.chunk.now (omega arith) (omega (arith, h.inside))) (lent_length _ a.instructions.now) (lent_length _ a.operands.now) (lent_length _ a.words.now) refl refl refl

pub overflow_add-result : goal.overflow_add-result
overflow_add-result c = omega (arith, c.requires.1.counted, c.requires.1.within, c.requires.1.few)

pub overflow_add-result-2 : goal.overflow_add-result-2
overflow_add-result-2 c = let a = c.args in
    let h = ahead _ _ (dwords_of a.chunk.now) a.s.at c.instruction_length.result c.requires.0 c.instruction_length.ensures c.requires.1.first c.requires.1.second in
    let st = c.write-x.ensures h.one (ap (read _ _) (part_dwords a.s.at (a.s.at + c.instruction_length.result) a.chunk.now (omega arith) (omega (arith, h.inside))) ∙ h.is) in
    omega (arith, st.put.rows_are, one_fits c.requires.1 h, c.requires.1.fits, c.requires.1.few, h.inside)

pub overflow_add-result-3 : goal.overflow_add-result-3
overflow_add-result-3 c = let a = c.args in
    let h = ahead _ _ (dwords_of a.chunk.now) a.s.at c.instruction_length.result c.requires.0 c.instruction_length.ensures c.requires.1.first c.requires.1.second in
    let st = c.write-x.ensures h.one (ap (read _ _) (part_dwords a.s.at (a.s.at + c.instruction_length.result) a.chunk.now (omega arith) (omega (arith, h.inside))) ∙ h.is) in
    omega (arith, st.put.words_are, one_fits c.requires.1 h, c.requires.1.fits, c.requires.1.few, h.inside)

pub returns : goal.returns
returns c = let a = c.args in
    let h = ahead _ _ (dwords_of a.chunk.now) a.s.at c.instruction_length.result c.requires.0 c.instruction_length.ensures c.requires.1.first c.requires.1.second in
    let st = c.write-x.ensures h.one (ap (read _ _) (part_dwords a.s.at (a.s.at + c.instruction_length.result) a.chunk.now (omega arith) (omega (arith, h.inside))) ∙ h.is) in (
      omega (arith, h.some),
      moved a.instructions.now a.operands.now a.words.now c.requires.1 h refl refl (ap (λ (k : ℕ). a.s.operands + k) st.put.rows_are) (ap (λ (k : ℕ). a.s.words + k) st.put.words_are) refl refl refl st,
      toward a.instructions.now a.operands.now a.words.now c.requires.1 h refl refl (ap (λ (k : ℕ). a.s.operands + k) st.put.rows_are) (ap (λ (k : ℕ). a.s.words + k) st.put.words_are) refl refl refl st,
    )
