use mathlib.Core.Path.{sym, ◌∙◌}
use native.Mathlib.Omega.{arith}
use Rattle.encode.proofs.Emits.{end_within, cut_length, ready, left_on, all_left}
use Rattle.encode.proofs.emit_all.Goals as goal

pub overflow_add-end : goal.overflow_add-end
overflow_add-end c =
    let a = c.args in
    let g = c.loop-row.invariant.toward c.requires.final c.requires.left in
    omega (arith, c.well_formed, end_within a.instructions.now a.operands.now a.words.now c.loop-row.row-index c.loop-row.place c.as_chunks.ensures.front (omega (arith, c.loop-row-test.true, c.as_chunks.ensures.front_len)) g)

pub slice_bounds-emit-end : goal.slice_bounds-emit-end
slice_bounds-emit-end c =
    let a = c.args in
    let g = c.loop-row.invariant.toward c.requires.final c.requires.left in
    sym (cut_length a.instructions.now a.operands.now a.words.now c.loop-row.row-index c.loop-row.place c.as_chunks.ensures.front (omega (arith, c.loop-row-test.true, c.as_chunks.ensures.front_len)) g)

pub emit-place-requires : goal.emit-place-requires
emit-place-requires c =
    let a = c.args in
    let g = c.loop-row.invariant.toward c.requires.final c.requires.left in
    ready a.instructions.now a.operands.now a.words.now c.loop-row.row-index c.loop-row.place c.as_chunks.ensures.front (omega (arith, c.loop-row-test.true, c.as_chunks.ensures.front_len)) g

pub loop-row-preserved : goal.loop-row-preserved
loop-row-preserved c =
    let a = c.args in
    record {
      long = c.emit-place.auto.output ∙ c.loop-row.invariant.long;
      toward = λ final g. left_on a.instructions.now a.operands.now a.words.now c.loop-row.row-index c.loop-row.place c.as_chunks.ensures.front (omega (arith, c.loop-row-test.true, c.as_chunks.ensures.front_len)) (c.loop-row.invariant.toward final g) c.emit-place.ensures.emitted c.emit-place.ensures.words;
    }

pub returns : goal.returns
returns c = λ final g. all_left _ _ _ _ _ (omega (arith, c.loop-row-test.false, c.as_chunks.ensures.front_len)) (c.loop-row.invariant.toward final g)
