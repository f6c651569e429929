use Rattle.std.proofs.Common.{[], arith, ◌<◌, ◌+◌, ◌/◌, length}
use Rattle.operand_deep.proofs.Fields.{its_row}
use Rattle.operand_walk.proofs.Runs.{begin, lone_on, pointed_on, finished}
use Rattle.operand_walk.proofs.mixed.Goals as goal
use Rattle.operand_walk.proofs.mixed.Goals.{then-common+in_ok-w, else-common+in_ok-get+in_ok-w-2}

pub loop-init : goal.loop-init
loop-init c = (omega arith, begin _ _ _)

pub overflow_add-w : goal.overflow_add-w
overflow_add-w c = omega (arith, c.loop.invariant.1.words_to, c.in_ok-w.ensures.few)

pub loop-preserved : goal.loop-preserved
loop-preserved c =
    let rs = c.args.operands.now in
    let l : c.loop.r < length rs / 16 = omega (arith, c.as_chunks.ensures.front_len, c.in_ok-q.ensures.lookup.3.0) in
    let eq = its_row rs c.loop.r c.as_chunks.ensures.front l (c.in_ok-q.ensures.lookup.3.1 []) in
    elim c.if-common.branch [
      | then-common+in_ok-w z ↦ rw (z.r-is, z.w-is, z.ran-is) (omega (arith, c.loop.invariant.0), lone_on c.loop.invariant.1 c.loop.invariant.0 eq z.in_ok-w.ensures.few z.in_ok-w.ensures.lone c.extended.ensures.value c.extended.ensures.small)
      | else-common+in_ok-get+in_ok-w-2 z ↦
          let l₁ : c.loop.r + 1 < length rs / 16 = omega (arith, c.as_chunks.ensures.front_len, z.in_ok-get.ensures.lookup.3.0) in
          let ec = its_row rs (c.loop.r + 1) c.as_chunks.ensures.front l₁ (z.in_ok-get.ensures.lookup.3.1 []) in
          rw (z.r-is, z.w-is, z.ran-is) (omega (arith, c.loop.invariant.0), pointed_on c.loop.invariant.1 c.loop.invariant.0 eq ec z.in_ok-w-2.ensures.few z.in_ok-w-2.ensures.pointed c.extended.ensures.value c.extended.ensures.small)
    ]

pub returns : goal.returns
returns c = finished c.loop.invariant.1 (omega (arith, c.loop-test.false)) c.requires.1 c.if-end-w.false
