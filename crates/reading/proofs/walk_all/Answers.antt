use Prim.Native.Nat.{◌/◌, ◌≤◌}
use lib.ListN.{length}
use native.Mathlib.Omega.{arith}
use mathlib.Core.Path.{◌≡◌, refl, ◌∙◌, subst}
use Rattle.std.specs.Prelude.{Some, None}
use Rattle.operand_deep.proofs.Fields.{its_row}
use Rattle.reading.specs.Walks.{next_walk}
use Rattle.reading.proofs.Walks.{went_off, went_on, limit_past, rows_left, words_left, all_told}
use Rattle.reading.proofs.walk_all.Goals as goal
use Rattle.reading.proofs.walk_all.Goals.{then-s-gt-MOST_DWORDS-via-then-s-gt-MOST_DWORDS, then-s-gt-MOST_DWORDS-via-else-s-gt-MOST_DWORDS+then-s-operands, then-s-gt-MOST_DWORDS-via-else-s-gt-MOST_DWORDS+else-s-operands+then-s-words}

pub returns-in_err-s : goal.returns-in_err-s
returns-in_err-s c = c.from_residual.ensures ∙ went_off c.loop-row.invariant (omega (arith, c.loop-row-test.true, c.as_chunks.ensures.front_len)) (subst (λ q. None ≡ next_walk c.args.rules.ceiling c.args.rules.model51 q c.args.operands.now c.args.words.now c.loop-row.s) (its_row c.args.instructions.now c.loop-row.row-index c.as_chunks.ensures.front (omega (arith, c.loop-row-test.true, c.as_chunks.ensures.front_len)) refl) c.in_err-s.ensures)

pub loop-row-preserved : goal.loop-row-preserved
loop-row-preserved c = went_on c.loop-row.invariant (omega (arith, c.loop-row-test.true, c.as_chunks.ensures.front_len)) (λ j. omega (arith, c.type_inv.instructions j)) (subst (λ q. Some c.in_ok-s.s ≡ next_walk c.args.rules.ceiling c.args.rules.model51 q c.args.operands.now c.args.words.now c.loop-row.s) (its_row c.args.instructions.now c.loop-row.row-index c.as_chunks.ensures.front (omega (arith, c.loop-row-test.true, c.as_chunks.ensures.front_len)) refl) c.in_ok-s.ensures)

pub returns-then-s-gt-MOST_DWORDS : goal.returns-then-s-gt-MOST_DWORDS
returns-then-s-gt-MOST_DWORDS c =
    let e : length c.args.instructions.now / 16 ≤ c.loop-row.row-index = omega (arith, c.loop-row-test.false, c.as_chunks.ensures.front_len) in
    elim c.then-s-gt-MOST_DWORDS.branch [
      | then-s-gt-MOST_DWORDS-via-then-s-gt-MOST_DWORDS w ↦ limit_past c.loop-row.invariant (omega (arith, w.if-s-gt-MOST_DWORDS.true))
      | then-s-gt-MOST_DWORDS-via-else-s-gt-MOST_DWORDS+then-s-operands w ↦ rows_left c.loop-row.invariant e (omega (arith, w.if-s-operands.true))
      | then-s-gt-MOST_DWORDS-via-else-s-gt-MOST_DWORDS+else-s-operands+then-s-words w ↦ words_left c.loop-row.invariant e (omega (arith, w.if-s-operands.false)) w.if-s-words.true
    ]

pub returns : goal.returns
returns c = all_told c.loop-row.invariant (omega (arith, c.loop-row-test.false, c.as_chunks.ensures.front_len)) (omega (arith, c.if-s-operands.false)) (omega (arith, c.if-s-gt-MOST_DWORDS.false)) c.if-s-words.false
