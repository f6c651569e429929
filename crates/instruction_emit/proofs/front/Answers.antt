use native.Mathlib.Omega.{arith}
use Rattle.instruction_emit.proofs.Emitting.{bare_small, front_bare, front_none, fronted}
use Rattle.instruction_emit.proofs.front.Goals as goal

pub returns-then-row-eq0-clause-fronted : goal.returns-then-row-eq0-clause-fronted
returns-then-row-eq0-clause-fronted c = front_none c.args.row.now c.args.words.now c.args.from c.args.output.now c.requires c.if-row-eq0.true

pub returns-clause-fronted : goal.returns-clause-fronted
returns-clause-fronted c = fronted c.args.row.now c.args.words.now c.args.from c.args.output.now c.requires c.if-row-eq0.false c.head.ensures c.from.ensures c.write_words.ensures.bytes c.write_words.ensures.place

pub overflow_mul-row : goal.overflow_mul-row
overflow_mul-row c = omega (arith, bare_small c.args.row.now c.args.words.now c.args.from c.args.output.now c.requires c.bare.ensures c.if-bare.true)

pub overflow_add-row : goal.overflow_add-row
overflow_add-row c = omega (arith, bare_small c.args.row.now c.args.words.now c.args.from c.args.output.now c.requires c.bare.ensures c.if-bare.true)

pub returns-then-bare-clause-fronted : goal.returns-then-bare-clause-fronted
returns-then-bare-clause-fronted c = front_bare c.args.row.now c.args.words.now c.args.from c.args.output.now c.requires c.bare.ensures c.if-bare.true c.put_dword.ensures
