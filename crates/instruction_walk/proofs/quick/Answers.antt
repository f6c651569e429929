use native.Mathlib.Omega.{arith}
use mathlib.Core.Path.{refl}
use Rattle.layouts.proofs.Others.{counts, is_counted}
use Rattle.instruction_walk.proofs.Short.{counted_row, quick_walks}
use Rattle.instruction_walk.proofs.quick.Goals as goal

pub run-requires : goal.run-requires
run-requires c = (omega arith, omega (arith, (counts _ _ (is_counted _ _ c.in_ok-count.ensures)).sound.operands), omega (arith, c.if-end-ge4294967296.false), c.args.pools.now.within)

pub returns : goal.returns
returns c = quick_walks c.args.instruction.now c.args.place c.args.pools.now.operands.now c.args.pools.now.words.now c.args.pools.now.row c.args.pools.now.word (omega arith) c.args.pools.now.within c.requires.1 (c.ready.ensures c.if-not-ready.false) (counted_row c.args.instruction.now (is_counted _ _ c.in_ok-count.ensures) c.requires.0) c.if-instruction-count.false c.in_ok-ran.ensures c.in_ok-dwords.ensures refl c.if-dwords-ge128.false c.if-instruction-dwords.false
