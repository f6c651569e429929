use native.Mathlib.Omega.{arith}
use Rattle.instruction_emit.proofs.Heads.{low_room, top_room, long_room, headed_long, short_room, headed_unchained, chain_room, headed_chain}
use Rattle.instruction_emit.proofs.head.Goals as goal

pub low-requires : goal.low-requires
low-requires c = low_room c.args.row.now c.args.at c.args.output.now c.requires

pub overflow_add-token : goal.overflow_add-token
overflow_add-token c = omega (arith, top_room c.args.row.now c.args.at c.args.output.now c.requires c.low.ensures c.from.ensures)

pub put_dword-requires-then-sized : goal.put_dword-requires-then-sized
put_dword-requires-then-sized c = long_room c.args.row.now c.args.at c.args.output.now c.requires c.low.ensures c.from.ensures c.sized.ensures c.if-sized.true _ c.put_dword.auto.output

pub returns-then-sized : goal.returns-then-sized
returns-then-sized c = headed_long c.args.row.now c.args.at c.args.output.now c.requires c.low.ensures c.from.ensures c.sized.ensures c.if-sized.true c.put_dword.ensures c.put_dword-then-sized.ensures

pub overflow_mul-row : goal.overflow_mul-row
overflow_mul-row c = omega (arith, short_room c.args.row.now c.args.at c.args.output.now c.requires c.low.ensures c.from.ensures c.sized.ensures c.if-sized.false)

pub overflow_add-token-2 : goal.overflow_add-token-2
overflow_add-token-2 c = omega (arith, short_room c.args.row.now c.args.at c.args.output.now c.requires c.low.ensures c.from.ensures c.sized.ensures c.if-sized.false)

pub returns-then-row-ge3 : goal.returns-then-row-ge3
returns-then-row-ge3 c = headed_unchained c.args.row.now c.args.at c.args.output.now c.requires c.low.ensures c.from.ensures c.sized.ensures c.if-sized.false c.put_dword-2.ensures c.if-row-ge3.true

pub chain-requires : goal.chain-requires
chain-requires c = chain_room c.args.row.now c.args.at c.args.output.now c.requires c.low.ensures c.from.ensures c.sized.ensures c.if-sized.false c.put_dword-2.ensures c.if-row-ge3.false c.put_dword-2.auto.output

pub returns : goal.returns
returns c = headed_chain c.args.row.now c.args.at c.args.output.now c.requires c.low.ensures c.from.ensures c.sized.ensures c.if-sized.false c.put_dword-2.ensures c.if-row-ge3.false c.chain.ensures
