use mathlib.Core.Path.{◌∙◌}
use native.Mathlib.Omega.{arith}
use Prim.Native.Nat.{◌-◌}
use Rattle.operand_emit.proofs.Trees.{own_room, child_ready, nested, unnested, depth_left, row_within, row_fits, head_room, lone_ready, lone_emitted, first_ready, second_ready, third_ready, deep_emitted}
use Rattle.operand_emit.proofs.+deep_index_tree.Goals as goal

pub deep-row_at-row-requires : goal.deep-row_at-row-requires
deep-row_at-row-requires t c = let a = c.args in row_within a.left a.operands.now a.words.now a.from a.output.now c.requires

pub deep-overflow_add-behind : goal.deep-overflow_add-behind
deep-overflow_add-behind t c = let a = c.args in omega (arith, c.well_formed, row_within a.left a.operands.now a.words.now a.from a.output.now c.requires)

pub deep-lone-requires : goal.deep-lone-requires
deep-lone-requires t c = let a = c.args in lone_ready a.left a.operands.now a.words.now a.from a.output.now c.requires c.row_at-row.ensures c.if-row-ne1.false

pub deep-returns : goal.deep-returns
deep-returns t c = let a = c.args in lone_emitted a.left a.operands.now a.words.now a.from a.output.now c.requires c.row_at-row.ensures c.if-row-ne1.false c.lone.ensures.bytes c.lone.ensures.place

pub deep-tree-requires : goal.deep-tree-requires
deep-tree-requires t c = (omega (arith, c.requires), (c.row_at-row.ensures, c.if-row-ne1.true, c.requires))

pub tree-overflow_add-behind : goal.tree-overflow_add-behind
tree-overflow_add-behind t c = let a = c.args in omega (arith, c.well_formed, row_within a.left a.operands.now a.words.now a.from a.output.now c.requires.2)

pub tree-head-requires : goal.tree-head-requires
tree-head-requires t c = let a = c.args in (row_fits a.left a.operands.now a.words.now a.from a.output.now c.requires.2 c.requires.0, head_room a.left a.operands.now a.words.now a.from a.output.now c.requires.2 c.requires.0)

pub tree-indices-requires : goal.tree-indices-requires
tree-indices-requires t c = let a = c.args in row_fits a.left a.operands.now a.words.now a.from a.output.now c.requires.2 c.requires.0

pub tree-pack-t-requires : goal.tree-pack-t-requires
tree-pack-t-requires t c = let a = c.args in (row_fits a.left a.operands.now a.words.now a.from a.output.now c.requires.2 c.requires.0, c.indices.ensures)

pub tree-index-a-requires : goal.tree-index-a-requires
tree-index-a-requires t c = let a = c.args in (omega arith, (depth_left a.left a.operands.now a.words.now a.from a.output.now c.requires.2, first_ready a.left a.operands.now a.words.now a.from a.output.now c.requires.2 c.requires.0 c.head.ensures c.requires.1 _ c.pack-t.ensures c.repr.ensures _ c.head.auto.output))

pub tree-index-b-requires : goal.tree-index-b-requires
tree-index-b-requires t c = let a = c.args in (omega arith, (depth_left a.left a.operands.now a.words.now a.from a.output.now c.requires.2, second_ready a.left a.operands.now a.words.now a.from a.output.now c.requires.2 c.requires.0 c.head.ensures c.requires.1 _ c.pack-t.ensures c.repr.ensures c.index-a.ensures c.repr-2.ensures _ (c.index-a.auto.output ∙ c.head.auto.output)))

pub tree-index-requires : goal.tree-index-requires
tree-index-requires t c = let a = c.args in (omega arith, (depth_left a.left a.operands.now a.words.now a.from a.output.now c.requires.2, third_ready a.left a.operands.now a.words.now a.from a.output.now c.requires.2 c.requires.0 c.head.ensures c.requires.1 _ c.pack-t.ensures c.repr.ensures c.index-a.ensures c.repr-2.ensures c.index-b.ensures c.repr-3.ensures _ (c.index-b.auto.output ∙ c.index-a.auto.output ∙ c.head.auto.output)))

pub tree-returns : goal.tree-returns
tree-returns t c = let a = c.args in deep_emitted a.left a.operands.now a.words.now a.from a.output.now c.requires.2 c.requires.0 c.head.ensures c.requires.1 _ c.pack-t.ensures c.repr.ensures c.index-a.ensures c.repr-2.ensures c.index-b.ensures c.repr-3.ensures c.index.ensures

pub index-write_words-next-requires : goal.index-write_words-next-requires
index-write_words-next-requires t c = let a = c.args in own_room (a.left - 1) a.r a.operands.now a.words.now a.from a.output.now c.requires.1 c.own.ensures

pub index-returns-then-not-nests : goal.index-returns-then-not-nests
index-returns-then-not-nests t c = let a = c.args in unnested (a.left - 1) a.r a.operands.now a.words.now a.from a.output.now c.requires.1 c.own.ensures c.nests.ensures c.write_words-next.ensures.place c.write_words-next.ensures.bytes c.if-not-nests.true

pub index-deep-requires : goal.index-deep-requires
index-deep-requires t c = let a = c.args in (omega (arith, c.requires), child_ready (a.left - 1) a.r a.operands.now a.words.now a.from a.output.now c.requires.1 c.own.ensures c.nests.ensures c.write_words-next.ensures.place c.if-not-nests.false _ c.write_words-next.auto.output)

pub index-returns : goal.index-returns
index-returns t c = let a = c.args in nested (a.left - 1) a.r a.operands.now a.words.now a.from a.output.now c.requires.1 c.own.ensures c.nests.ensures c.write_words-next.ensures.place c.write_words-next.ensures.bytes c.if-not-nests.false c.deep.ensures
