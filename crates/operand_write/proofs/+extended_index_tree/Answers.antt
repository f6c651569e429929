use mathlib.Core.Path.{◌∙◌, sym}
use native.Mathlib.Omega.{arith}
use lib.Seq.{slice, length-slice}
use Rattle.format.specs.Dwords.{dwords_of}
use Rattle.format.proofs.Dwords.{length_dwords}
use Rattle.operand_write.proofs.Readings.{inside, chained, to, entered}
use Rattle.operand_write.proofs.Writing.{leaf_room, leaf_wrote, flat_room, flat_wrote, tree_room, tree_wrote, counted, own_room, child_room, child_put, flat_put, nested_put, numbers, ready₀, ready₁, ready₂, node_sum, node_fits, node_put}
use Prim.Native.Nat.{◌+◌, ◌-◌}
use Rattle.std.proofs.Common.{ap, not}
use Rattle.operand_write.proofs.+extended_index_tree.Goals as goal

pub extended-overflow_add-at : goal.extended-overflow_add-at
extended-overflow_add-at t c = let a = c.args in omega (arith, inside a.left (dwords_of a.part.now) a.at c.requires.1.is, length_dwords a.part.now)

pub extended-unwrap-body-requires : goal.extended-unwrap-body-requires
extended-unwrap-body-requires t c = let a = c.args in chained a.left (dwords_of a.part.now) a.at c.requires.1.is _ c.requires.0 _ c.follows.ensures _ c.chain.ensures

pub extended-modifiers_of-requires : goal.extended-modifiers_of-requires
extended-modifiers_of-requires t c = let a = c.args in let w = to a.left (dwords_of a.part.now) a.at c.requires.1.is _ c.requires.0 _ c.follows.ensures _ (sym c.unwrap-body.ensures ∙ c.chain.ensures) in (w.from, w.within)

pub extended-leaf-requires : goal.extended-leaf-requires
extended-leaf-requires t c = let a = c.args in let o = entered a.left (dwords_of a.part.now) a.at c.requires.1.is _ c.requires.0 _ c.follows.ensures _ (sym c.unwrap-body.ensures ∙ c.chain.ensures) _ c.modifiers_of.ensures in leaf_room o c.requires.1 _ c.immediate.ensures c.if-immediate.true

pub extended-returns-then-immediate : goal.extended-returns-then-immediate
extended-returns-then-immediate t c = let a = c.args in let o = entered a.left (dwords_of a.part.now) a.at c.requires.1.is _ c.requires.0 _ c.follows.ensures _ (sym c.unwrap-body.ensures ∙ c.chain.ensures) _ c.modifiers_of.ensures in leaf_wrote o c.requires.1 _ c.immediate.ensures c.if-immediate.true c.leaf.ensures

pub extended-flat-requires : goal.extended-flat-requires
extended-flat-requires t c = let a = c.args in let o = entered a.left (dwords_of a.part.now) a.at c.requires.1.is _ c.requires.0 _ c.follows.ensures _ (sym c.unwrap-body.ensures ∙ c.chain.ensures) _ c.modifiers_of.ensures in flat_room o c.requires.1 _ c.immediate.ensures c.if-immediate.false c.if-token-eq0.true

pub extended-returns-then-token-eq0 : goal.extended-returns-then-token-eq0
extended-returns-then-token-eq0 t c = let a = c.args in let o = entered a.left (dwords_of a.part.now) a.at c.requires.1.is _ c.requires.0 _ c.follows.ensures _ (sym c.unwrap-body.ensures ∙ c.chain.ensures) _ c.modifiers_of.ensures in flat_wrote o c.requires.1 _ c.immediate.ensures c.if-immediate.false c.if-token-eq0.true c.flat.ensures

pub extended-tree-requires : goal.extended-tree-requires
extended-tree-requires t c = let a = c.args in let o = entered a.left (dwords_of a.part.now) a.at c.requires.1.is _ c.requires.0 _ c.follows.ensures _ (sym c.unwrap-body.ensures ∙ c.chain.ensures) _ c.modifiers_of.ensures in (omega (arith, c.requires), (o.deep, o.front, tree_room o c.requires.1 _ c.immediate.ensures c.if-immediate.false))

pub extended-returns : goal.extended-returns
extended-returns t c = let a = c.args in let o = entered a.left (dwords_of a.part.now) a.at c.requires.1.is _ c.requires.0 _ c.follows.ensures _ (sym c.unwrap-body.ensures ∙ c.chain.ensures) _ c.modifiers_of.ensures in tree_wrote o c.requires.1 _ c.immediate.ensures c.if-immediate.false c.tree.ensures

pub index-own_words-next-requires : goal.index-own_words-next-requires
index-own_words-next-requires t c = let a = c.args in own_room (a.left - 1) (dwords_of a.part.now) a.r a.at _ _ c.requires.1

pub index-returns-then-not-nests : goal.index-returns-then-not-nests
index-returns-then-not-nests t c = let a = c.args in flat_put (a.left - 1) (dwords_of a.part.now) a.r a.at _ _ c.requires.1 c.nests.ensures c.own_words-next.ensures (ap not c.if-not-nests.true)

pub index-overflow_add-from : goal.index-overflow_add-from
index-overflow_add-from t c = let a = c.args in omega (arith, counted (a.left - 1) (dwords_of a.part.now) a.r a.at _ _ c.requires.1, c.own_words-next.ensures, length_dwords a.part.now)

pub index-dword-requires : goal.index-dword-requires
index-dword-requires t c = let a = c.args in inside (a.left - 1) (dwords_of a.part.now) _ (child_room (a.left - 1) (dwords_of a.part.now) a.r a.at _ _ c.requires.1 c.nests.ensures c.own_words-next.ensures (ap not c.if-not-nests.false) c.own_words-next.auto.words).is

pub index-offset_bounds-words-next : goal.index-offset_bounds-words-next
index-offset_bounds-words-next t c = let a = c.args in omega (arith, counted (a.left - 1) (dwords_of a.part.now) a.r a.at _ _ c.requires.1, c.own_words-next.ensures, length_dwords a.part.now)

pub index-slice_bounds-extended-count-2 : goal.index-slice_bounds-extended-count-2
index-slice_bounds-extended-count-2 t c = let a = c.args in omega (arith, counted (a.left - 1) (dwords_of a.part.now) a.r a.at _ _ c.requires.1, c.own_words-next.ensures, length_dwords a.part.now, c.own_words-next.auto.words)

pub index-slice_bounds-extended-start-2 : goal.index-slice_bounds-extended-start-2
index-slice_bounds-extended-start-2 t c = let a = c.args in omega (arith, counted (a.left - 1) (dwords_of a.part.now) a.r a.at _ _ c.requires.1, c.own_words-next.ensures, length_dwords a.part.now, c.own_words-next.auto.words)

pub index-overflow_add-word : goal.index-overflow_add-word
index-overflow_add-word t c = let a = c.args in omega (arith, counted (a.left - 1) (dwords_of a.part.now) a.r a.at _ _ c.requires.1, c.own_words-next.ensures, length_dwords a.part.now)

pub index-extended-x-requires : goal.index-extended-x-requires
index-extended-x-requires t c = let a = c.args in (omega (arith, c.requires), (c.dword.ensures, child_room (a.left - 1) (dwords_of a.part.now) a.r a.at _ _ c.requires.1 c.nests.ensures c.own_words-next.ensures (ap not c.if-not-nests.false) c.own_words-next.auto.words))

pub index-overflow_add-result : goal.index-overflow_add-result
index-overflow_add-result t c = let a = c.args in omega (arith, counted (a.left - 1) (dwords_of a.part.now) a.r a.at _ _ c.requires.1, c.own_words-next.ensures, length_dwords a.part.now, child_put (a.left - 1) (dwords_of a.part.now) a.r a.at _ _ c.requires.1 c.nests.ensures c.own_words-next.ensures (ap not c.if-not-nests.false) c.extended-x.ensures)

pub index-overflow_add-result-2 : goal.index-overflow_add-result-2
index-overflow_add-result-2 t c = let a = c.args in omega (arith, counted (a.left - 1) (dwords_of a.part.now) a.r a.at _ _ c.requires.1, c.own_words-next.ensures, length_dwords a.part.now, child_put (a.left - 1) (dwords_of a.part.now) a.r a.at _ _ c.requires.1 c.nests.ensures c.own_words-next.ensures (ap not c.if-not-nests.false) c.extended-x.ensures)

pub index-overflow_add-result-3 : goal.index-overflow_add-result-3
index-overflow_add-result-3 t c = let a = c.args in omega (arith, counted (a.left - 1) (dwords_of a.part.now) a.r a.at _ _ c.requires.1, c.own_words-next.ensures, length_dwords a.part.now, child_put (a.left - 1) (dwords_of a.part.now) a.r a.at _ _ c.requires.1 c.nests.ensures c.own_words-next.ensures (ap not c.if-not-nests.false) c.extended-x.ensures)

pub index-returns : goal.index-returns
index-returns t c = let a = c.args in nested_put (a.left - 1) (dwords_of a.part.now) a.r a.at _ _ c.requires.1 c.nests.ensures c.own_words-next.ensures (ap not c.if-not-nests.false) c.extended-x.ensures

pub tree-index-a-requires : goal.tree-index-a-requires
tree-index-a-requires t c = let f = c.args.front.now in (omega (arith, c.requires), (c.requires.0, ready₀ (c.args.left - 1) (dwords_of f.part.now) f.token (slice (f.at + 1) f.body (dwords_of f.part.now)) f.body _ _ c.requires.2 c.requires.1.within c.repr-r0.ensures))

pub tree-index-b-requires : goal.tree-index-b-requires
tree-index-b-requires t c = let f = c.args.front.now in (omega (arith, c.requires), (c.requires.0, ready₁ (c.args.left - 1) (dwords_of f.part.now) f.token (slice (f.at + 1) f.body (dwords_of f.part.now)) f.body _ _ c.requires.2 c.requires.1.within c.repr-r0.ensures c.index-a.ensures c.repr-r1.ensures c.index-a.auto.ops c.index-a.auto.words))

pub tree-index-c-requires : goal.tree-index-c-requires
tree-index-c-requires t c = let f = c.args.front.now in (omega (arith, c.requires), (c.requires.0, ready₂ (c.args.left - 1) (dwords_of f.part.now) f.token (slice (f.at + 1) f.body (dwords_of f.part.now)) f.body _ _ c.requires.2 c.requires.1.within c.repr-r0.ensures c.index-a.ensures c.repr-r1.ensures c.index-b.ensures c.repr-r2.ensures (c.index-b.auto.ops ∙ c.index-a.auto.ops) (c.index-b.auto.words ∙ c.index-a.auto.words)))

pub tree-overflow_add-sums : goal.tree-overflow_add-sums
tree-overflow_add-sums t c = let f = c.args.front.now in omega (arith, node_sum (c.args.left - 1) (dwords_of f.part.now) f.token (slice (f.at + 1) f.body (dwords_of f.part.now)) f.body _ _ c.requires.2 c.requires.1.within c.repr-r0.ensures c.index-a.ensures c.repr-r1.ensures c.index-b.ensures c.repr-r2.ensures c.index-c.ensures f.at c.requires.1.from (length-slice (f.at + 1) f.body (dwords_of f.part.now) c.requires.1.within))

pub tree-make_row-made-requires : goal.tree-make_row-made-requires
tree-make_row-made-requires t c = let f = c.args.front.now in node_fits (c.args.left - 1) (dwords_of f.part.now) f.token (slice (f.at + 1) f.body (dwords_of f.part.now)) f.body _ _ c.requires.2 c.requires.1.within c.repr-r0.ensures c.index-a.ensures c.repr-r1.ensures c.index-b.ensures c.repr-r2.ensures c.index-c.ensures f.at c.requires.1.from (length-slice (f.at + 1) f.body (dwords_of f.part.now) c.requires.1.within)

pub tree-put_row-requires : goal.tree-put_row-requires
tree-put_row-requires t c = let f = c.args.front.now in omega (arith, (numbers (c.args.left - 1) (dwords_of f.part.now) f.token (slice (f.at + 1) f.body (dwords_of f.part.now)) f.body _ _ c.requires.2 c.requires.1.within).for_rows, c.index-a.auto.ops, c.index-b.auto.ops, c.index-c.auto.ops)

pub tree-returns : goal.tree-returns
tree-returns t c = let f = c.args.front.now in node_put (c.args.left - 1) (dwords_of f.part.now) f.token (slice (f.at + 1) f.body (dwords_of f.part.now)) f.body _ _ c.requires.2 c.requires.1.within c.repr-r0.ensures c.index-a.ensures c.repr-r1.ensures c.index-b.ensures c.repr-r2.ensures c.index-c.ensures f.at c.requires.1.from (length-slice (f.at + 1) f.body (dwords_of f.part.now) c.requires.1.within) c.requires.1.modified (c.numbers.ensures ∙ c.make_row-made.ensures) c.put_row.ensures
