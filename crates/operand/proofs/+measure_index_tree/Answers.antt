use mathlib.Core.Path.{◌∙◌, refl, sym, ap}
use native.Mathlib.Omega.{arith}
use Rattle.format.specs.Dwords.{dwords_of}
use Rattle.format.specs.Operands.{operand}
use Rattle.format.proofs.Dwords.{length_dwords}
use Rattle.operand.specs.Measures.{measured}
use Rattle.operand.proofs.Fronts.{shut, leaf_is, tree_is, front_opened, front_is}
use Rattle.operand.proofs.Seen.{operand_seen}
use Rattle.operand.proofs.Indices.{behind, unknown, short, inner, outer, goes, next_lost, index_seen, goes_on, ended}
use Prim.Native.Nat.{◌+◌, ◌-◌}
use Rattle.operand.proofs.+measure_index_tree.Goals as goal

pub measure-returns-in_err-front : goal.measure-returns-in_err-front
measure-returns-in_err-front t c = let a = c.args in c.from_residual.ensures ∙ sym (ap measured (shut a.left (dwords_of a.part.now) a.at c.in_err-front.ensures.told))

pub measure-returns-then-immediate : goal.measure-returns-then-immediate
measure-returns-then-immediate t c = let f = c.in_ok-front in front_is c.args.left f.front f.ensures.told f.ensures.placed (leaf_is (front_opened c.args.left f.front f.ensures.told f.ensures.placed) _ c.immediate.ensures c.if-immediate.true c.leaf.ensures)

pub measure-returns-then-front-eq0 : goal.measure-returns-then-front-eq0
measure-returns-then-front-eq0 t c = let f = c.in_ok-front in front_is c.args.left f.front f.ensures.told f.ensures.placed (tree_is (front_opened c.args.left f.front f.ensures.told f.ensures.placed) _ c.immediate.ensures c.if-immediate.false (c.flat.ensures (operand (c.args.left - 1))))

pub measure-tree-requires : goal.measure-tree-requires
measure-tree-requires t c = let f = c.in_ok-front in (omega arith, (front_opened c.args.left f.front f.ensures.told f.ensures.placed).deep)

pub measure-returns : goal.measure-returns
measure-returns t c = let f = c.in_ok-front in front_is c.args.left f.front f.ensures.told f.ensures.placed (tree_is (front_opened c.args.left f.front f.ensures.told f.ensures.placed) _ c.immediate.ensures c.if-immediate.false c.tree.ensures)

pub index-returns-then-not-known : goal.index-returns-then-not-known
index-returns-then-not-known t c = let a = c.args in unknown (operand (a.left - 1)) (dwords_of a.part.now) a.r a.at _ c.known.ensures c.if-not-known.true

pub index-returns-then-dwords-at : goal.index-returns-then-dwords-at
index-returns-then-dwords-at t c = let a = c.args in short (operand (a.left - 1)) (dwords_of a.part.now) a.r a.at _ c.known.ensures c.if-not-known.false _ c.own-own.ensures _ c.dwords.ensures (omega (arith, c.requires, c.dwords.ensures)) c.if-dwords-at.true

pub index-returns-then-not-nests : goal.index-returns-then-not-nests
index-returns-then-not-nests t c = let a = c.args in outer (operand (a.left - 1)) (dwords_of a.part.now) a.r a.at _ c.known.ensures c.if-not-known.false _ c.own-own.ensures _ c.dwords.ensures (omega (arith, c.requires, c.dwords.ensures)) c.if-dwords-at.false _ c.nests.ensures c.if-not-nests.true

pub index-returns-in_err-inner : goal.index-returns-in_err-inner
index-returns-in_err-inner t c = let a = c.args in c.from_residual.ensures ∙ ap (behind c.own-own.result) c.in_err-inner.ensures ∙ inner (operand (a.left - 1)) (dwords_of a.part.now) a.r a.at _ c.known.ensures c.if-not-known.false _ c.own-own.ensures _ c.dwords.ensures (omega (arith, c.requires, c.dwords.ensures)) c.if-dwords-at.false _ c.nests.ensures c.if-not-nests.false

pub index-overflow_add-result : goal.index-overflow_add-result
index-overflow_add-result t c = omega (arith, operand_seen (c.args.left - 1) (dwords_of c.args.part.now) (c.args.at + c.own-own.result) (omega (arith, c.requires, c.dwords.ensures, c.if-dwords-at.false)) _ c.in_ok-inner.ensures)

pub index-overflow_add-result-2 : goal.index-overflow_add-result-2
index-overflow_add-result-2 t c = omega (arith, operand_seen (c.args.left - 1) (dwords_of c.args.part.now) (c.args.at + c.own-own.result) (omega (arith, c.requires, c.dwords.ensures, c.if-dwords-at.false)) _ c.in_ok-inner.ensures)

pub index-returns : goal.index-returns
index-returns t c = let a = c.args in ap (behind c.own-own.result) c.in_ok-inner.ensures ∙ inner (operand (a.left - 1)) (dwords_of a.part.now) a.r a.at _ c.known.ensures c.if-not-known.false _ c.own-own.ensures _ c.dwords.ensures (omega (arith, c.requires, c.dwords.ensures)) c.if-dwords-at.false _ c.nests.ensures c.if-not-nests.false

pub front::Front::tree-loop-i-init : goal.front::Front::tree-loop-i-init
front::Front::tree-loop-i-init t c = goes c.args.left c.args.self.now.stands _ c.dimension-i-end.ensures

pub front::Front::tree-returns-in_err-m : goal.front::Front::tree-returns-in_err-m
front::Front::tree-returns-in_err-m t c = c.from_residual.ensures ∙ next_lost c.loop-i.invariant (omega arith) _ c.repr.ensures c.in_err-m.ensures

pub front::Front::tree-overflow_add-rows : goal.front::Front::tree-overflow_add-rows
front::Front::tree-overflow_add-rows t c = omega (arith, index_seen c.loop-i.invariant _ _ c.in_ok-m.ensures, c.loop-i.invariant, length_dwords c.args.self.now.part.now)

pub front::Front::tree-overflow_add-words : goal.front::Front::tree-overflow_add-words
front::Front::tree-overflow_add-words t c = omega (arith, index_seen c.loop-i.invariant _ _ c.in_ok-m.ensures, c.loop-i.invariant, length_dwords c.args.self.now.part.now)

pub front::Front::tree-overflow_add-place : goal.front::Front::tree-overflow_add-place
front::Front::tree-overflow_add-place t c = omega (arith, index_seen c.loop-i.invariant _ _ c.in_ok-m.ensures, c.loop-i.invariant, length_dwords c.args.self.now.part.now)

pub front::Front::tree-loop-i-preserved : goal.front::Front::tree-loop-i-preserved
front::Front::tree-loop-i-preserved t c = goes_on c.loop-i.invariant (omega arith) _ c.repr.ensures _ c.in_ok-m.ensures _ refl

pub front::Front::tree-returns : goal.front::Front::tree-returns
front::Front::tree-returns t c = ended c.loop-i.invariant (omega arith)
