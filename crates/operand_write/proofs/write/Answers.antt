use native.Mathlib.Omega.{arith}
use Rattle.format.specs.Dwords.{dwords_of}
use Rattle.format.proofs.Dwords.{length_dwords}
use Rattle.operand.proofs.Fronts.{low_flat}
use Rattle.operand_write.proofs.Readings.{inside, low_entered}
use Rattle.operand_write.proofs.Writing.{short_room, short_wrote, leaf_room, leaf_wrote, flat_room, flat_wrote}
use Rattle.operand_write.proofs.write.Goals as goal

pub dword-token-requires : goal.dword-token-requires
dword-token-requires c = let a = c.args in inside a.left (dwords_of a.part.now) a.at c.requires.is

pub single-requires : goal.single-requires
single-requires c = let a = c.args in short_room a.left (dwords_of a.part.now) a.at c.requires _ c.dword-token.ensures c.short.ensures c.if-short.true

pub returns-then-short : goal.returns-then-short
returns-then-short c = let a = c.args in short_wrote a.left (dwords_of a.part.now) a.at c.requires _ c.dword-token.ensures c.short.ensures c.if-short.true c.single.ensures

pub overflow_add-front : goal.overflow_add-front
overflow_add-front c = let a = c.args in omega (arith, inside a.left (dwords_of a.part.now) a.at c.requires.is, length_dwords a.part.now)

pub leaf-requires : goal.leaf-requires
leaf-requires c = let a = c.args in let o = low_entered a.left (dwords_of a.part.now) a.at c.requires.is _ c.dword-token.ensures c.if-token-ge4194304.false in leaf_room o c.requires _ c.immediate.ensures c.if-immediate.true

pub returns-then-immediate : goal.returns-then-immediate
returns-then-immediate c = let a = c.args in let o = low_entered a.left (dwords_of a.part.now) a.at c.requires.is _ c.dword-token.ensures c.if-token-ge4194304.false in leaf_wrote o c.requires _ c.immediate.ensures c.if-immediate.true c.leaf.ensures

pub flat-requires : goal.flat-requires
flat-requires c = let a = c.args in let o = low_entered a.left (dwords_of a.part.now) a.at c.requires.is _ c.dword-token.ensures c.if-token-ge4194304.false in flat_room o c.requires _ c.immediate.ensures c.if-immediate.false (low_flat _ c.if-token-ge4194304.false)

pub returns : goal.returns
returns c = let a = c.args in let o = low_entered a.left (dwords_of a.part.now) a.at c.requires.is _ c.dword-token.ensures c.if-token-ge4194304.false in flat_wrote o c.requires _ c.immediate.ensures c.if-immediate.false (low_flat _ c.if-token-ge4194304.false) c.flat.ensures
