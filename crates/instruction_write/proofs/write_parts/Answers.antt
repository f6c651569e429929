-- Dwords, operands, and the dwords behind them.
use native.Mathlib.Omega.{arith}
use Rattle.format.specs.Dwords.{dwords_of}
use Rattle.format.proofs.Dwords.{length_dwords}
use Rattle.instruction_write.proofs.Parted.{counted, same₁, run_room, known, copy_room, written}
use Rattle.instruction_write.proofs.write_parts.Goals as goal

pub copy-requires : goal.copy-requires
copy-requires c = let a = c.args in (omega (arith, counted a.model51 a.s (dwords_of a.part.now) a.at _ c.requires), omega (arith, counted a.model51 a.s (dwords_of a.part.now) a.at _ c.requires))

pub slice_bounds-write_operands-count : goal.slice_bounds-write_operands-count
slice_bounds-write_operands-count c = let a = c.args in omega (arith, counted a.model51 a.s (dwords_of a.part.now) a.at _ c.requires, same₁ a.model51 a.s (dwords_of a.part.now) a.at _ c.requires c.copy.ensures)

pub slice_bounds-write_operands-start : goal.slice_bounds-write_operands-start
slice_bounds-write_operands-start c = let a = c.args in omega (arith, counted a.model51 a.s (dwords_of a.part.now) a.at _ c.requires, same₁ a.model51 a.s (dwords_of a.part.now) a.at _ c.requires c.copy.ensures)

pub write_operands-x-requires : goal.write_operands-x-requires
write_operands-x-requires c = let a = c.args in run_room a.model51 a.s (dwords_of a.part.now) a.at _ c.requires c.copy.ensures

pub overflow_add-end-2 : goal.overflow_add-end-2
overflow_add-end-2 c = let a = c.args in omega (arith, known a.model51 a.s (dwords_of a.part.now) a.at _ c.requires c.copy.ensures c.write_operands-x.ensures, length_dwords a.part.now, c.well_formed)

pub overflow_add-first : goal.overflow_add-first
overflow_add-first c = let a = c.args in omega (arith, known a.model51 a.s (dwords_of a.part.now) a.at _ c.requires c.copy.ensures c.write_operands-x.ensures)

pub overflow_sub-left : goal.overflow_sub-left
overflow_sub-left c = let a = c.args in omega (arith, known a.model51 a.s (dwords_of a.part.now) a.at _ c.requires c.copy.ensures c.write_operands-x.ensures, c.dwords.ensures)

pub offset_bounds-words-first : goal.offset_bounds-words-first
offset_bounds-words-first c = let a = c.args in omega (arith, known a.model51 a.s (dwords_of a.part.now) a.at _ c.requires c.copy.ensures c.write_operands-x.ensures, c.well_formed)

pub slice_bounds-copy-count : goal.slice_bounds-copy-count
slice_bounds-copy-count c = let a = c.args in omega (arith, known a.model51 a.s (dwords_of a.part.now) a.at _ c.requires c.copy.ensures c.write_operands-x.ensures)

pub slice_bounds-copy-start : goal.slice_bounds-copy-start
slice_bounds-copy-start c = let a = c.args in omega (arith, known a.model51 a.s (dwords_of a.part.now) a.at _ c.requires c.copy.ensures c.write_operands-x.ensures)

pub copy-requires-2 : goal.copy-requires-2
copy-requires-2 c = let a = c.args in copy_room a.model51 a.s (dwords_of a.part.now) a.at _ c.requires c.copy.ensures c.write_operands-x.ensures c.dwords.ensures

pub overflow_add-result : goal.overflow_add-result
overflow_add-result c = let a = c.args in omega (arith, known a.model51 a.s (dwords_of a.part.now) a.at _ c.requires c.copy.ensures c.write_operands-x.ensures, c.dwords.ensures, length_dwords a.part.now, c.well_formed)

pub returns : goal.returns
returns c = let a = c.args in written a.model51 a.s (dwords_of a.part.now) a.at _ c.requires c.copy.ensures c.write_operands-x.ensures c.dwords.ensures c.copy-2.ensures
