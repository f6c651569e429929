-- Operands, and the dwords behind them.
use native.Mathlib.Omega.{arith}
use Rattle.format.specs.Dwords.{dwords_of}
use Rattle.format.specs.Framing.{code}
use Rattle.format.proofs.Dwords.{length_dwords}
use Rattle.instruction_write.proofs.Counting.{parts_room, parts_known, parts_copy, parts_written}
use Rattle.instruction_write.proofs.Source.write_counted_parts.Goals as goal

pub write_operands-x-requires : goal.write_operands-x-requires
write_operands-x-requires c = parts_room (code c.args.self.token) c.args.n (dwords_of c.args.self.part.now) c.args.at _ c.requires

pub overflow_add-end : goal.overflow_add-end
overflow_add-end c = omega (arith, parts_known (code c.args.self.token) c.args.n (dwords_of c.args.self.part.now) c.args.at _ c.requires c.write_operands-x.ensures, length_dwords c.args.self.part.now, c.well_formed)

pub overflow_sub-left : goal.overflow_sub-left
overflow_sub-left c = omega (arith, parts_known (code c.args.self.token) c.args.n (dwords_of c.args.self.part.now) c.args.at _ c.requires c.write_operands-x.ensures, c.dwords.ensures)

pub offset_bounds-words-x : goal.offset_bounds-words-x
offset_bounds-words-x c = omega (arith, parts_known (code c.args.self.token) c.args.n (dwords_of c.args.self.part.now) c.args.at _ c.requires c.write_operands-x.ensures, length_dwords c.args.self.part.now, c.well_formed)

pub slice_bounds-copy-count : goal.slice_bounds-copy-count
slice_bounds-copy-count c = omega (arith, parts_known (code c.args.self.token) c.args.n (dwords_of c.args.self.part.now) c.args.at _ c.requires c.write_operands-x.ensures)

pub slice_bounds-copy-start : goal.slice_bounds-copy-start
slice_bounds-copy-start c = omega (arith, parts_known (code c.args.self.token) c.args.n (dwords_of c.args.self.part.now) c.args.at _ c.requires c.write_operands-x.ensures)

pub copy-requires : goal.copy-requires
copy-requires c = parts_copy (code c.args.self.token) c.args.n (dwords_of c.args.self.part.now) c.args.at _ c.requires c.write_operands-x.ensures c.dwords.ensures

pub overflow_add-result : goal.overflow_add-result
overflow_add-result c = omega (arith, parts_known (code c.args.self.token) c.args.n (dwords_of c.args.self.part.now) c.args.at _ c.requires c.write_operands-x.ensures, c.dwords.ensures, length_dwords c.args.self.part.now, c.well_formed)

pub returns : goal.returns
returns c = parts_written (code c.args.self.token) c.args.n (dwords_of c.args.self.part.now) c.args.at _ c.requires c.write_operands-x.ensures c.dwords.ensures c.copy.ensures
