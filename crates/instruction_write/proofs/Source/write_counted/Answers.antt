-- Chain, parts and row, as they were accepted.
use mathlib.Core.Path.{refl}
use mathlib.Core.Bool.{false}
use Rattle.format.specs.Dwords.{dwords_of}
use Rattle.format.specs.Framing.{code}
use Rattle.layouts.proofs.Others.{counts}
use Rattle.instruction_write.specs.Writes.{counted_shape}
use Rattle.instruction_write.proofs.Counting.{chain_ends, chain_headed}
use Rattle.instruction_write.proofs.Knowing.{known_room, row_ready, known_written}
use Rattle.instruction_write.proofs.Source.write_counted.Goals as goal

pub unwrap-end-requires : goal.unwrap-end-requires
unwrap-end-requires c = let f = c.args.self in chain_ends (dwords_of f.part.now) f.token c.args.n c.requires.0 c.requires.1 c.requires.2 c.follows.ensures c.chain.ensures

pub write_counted_parts-x-requires : goal.write_counted_parts-x-requires
write_counted_parts-x-requires c =
    let f = c.args.self in
    let h = chain_headed (dwords_of f.part.now) f.token c.args.n c.requires.0 c.requires.1 c.requires.2 c.follows.ensures c.chain.ensures c.unwrap-end.ensures in
    known_room false (counted_shape (code f.token) c.args.n) f.token (dwords_of f.part.now) c.requires.0 (counts _ c.args.n c.requires.1) c.requires.2 h

pub put_counted-requires : goal.put_counted-requires
put_counted-requires c =
    let f = c.args.self in
    let h = chain_headed (dwords_of f.part.now) f.token c.args.n c.requires.0 c.requires.1 c.requires.2 c.follows.ensures c.chain.ensures c.unwrap-end.ensures in
    (c.requires.1, c.requires.2.for_row, row_ready false (counted_shape (code f.token) c.args.n) f.token (dwords_of f.part.now) c.requires.0 (counts _ c.args.n c.requires.1) c.requires.2 h c.write_counted_parts-x.ensures, h.is)

pub returns : goal.returns
returns c =
    let f = c.args.self in
    let h = chain_headed (dwords_of f.part.now) f.token c.args.n c.requires.0 c.requires.1 c.requires.2 c.follows.ensures c.chain.ensures c.unwrap-end.ensures in
    known_written false (counted_shape (code f.token) c.args.n) f.token (dwords_of f.part.now) c.requires.0 (counts _ c.args.n c.requires.1) c.requires.2 h c.write_counted_parts-x.ensures _ _ _ refl c.put_counted.ensures
