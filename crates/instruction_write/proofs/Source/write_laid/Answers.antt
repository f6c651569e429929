-- Head, parts and row, as they were accepted.
use mathlib.Core.Path.{◌∙◌}
use Rattle.format.specs.Dwords.{dwords_of}
use Rattle.instruction_fields.proofs.Heads.{headed_at}
use Rattle.layouts.specs.Shapes.{meant}
use Rattle.instruction_write.proofs.Knowing.{headed, known_room, row_ready, known_written}
use Rattle.instruction_write.proofs.Source.write_laid.Goals as goal

pub unwrap-end-requires : goal.unwrap-end-requires
unwrap-end-requires c = let f = c.args.self in headed c.args.model51 c.args.s f.token (dwords_of f.part.now) c.requires.0 c.requires.1 c.requires.2 _ c.head.ensures

pub write_parts-x-requires : goal.write_parts-x-requires
write_parts-x-requires c =
    let f = c.args.self in
    let h = headed_at (meant c.args.s) f.token (dwords_of f.part.now) c.requires.2.some c.head.ensures c.unwrap-end.ensures in
    known_room c.args.model51 c.args.s f.token (dwords_of f.part.now) c.requires.0 c.requires.1 c.requires.2 h

pub uncounted_row-requires : goal.uncounted_row-requires
uncounted_row-requires c =
    let f = c.args.self in
    let h = headed_at (meant c.args.s) f.token (dwords_of f.part.now) c.requires.2.some c.head.ensures c.unwrap-end.ensures in
    (c.requires.1, row_ready c.args.model51 c.args.s f.token (dwords_of f.part.now) c.requires.0 c.requires.1 c.requires.2 h c.write_parts-x.ensures)

pub returns : goal.returns
returns c =
    let f = c.args.self in
    let h = headed_at (meant c.args.s) f.token (dwords_of f.part.now) c.requires.2.some c.head.ensures c.unwrap-end.ensures in
    known_written c.args.model51 c.args.s f.token (dwords_of f.part.now) c.requires.0 c.requires.1 c.requires.2 h c.write_parts-x.ensures _ _ _ (c.numbers.ensures ∙ c.uncounted_row.ensures) c.put_row.ensures
