-- Unread, counted or not.
use mathlib.Core.Path.{◌∙◌}
use Rattle.instruction_write.proofs.Counting.{is_counted, is_uncounted, either}
use Rattle.instruction_write.proofs.Knowing.{ready_at, written_at, read_here, unread_room, unread_written}
use Rattle.instruction_write.proofs.write.Goals as goal

pub write_unread-requires : goal.write_unread-requires
write_unread-requires c = unread_room _ c.args.model51 _ _ c.dword-token.ensures c.if-ceiling-code.true c.requires

pub returns-then-ceiling-code : goal.returns-then-ceiling-code
returns-then-ceiling-code c = unread_written _ c.args.model51 _ _ c.dword-token.ensures c.if-ceiling-code.true _ c.write_unread.ensures

pub write_counted-requires : goal.write_counted-requires
write_counted-requires c =
    let k = is_counted _ c.operand_count.ensures c.in-Some.is in
    (c.dword-token.ensures, k, ready_at (read_here _ c.args.model51 _ _ c.dword-token.ensures c.if-ceiling-code.false ∙ either _ _ _ _ k) c.requires)

pub returns-in-Some : goal.returns-in-Some
returns-in-Some c = written_at (read_here _ c.args.model51 _ _ c.dword-token.ensures c.if-ceiling-code.false ∙ either _ _ _ _ (is_counted _ c.operand_count.ensures c.in-Some.is)) c.write_counted.ensures

pub write_uncounted-requires : goal.write_uncounted-requires
write_uncounted-requires c = (c.dword-token.ensures, is_uncounted _ c.operand_count.ensures c.in-None.is, ready_at (read_here _ c.args.model51 _ _ c.dword-token.ensures c.if-ceiling-code.false) c.requires)

pub returns-in-None : goal.returns-in-None
returns-in-None c = written_at (read_here _ c.args.model51 _ _ c.dword-token.ensures c.if-ceiling-code.false) c.write_uncounted.ensures
