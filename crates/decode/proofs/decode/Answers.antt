use Rattle.std.proofs.Common.{◌≡◌, not, sym, ap, ◌∙◌, rules, Err}
use borrow.Author.Tests.{not-true, not-false}
use Rattle.header.proofs.Answers.{passed, refused}
use Rattle.decode.proofs.Decodes.{entered, by_header, by_room, by_body}
use Rattle.decode.proofs.decode.Goals as goal

pub returns-in_err-version : goal.returns-in_err-version
returns-in_err-version c =
    let a = c.args in
    let e : c.from_residual.result ≡ Err c.in_err-version.field-0.0 = search rules in
    rw e (by_header a.edition a.four a.chunk.now a.instructions.now a.operands.now a.words.now (refused a.edition a.four a.chunk.now (sym c.in_err-version.was ∙ c.decode_header.ensures)))

pub returns-then-not-has_room : goal.returns-then-not-has_room
returns-then-not-has_room c =
    let a = c.args in
    let h = passed a.edition a.four a.chunk.now (sym c.in_ok-version.was ∙ c.decode_header.ensures) in
    by_room a.edition a.four a.chunk.now a.instructions.now a.operands.now a.words.now h.0 (sym (not-true _ (ap not c.if-not-has_room.true)) ∙ c.has_room.ensures)

pub decode_body-requires : goal.decode_body-requires
decode_body-requires c =
    let a = c.args in
    let h = passed a.edition a.four a.chunk.now (sym c.in_ok-version.was ∙ c.decode_header.ensures) in
    entered a.edition a.four a.chunk.now a.instructions.now a.operands.now a.words.now h.0 h.1 (sym (not-false _ (ap not c.if-not-has_room.false)) ∙ c.has_room.ensures)

pub returns : goal.returns
returns c =
    let a = c.args in
    let h = passed a.edition a.four a.chunk.now (sym c.in_ok-version.was ∙ c.decode_header.ensures) in
    by_body a.edition a.four a.chunk.now a.instructions.now a.operands.now a.words.now h.0 (sym (not-false _ (ap not c.if-not-has_room.false)) ∙ c.has_room.ensures) c.ceiling.ensures c.decode_body.ensures
