use mathlib.Core.Path.{ap, ◌∙◌}
use borrow.Author.Tests.{lt-leb}
use Rattle.std.specs.Prelude.{is_ok}
use Rattle.reading.proofs.Versions.{no_edition, version_told}
use Rattle.reading.proofs.taken.Goals as goal

pub returns-then-edition-le3 : goal.returns-then-edition-le3
returns-then-edition-le3 c = c.is_ok.ensures.value ∙ ap is_ok c.decode_version.ensures ∙ version_told c.args.edition c.args.version c.if-edition-le3.true

pub returns-else-edition-le3 : goal.returns-else-edition-le3
returns-else-edition-le3 c = lt-leb c.args.edition 3 c.if-edition-le3.false ∙ no_edition c.args.edition c.args.version c.if-edition-le3.false
