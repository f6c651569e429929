use mathlib.Core.Path.{◌∙◌}
use borrow.Author.Tests.{ne_eqb}
use Rattle.tokens.proofs.Chains.{more_extensions}
use Rattle.tokens.proofs.exact_extensions.Goals as goal

pub returns-else-to-from-eq1 : goal.returns-else-to-from-eq1
returns-else-to-from-eq1 c = ne_eqb _ _ c.if-to-from-eq1.false ∙ more_extensions _ _ _ c.requires.0 c.requires.1 c.if-from-to.false c.if-to-from-eq1.false
