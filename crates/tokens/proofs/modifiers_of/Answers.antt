use Rattle.tokens.proofs.Chains.{some_modifiers}
use Rattle.tokens.proofs.modifiers_of.Goals as goal

pub returns : goal.returns
returns c = some_modifiers _ _ _ c.requires.0 c.requires.1 c.if-from-to.false _ _ c.dword.ensures c.modifiers.ensures
