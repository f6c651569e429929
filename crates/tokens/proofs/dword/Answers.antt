use mathlib.Core.Path.{◌∙◌, sym}
use Rattle.tokens.proofs.Bytes.{get_or_dwords}
use Rattle.tokens.proofs.dword.Goals as goal

pub returns : goal.returns
returns c = let a = c.args in c.from_le_bytes.ensures ∙ sym (get_or_dwords a.part.now a.k c.requires)
