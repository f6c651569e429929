use Rattle.std.proofs.Common.{rules}
use Rattle.tokens.proofs.Fields.{counted_is, counted_more, form_small}
use Rattle.tokens.proofs.immediates.Goals as goal

pub returns-in_default : goal.returns-in_default
returns-in_default c = counted_is _ _ c.form.ensures _ (counted_more _ (rw c.form.ensures (form_small _)) (search rules) (search rules))
