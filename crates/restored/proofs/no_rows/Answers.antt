-- `no_rows` gives as many entries as it says; the length is cited, as computing it would count to it.
use Rattle.std.proofs.Common.{ℕ, sym}
use lib.ListN.{length-replicate}
use Rattle.restored.proofs.no_rows.Goals as goal

pub returns : goal.returns
returns c = sym (length-replicate {A = ℕ} 12288 0)
