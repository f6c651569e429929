-- `no_bytes` gives as many bytes as it says; the length is cited, as computing it would count to it.
use Rattle.std.proofs.Common.{ℕ, sym}
use lib.ListN.{length-replicate}
use Rattle.case_file.proofs.no_bytes.Goals as goal

pub returns : goal.returns
returns c = sym (length-replicate {A = ℕ} 1048580 0)
