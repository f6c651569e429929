use Rattle.std.proofs.Common.{sym, arith}
use lib.ListN.{get_or-eq_default}
use Rattle.format.specs.Dwords.{dwords_of}
use Rattle.case_file.proofs.at.Goals as goal

pub returns : goal.returns
returns c = sym (get_or-eq_default (dwords_of c.args.part.now) 0 (omega (arith, c.if-k-dwords.false, c.dwords.ensures)))
