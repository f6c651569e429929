use mathlib.Core.Path.{refl}
use Rattle.encode.proofs.Emits.{begun, headed}
use Rattle.encode.proofs.write.Goals as goal

pub emit_all-requires : goal.emit_all-requires
emit_all-requires c = record { final = _; left = begun c.args.output.now c.args.version c.put_dword.ensures refl c.put_dword-2.ensures c.requires.whole }

pub returns : goal.returns
returns c = λ k m l y. headed c.args.output.now c.args.version c.put_dword.ensures refl c.put_dword-2.ensures y c.emit_all.ensures
