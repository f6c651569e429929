use lib.ListN.{length}
use mathlib.Core.Path.{sym, ap, ◌∙◌}
use Rattle.format.specs.Dwords.{dwords_of}
use Rattle.format.specs.Refusals.{is_model51}
use Rattle.decode.proofs.Ended.{begins, fine_ends, refused_ends}
use Rattle.decode.proofs.decode_body.Goals as goal

pub write_all-requires : goal.write_all-requires
write_all-requires c = begins _ c.args.chunk.now {v = c.args.version} {is = length c.args.instructions.now} {os = length c.args.operands.now} {ws = length c.args.words.now} c.is_model51-model51.ensures c.requires (sym c.in-Ok.is ∙ c.measure.ensures)

pub returns-in-Ok : goal.returns-in-Ok
returns-in-Ok c = fine_ends _ (dwords_of c.args.chunk.now) (c.is_model51-model51.ensures ∙ ap is_model51 c.requires.version_is) c.requires.version_is (sym c.in-Ok.is ∙ c.measure.ensures) _ _ _ _ _ _ c.write_all.ensures

pub returns-in-Err : goal.returns-in-Err
returns-in-Err c = refused_ends _ (dwords_of c.args.chunk.now) (c.is_model51-model51.ensures ∙ ap is_model51 c.requires.version_is) (sym c.in-Err.is ∙ c.measure.ensures) c.args.instructions.now c.args.operands.now c.args.words.now _ _ _ c.clear.ensures c.clear-in-Err.ensures c.clear-in-Err-2.ensures
