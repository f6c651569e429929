use mathlib.Core.Path.{refl, ◌∙◌}
use native.Mathlib.Omega.{arith}
use Rattle.format.specs.Dwords.{dwords_of}
use Rattle.stream_write.proofs.Marks.{finished}
use Rattle.stream_write.proofs.write_all.Goals as goal

pub loop-s-init : goal.loop-s-init
loop-s-init c = record { writing = c.requires; toward = λ x y z l. l; rows_long = refl; operands_long = refl; words_long = refl }

pub write_next-s-requires : goal.write_next-s-requires
write_next-s-requires c = (omega (arith, c.loop-s-test.true, c.dwords-n.ensures), c.loop-s.invariant.writing)

pub loop-s-smaller : goal.loop-s-smaller
loop-s-smaller c = omega (arith, c.write_next-s.ensures.0, c.write_next-s.ensures.1.within)

pub loop-s-preserved : goal.loop-s-preserved
loop-s-preserved c = record {
  writing = c.write_next-s.ensures.1;
  toward = λ x y z l. c.loop-s.invariant.toward x y z (c.write_next-s.ensures.2 x y z l);
  rows_long = c.write_next-s.auto.instructions ∙ c.loop-s.invariant.rows_long;
  operands_long = c.write_next-s.auto.operands ∙ c.loop-s.invariant.operands_long;
  words_long = c.write_next-s.auto.words ∙ c.loop-s.invariant.words_long;
}

pub shape_of-instructions : goal.shape_of-instructions
shape_of-instructions c = c.loop-s.invariant.rows_long

pub shape_of-operands : goal.shape_of-operands
shape_of-operands c = c.loop-s.invariant.operands_long

pub shape_of-words : goal.shape_of-words
shape_of-words c = c.loop-s.invariant.words_long

pub returns : goal.returns
returns c = c.loop-s.invariant.toward _ _ _ (finished _ _ (dwords_of c.args.chunk.now) _ (omega (arith, c.loop-s-test.false, c.dwords-n.ensures)) _ _ _)
