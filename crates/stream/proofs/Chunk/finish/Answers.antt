use mathlib.Core.Path.{refl}
use Rattle.stream.proofs.Walks.{late_told, fine_told}
use Rattle.stream.proofs.Chunk.finish.Goals as goal

pub returns-in-Some : goal.returns-in-Some
returns-in-Some c = late_told c.requires.1 c.requires.0 c.in-Some.is

pub returns : goal.returns
returns c = fine_told c.requires.1 c.requires.0 c.in_default.is refl refl refl
