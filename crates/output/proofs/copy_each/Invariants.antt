use Rattle.std.proofs.Common.{◌≡◌, ◌*◌, take, drop}
use Rattle.format.specs.Dwords.{bytes_of}
use Rattle.output.specs.Puts.{put}
use Rattle.output.proofs.copy_each.Given as goal

abbrev pub invariant-loop-i : goal.invariant-loop-i
invariant-loop-i l = l.output ≡ put (4 * l.at) (bytes_of (take l.i (drop l.word l.words))) l.initial.output
