-- One extension, or any other.
use Prim.Native.Nat.{ℕ, ◌-◌}
use mathlib.Core.Path.{ap}
use native.Mathlib.Omega.{arith}
use Rattle.format.specs.Dwords.{dwords_of}
use Rattle.instruction.proofs.Usually.{once_read, once_short}
use Rattle.instruction.proofs.beside.Goals as goal

pub returns-then-n-indices : goal.returns-then-n-indices
returns-then-n-indices c = once_short (dwords_of c.args.part.now) c.args.at (omega (arith, c.dwords.ensures, c.if-n-lt2.false)) _ c.dword-t.ensures _ c.dword.ensures _ c.extends.ensures c.if-not-extends.false _ (ap (λ (k : ℕ). k - c.args.at) c.dwords.ensures) _ c.dimension-indices.ensures c.if-n-indices.true

pub returns : goal.returns
returns c = once_read (dwords_of c.args.part.now) c.args.at (omega (arith, c.dwords.ensures, c.if-n-lt2.false)) _ c.dword-t.ensures _ c.dword.ensures _ c.extends.ensures c.if-not-extends.false _ (ap (λ (k : ℕ). k - c.args.at) c.dwords.ensures) _ c.dimension-indices.ensures c.if-n-indices.false
