-- Plain but for bit 31, and with a chain behind it that rises.
use mathlib.Core.Path.{refl, sym, ◌∙◌}
use native.Mathlib.Omega.{arith}
use Rattle.format.specs.Dwords.{dwords_of}
use Prim.Native.Nat.{ℕ}
use Rattle.instruction.specs.Measure.{Begun}
use Rattle.instruction.proofs.Heads.{chain_passed, chain_begins, if_risen}
use Rattle.instruction.proofs.chained_head.Goals as goal

pub rising-requires : goal.rising-requires
rising-requires c = let p = chain_passed c.args.t (dwords_of c.args.part.now) c.requires c.in_ok-end.ensures in (p.from, p.within)

pub returns : goal.returns
returns c = if_risen (λ (k : ℕ). Begun c.args.t (dwords_of c.args.part.now) k) c.then_some.ensures (λ z. chain_begins c.args.t (dwords_of c.args.part.now) c.requires c.in_ok-end.ensures _ refl c.if-t-lt2147483648.false (omega (arith, c.well_formed, c.ranges)) (sym c.plain.ensures ∙ c.if-not-plain.false) (sym z ∙ c.rising.ensures))
