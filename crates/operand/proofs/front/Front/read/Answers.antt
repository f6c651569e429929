use mathlib.Core.Path.{◌∙◌, refl, ap}
use Rattle.format.specs.Dwords.{dwords_of}
use Rattle.operand.specs.Measures.{told}
use Rattle.operand.proofs.Fronts.{front_none, front_end, front_off, front_passed, front_read, opened}
use native.Mathlib.Omega.{arith}
use Rattle.operand.proofs.front.Front.read.Goals as goal

pub returns-then-left-eq0-clause-told : goal.returns-then-left-eq0-clause-told
returns-then-left-eq0-clause-told c = let a = c.args in front_none a.left (dwords_of a.part.now) a.at c.if-left-eq0.true

pub returns-then-dwords-at-clause-told : goal.returns-then-dwords-at-clause-told
returns-then-dwords-at-clause-told c = let a = c.args in front_end a.left (dwords_of a.part.now) a.at (omega (arith, c.dwords.ensures))

pub returns-in_err-body-clause-told : goal.returns-in_err-body-clause-told
returns-in_err-body-clause-told c = let a = c.args in ap told c.from_residual.ensures ∙ front_off a.left (dwords_of a.part.now) a.at c.if-left-eq0.false (omega (arith, c.dwords.ensures)) _ c.dword-token.ensures _ c.follows.ensures c.in_err-body.ensures

pub exact_extensions-requires : goal.exact_extensions-requires
exact_extensions-requires c = let a = c.args in let w = front_passed a.left (dwords_of a.part.now) a.at c.if-left-eq0.false (omega (arith, c.dwords.ensures)) _ c.dword-token.ensures _ c.follows.ensures _ c.in_ok-body.ensures in (w.from, w.within)

pub invariant_of-result : goal.invariant_of-result
invariant_of-result c = let a = c.args in record { stands = (opened a.left (dwords_of a.part.now) a.at _ (front_read a.left (dwords_of a.part.now) a.at c.if-left-eq0.false (omega (arith, c.dwords.ensures)) _ c.dword-token.ensures _ c.follows.ensures _ c.in_ok-body.ensures _ _ _ c.exact_dword.ensures c.exact_extensions.ensures refl)).stands }

pub returns-clause-told : goal.returns-clause-told
returns-clause-told c = let a = c.args in front_read a.left (dwords_of a.part.now) a.at c.if-left-eq0.false (omega (arith, c.dwords.ensures)) _ c.dword-token.ensures _ c.follows.ensures _ c.in_ok-body.ensures _ _ _ c.exact_dword.ensures c.exact_extensions.ensures refl
