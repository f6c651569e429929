-- A code with a row has the layout that the row tells; which arm it falls in says which of the others it is.
use native.Mathlib.Omega.{arith}
use mathlib.Core.Path.{sym}
use Rattle.layouts.proofs.Others.{by_count_lem, custom, phase, opaque}
use Rattle.layouts.proofs.uncounted_layout.Goals as goal

pub returns-in-Some : goal.returns-in-Some
returns-in-Some c = (rw c.declared.ensures (c.declaration.ensures.laid _ c.in-Some.is), rw c.declared.ensures (omega arith))

pub returns-in-53 : goal.returns-in-53
returns-in-53 c = (rw c.plain.ensures (custom c.args.code c.in-53.is), rw c.plain.ensures (omega arith))

pub returns-in-113-to-116 : goal.returns-in-113-to-116
returns-in-113-to-116 c = (rw c.plain-in-113-to-116.ensures (phase c.args.code (omega arith) (omega arith)), rw c.plain-in-113-to-116.ensures (omega arith))

pub returns-in_default-code : goal.returns-in_default-code
returns-in_default-code c = (rw c.plain-in_default-code.ensures (opaque c.args.code (by_count_lem c.args.code (sym (c.declaration.ensures.none c.in_default.is)) (λ e. omega arith) (λ h k. omega arith)) c.requires), rw c.plain-in_default-code.ensures (omega arith))
