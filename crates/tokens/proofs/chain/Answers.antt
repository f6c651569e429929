use native.Mathlib.Omega.{arith}
use Rattle.tokens.proofs.Chains.{not_begun, begun, ran_off, goes_on, ended}
use Rattle.tokens.proofs.chain.Goals as goal

pub returns-then-not-first : goal.returns-then-not-first
returns-then-not-first c = not_begun _ _ c.if-not-first.true

pub loop-at-init : goal.loop-at-init
loop-at-init c = begun _ _ c.if-not-first.false

pub returns-then-not-follows : goal.returns-then-not-follows
returns-then-not-follows c = ended c.loop-at.invariant (omega arith) c.dword.ensures c.follows.ensures c.if-not-follows.true

pub loop-at-preserved : goal.loop-at-preserved
loop-at-preserved c = goes_on c.loop-at.invariant (omega arith) c.dword.ensures c.follows.ensures c.if-not-follows.false

pub returns : goal.returns
returns c = ran_off c.loop-at.invariant (omega arith)
