use native.Mathlib.Omega.{arith}
use Rattle.instruction_deep.proofs.Tokens.{no_dword, decided}
use Rattle.instruction_deep.proofs.pieces.Goals as goal

pub returns-in_default : goal.returns-in_default
returns-in_default c = no_dword c.args.instruction.now c.args.dwords c.args.s c.requires.0 _ c.token_of.ensures (omega (arith, c.in_default.ensures))

pub returns : goal.returns
returns c = decided c.args.instruction.now c.args.dwords c.args.s c.requires.0 _ c.token_of.ensures _ c.in-Ok.ensures.1 c.if-t-instruction.false _ c.fields_of-f.ensures _ c.exact_token.ensures c.if-not-exact_token.false _ c.in_bounds.ensures c.if-not-in_bounds.false _ c.exact_class.ensures c.if-not-exact_class.false c.same_fields.ensures c.if-not-same_fields.false c.head.ensures _ c.in-Some.is c.same_length.ensures
