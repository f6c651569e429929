-- A code that is in no arm is among neither the even codes of a line nor the odd ones.
use Rattle.format.specs.Counts.{numbers}
use Rattle.layouts.proofs.Lines.{no_key, no_keys, by_no_keys}
use Rattle.layouts.proofs.operand_count.Goals as goal

pub returns-in_default : goal.returns-in_default
unfolding numbers
returns-in_default c =
    by_no_keys c.args.code
    (no_key _ _ c.in_default.in_default-own.rest.0.0.0.0.0.0.0.0.0.0.0.0.0.0.0.0.0.0.0.0.1)
    (no_key _ _ c.in_default.in_default-own.rest.0.0.0.0.0.0.0.0.0.0.0.0.0.0.0.0.0.0.1)
    (no_keys 10 _ _ (no_key _ _ c.in_default.in_default-own.rest.0.0.0.0.0.0.0.0.0.0.0.0.0.0.0.0.1) (no_key _ _ c.in_default.in_default-own.rest.0.0.0.0.0.0.0.0.0.0.0.0.0.0.0.1))
    (no_keys 13 _ _ (no_key _ _ c.in_default.in_default-own.rest.0.0.0.0.0.0.0.0.0.0.0.0.1) (no_key _ _ c.in_default.in_default-own.rest.0.0.0.0.0.0.0.0.0.0.0.1))
    (no_keys 8 _ _ (no_key _ _ c.in_default.in_default-own.rest.0.0.0.0.0.0.0.1) (no_key _ _ c.in_default.in_default-own.rest.0.0.0.0.0.0.1))
    (no_key _ _ c.in_default.in_default-own.rest.0.0.0.1)
    (no_key _ _ c.in_default.in_default-own.rest.0.1)
    (no_key _ _ c.in_default.in_default-own.rest.0.0.0.0.0.0.0.0.0.0.0.0.0.0.0.0.0.0.0.1)
    (no_key _ _ c.in_default.in_default-own.rest.0.0.0.0.0.0.0.0.0.0.0.0.0.0.0.0.0.1)
    (no_keys 13 _ _ (no_key _ _ c.in_default.in_default-own.rest.0.0.0.0.0.0.0.0.0.0.0.0.0.0.1) (no_key _ _ c.in_default.in_default-own.rest.0.0.0.0.0.0.0.0.0.0.0.0.0.1))
    (no_keys 10 _ _ (no_key _ _ c.in_default.in_default-own.rest.0.0.0.0.0.0.0.0.0.0.1) (no_keys 10 _ _ (no_key _ _ c.in_default.in_default-own.rest.0.0.0.0.0.0.0.0.0.1) (no_key _ _ c.in_default.in_default-own.rest.0.0.0.0.0.0.0.0.1)))
    (no_keys 7 _ _ (no_key _ _ c.in_default.in_default-own.rest.0.0.0.0.0.1) (no_key _ _ c.in_default.in_default-own.rest.0.0.0.0.1))
    (no_key _ _ c.in_default.in_default-own.rest.0.0.1)
    (no_key _ _ c.in_default.in_default-own.rest.1)
