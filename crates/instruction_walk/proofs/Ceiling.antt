-- Below the ceiling an instruction is of a known code, from there on it is unread.
use Prim.Native.Nat.{ℕ, ◌*◌, ◌<◌, ◌≤◌}
use mathlib.Core.Path.{◌≡◌}
use mathlib.Core.List.{List, []}
use mathlib.Core.Bool.{Bool}
use lib.ListN.{drop}
use borrow.Author.Tests.{lt-ltb, le-ltb}
use Rattle.std.specs.Prelude.{Option, Some, None, IfSome}
use Rattle.instruction_walk.specs.Short.{KnownIf}
use Rattle.format.specs.Encoder.{at}
use Rattle.instruction_deep.specs.Confirm.{confirm_known, confirm_unread, confirm_instruction}
use Rattle.instruction_deep.specs.Walks.{walked_instruction}
use Rattle.instruction_deep.specs.declared.Walked.{Walked}

module _ (q : List ℕ) (place ceiling : ℕ) (m : Bool) (rs ws : List ℕ) (r w : ℕ) where
  pub by_unread : ceiling ≤ at 2 q → {a : Option Walked} → a ≡ walked_instruction (confirm_unread q place [] (drop w ws) r w) → a ≡ walked_instruction (confirm_instruction ceiling m q place (drop (16 * r) rs) (drop w ws) r w)
  unfolding confirm_instruction confirm_unread
  by_unread h e = rw (le-ltb (at 2 q) ceiling h) e

  pub by_known : at 2 q < ceiling → {a : Option Walked} → a ≡ walked_instruction (confirm_known m q place (drop (16 * r) rs) (drop w ws) r w) → a ≡ walked_instruction (confirm_instruction ceiling m q place (drop (16 * r) rs) (drop w ws) r w)
  unfolding confirm_instruction
  by_known h e = rw (lt-ltb (at 2 q) ceiling h) e

  abbrev Answer : Walked → Type 0
  Answer x = Some x ≡ walked_instruction (confirm_instruction ceiling m q place (drop (16 * r) rs) (drop w ws) r w)

  pub if_known : at 2 q < ceiling → (a : Option Walked) → IfSome a (λ x. Some x ≡ walked_instruction (confirm_known m q place (drop (16 * r) rs) (drop w ws) r w)) → IfSome a Answer
  if_known h None e = e
  if_known h (Some x) e = by_known h e

  pub quick_known : at 2 q < ceiling → (a : Option Walked) → KnownIf q place (drop (16 * r) rs) (drop w ws) r w a → IfSome a Answer
  quick_known h None e = e
  quick_known h (Some x) e = by_known h (e m)
