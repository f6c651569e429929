-- An instruction's length, for each place that it is read from.
use Prim.Native.Nat.{ℕ, suc, ◌+◌, ◌/◌, ◌%◌, ◌≤◌}
use mathlib.Core.Path.{◌≡◌, ap, ◌∙◌}
use mathlib.Core.List.{List}
use mathlib.Core.Bool.{true, false}
use lib.ListN.{length, get_or, drop, drop_of_length-le}
use lib.Seq.{get_or-drop}
use native.Mathlib.Omega.{arith}
use Rattle.format.specs.Framing.{sized, length_of}

module _ (ds : List ℕ) (at : ℕ) {t : ℕ} (token : t ≡ get_or ds at 0) where
  pub by_seven_bits : sized t ≡ false → t / 16777216 % 128 ≡ length_of (get_or ds at 0) (drop (suc at) ds)
  unfolding length_of
  by_seven_bits s = rw (← token, s)

  pub by_next : sized t ≡ true → {n : ℕ} → n ≡ get_or ds (at + 1) 0 → n ≡ length_of (get_or ds at 0) (drop (suc at) ds)
  unfolding length_of
  by_next s e = rw (← token, s, get_or-drop) (e ∙ ap (λ (k : ℕ). get_or ds k 0) (omega arith))

  pub no_next : sized t ≡ true → length ds ≤ at + 1 → 0 ≡ length_of (get_or ds at 0) (drop (suc at) ds)
  unfolding length_of
  no_next s h = rw (← token, s, drop_of_length-le ds {i = suc at} (omega arith))
