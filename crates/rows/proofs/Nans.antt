-- Laws of the bits of a NaN: those above 0x7F80_0000, without the sign.
use Prim.Native.Nat.{ℕ, ◌<◌, ◌≤◌, ◌%◌}
use mathlib.Core.Path.{◌≡◌, refl, sym, ◌∙◌}
use mathlib.Core.Bool.{true, false}
use lib.Ieee.{Float, nan, inf, fin, binary32, is_nan, nan_bits, of_bits}
use lib.Ieee.Bits.{nan_bits_is, nan_bits_above}
use borrow.Author.Tests.{lt-ltb, le-ltb}

only_nan : (x : Float) → is_nan x ≡ true → x ≡ nan
unfolding is_nan
only_nan nan e = refl
only_nan (inf s) e = cc
only_nan (fin s m k) e = cc

pub nan_of : (d : ℕ) → 2139095040 < d % 2147483648 → of_bits binary32 d ≡ nan
nan_of d h = only_nan (of_bits binary32 d) (sym (nan_bits_is binary32 d) ∙ (nan_bits_above binary32 d ∙ lt-ltb _ _ h))

pub no_nan : (d : ℕ) → d % 2147483648 ≤ 2139095040 → nan_bits binary32 d ≡ false
no_nan d h = nan_bits_above binary32 d ∙ le-ltb _ _ h
