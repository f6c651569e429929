-- A turn of the loop that copies dwords to the front of a list.
use Prim.Native.Nat.{ℕ, ◌+◌, ◌<◌}
use mathlib.Core.Path.{◌≡◌}
use mathlib.Core.List.{List, ◌++◌}
use native.Mathlib.Nat.{zero-add}
use native.Mathlib.Numerals.{add-one}
use native.Mathlib.Omega.{arith}
use lib.ListN.{length, take, drop, get_or, set, length-drop}
use lib.Seq.{paste-suc, get_or-drop}

pub copied_more : (ds ws : List ℕ) (at i : ℕ) → at + i < length ds → i < length ws → set (take i (drop at ds) ++ drop i ws) i (get_or ds (at + i) 0) ≡ take (i + 1) (drop at ds) ++ drop (i + 1) ws
copied_more ds ws at i h l =
    let q = simp (zero-add, get_or-drop) at (paste-suc ws 0 (drop at ds) i 0 (rw (zero-add i) l) (rw (length-drop at ds) (omega arith))) in
    rw (add-one i) q
