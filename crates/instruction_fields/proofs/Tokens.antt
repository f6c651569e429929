-- The head of a token that has none.
use Prim.Native.Nat.{ℕ}
use mathlib.Core.Path.{◌≡◌, refl}
use mathlib.Core.List.{List, [], ◌∷◌}
use mathlib.Core.Bool.{Bool, false}
use lib.ListN.{drop}
use lib.Dec.{ltb}
use Rattle.format.specs.Dwords.{chain}
use Rattle.format.specs.Framing.{sized}
use Rattle.format.specs.Declarations.{Layout}
use Rattle.format.specs.Instructions.{read_head}
use Rattle.tokens.specs.Chains.{ends}
use Rattle.std.specs.Prelude.{Some}

-- a token with nothing between it and its parts
pub head_none : (x : Layout) (t : ℕ) (ds : List ℕ) (b : Bool) → b ≡ sized t → b ≡ false → ltb x.kind 3 ≡ false → Some 1 ≡ ends 1 (read_head x t (drop 1 ds))
unfolding read_head chain
head_none x t ds b e z k = rw (← e, z, k) (go (drop 1 ds))
  where
    go : (l : List ℕ) → Some 1 ≡ ends 1 (chain false l)
    go [] = refl
    go (y ∷ l) = refl
