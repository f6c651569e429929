-- What check 10 says of pools.
use Prim.Native.Nat.{ℕ, ◌*◌, ◌-◌, ◌/◌}
use mathlib.Core.Path.{◌≡◌, refl}
use mathlib.Core.List.{List}
use mathlib.Core.Option.{none, some}
use mathlib.Core.Bool.{Bool, true, false, cond, not, ◌||◌}
use lib.ListN.{length}
use lib.Dec.{ltb}
use Rattle.format.specs.declared.Refusal.TheVariants.{Room}
use Rattle.format.specs.Refusals.{Pools, room}
use Rattle.header.specs.Header.{has_room}

-- the pools of these lengths have room, or the chunk is refused
pub room_of : (chunk : List ℕ) (p : Pools) → room chunk p ≡ cond (has_room (length chunk) (length p.instructions) (length p.operands) (length p.words)) none (some Room)
unfolding room has_room
room_of chunk p = go (ltb (length p.instructions) (16 * m) || ltb (length p.operands) (16 * m) || ltb (length p.words) m)
  where
    m : ℕ
    m = length chunk / 4 - 2

    go : (b : Bool) → cond b (some Room) none ≡ cond (not b) none (some Room)
    go true = refl
    go false = refl
