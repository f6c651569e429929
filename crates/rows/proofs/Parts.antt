-- A row's words 0 to 15, and the part that its words 14 and 15 say.
use Rattle.std.proofs.Common.{ℕ, ◌+◌, ◌*◌, ◌-◌, ◌<◌, ◌≤◌, ◌≡◌, refl, Bool, true, false, cond, List, [], length, get_or, take, drop, arith, length-drop, ◌&&◌}
use Rattle.std.proofs.lemmas.List.{get_or-take, get_or-drop}
use Rattle.std.proofs.lemmas.Int.{to_z-of_z}
use borrow.Author.Tests.{leb-true}
use lib.Seq.{length-take-le}
use Rattle.format.specs.Calls.{cell, reached, spanned, part_of, part_start}

-- word k of a row
pub cell_of : (row k : ℕ) (pool r : List ℕ) → r ≡ take 16 (drop (16 * row) pool) → k < 16 → get_or r k 0 ≡ cell row k pool
cell_of row k pool r e h = rw e (rw (get_or-take 16 (drop (16 * row) pool) k 0 h, get_or-drop (16 * row) pool k 0) refl)

-- a number comes back out of the i8 that it is stored in
pub ruleset stored = (to_z-of_z)

-- a part lies in the word pool, and is cut out of it by its start and its length
inside : (b : Bool) (a n : ℕ) (words : List ℕ) → (b ≡ true → a + n ≤ length words) → cond b a 0 + length (cond b (take n (drop a words)) []) ≤ length words
inside true a n words h = omega (arith, h refl, length-drop a words, length-take-le n (drop a words) (omega (arith, h refl, length-drop a words)))
inside false a n words h = omega arith

cut : (b : Bool) (a n : ℕ) (words : List ℕ) → (b ≡ true → a + n ≤ length words) → take (length (cond b (take n (drop a words)) [])) (drop (cond b a 0) words) ≡ cond b (take n (drop a words)) []
cut true a n words h = rw (length-take-le n (drop a words) (omega (arith, h refl, length-drop a words))) refl
cut false a n words h = refl

second : (a b : Bool) → a && b ≡ true → b ≡ true
second true b h = h
second false b h = cc

pub part_inside : (row count : ℕ) (pool words : List ℕ) → part_start row count pool words + length (part_of row count pool words) ≤ length words
unfolding part_of part_start spanned
part_inside row count pool words = inside _ (cell row 14 pool) (cell row 15 pool) words (λ h. leb-true _ _ (second (reached row count pool) _ h))

pub part_cut : (row count : ℕ) (pool words : List ℕ) {start end : ℕ} → start ≡ part_start row count pool words → end ≡ part_start row count pool words + length (part_of row count pool words) → take (end - start) (drop start words) ≡ part_of row count pool words
unfolding part_of part_start spanned
part_cut row count pool words {start} {end} p q =
    let n : end - start ≡ length (part_of row count pool words) = omega arith in
    rw (n, p) (cut _ (cell row 14 pool) (cell row 15 pool) words (λ h. leb-true _ _ (second (reached row count pool) _ h)))
