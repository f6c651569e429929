-- Laws of lists that are written over.
use Prim.Native.Nat.{ℕ, ◌+◌, ◌-◌, ◌≤◌}
use mathlib.Core.Path.{◌≡◌, sym, ◌∙◌, ap}
use mathlib.Core.List.{List, [], ◌++◌, append_assoc, append-nil}
use native.Mathlib.Nat.{zero-add, add-zero}
use native.Mathlib.Omega.{arith}
use lib.ListN.{length, take, drop, length-drop, length-append, take-append-drop, drop_of_length-le}
use lib.Seq.{take_at, drop_at, drop-drop, length-take-le, take_all}
use borrow.Rule.Slice.PartMut.{put_mid}
use Rattle.operand_rows.specs.Writes.{Over}

-- a part that was lent from a place on is back
lent : (a : ℕ) (xs : List ℕ) → take (length xs - a) (drop a xs) ≡ drop a xs
lent a xs = take_all (length xs - a) (drop a xs) (rw (length-drop a xs) (omega arith))

pub lent_length : (a : ℕ) (xs : List ℕ) → length (take (length xs - a) (drop a xs)) ≡ length xs - a
lent_length a xs = ap length (lent a xs) ∙ length-drop a xs

pub back : (a : ℕ) (xs ys l : List ℕ) (m : ℕ) → m ≡ length l → ys ≡ l ++ drop m (take (length xs - a) (drop a xs)) → Over a l xs (put_mid a (length xs - a) xs ys)
back a xs ys l m em e =
    let rest : drop (length xs - a) (drop a xs) ≡ [] = drop_of_length-le (drop a xs) {i = length xs - a} (rw (length-drop a xs) (omega arith)) in
    rw (rest, append-nil ys, e, lent a xs, drop-drop m a xs, em)
    (sym (append_assoc (take a xs) l (drop (a + length l) xs)))

pub over_none : (a : ℕ) (xs : List ℕ) → Over a [] xs xs
over_none a xs = sym (rw (append-nil (take a xs), add-zero a) (take-append-drop a xs))

-- one behind the other
pub over_more : (a b : ℕ) (l m xs ys zs : List ℕ) → a + length l ≤ length xs → b ≡ a + length l → Over a l xs ys → Over b m ys zs → Over a (l ++ m) xs zs
over_more a b l m xs ys zs h eb e f =
    let len : length (take a xs ++ l) ≡ b = length-append (take a xs) l ∙ ap (λ (n : ℕ). n + length l) (length-take-le a xs (omega arith)) ∙ sym eb in
    let front : take b ys ≡ take a xs ++ l = ap (take b) e ∙ take_at (take a xs ++ l) (drop (a + length l) xs) b len in
    let tail : drop b ys ≡ drop (a + length l) xs = ap (drop b) e ∙ drop_at (take a xs ++ l) (drop (a + length l) xs) b len in
    let sum : a + length l + length m ≡ a + length (l ++ m) = omega (arith, length-append l m) in
    let rest : drop (b + length m) ys ≡ drop (a + length (l ++ m)) xs =
    sym (drop-drop (length m) b ys) ∙ ap (drop (length m)) tail ∙ drop-drop (length m) (a + length l) xs ∙ ap (λ (n : ℕ). drop n xs) sum in
    f ∙ rw (front, rest, append_assoc (take a xs) l m)

-- the row is stored in front of the rows behind it
pub row_before : (r l xs ys zs : List ℕ) → 16 ≤ length xs → Over 16 l xs ys → zs ≡ r ++ drop 16 ys → zs ≡ r ++ l ++ drop (16 + length l) xs
row_before r l xs ys zs h e f =
    let d : List ℕ = drop (16 + length l) xs in
    f ∙ ap (λ (k : List ℕ). r ++ k) (ap (drop 16) (e ∙ append_assoc (take 16 xs) l d) ∙ drop_at (take 16 xs) (l ++ d) 16 (length-take-le 16 xs h))
    ∙ sym (append_assoc r l d)

pub over_front : (l xs ys : List ℕ) → Over 0 l xs ys → ys ≡ l ++ drop (length l) xs
over_front l xs ys e = e ∙ rw (zero-add (length l))

pub over_length : (a : ℕ) (l xs ys : List ℕ) → a + length l ≤ length xs → Over a l xs ys → length ys ≡ length xs
over_length a l xs ys h e =
    ap length e ∙ length-append (take a xs ++ l) (drop (a + length l) xs)
    ∙ omega (arith, length-append (take a xs) l, length-take-le a xs (omega arith), length-drop (a + length l) xs)
