-- What it is for a contract to permit one answer: of the same arguments, any two that it permits are equal.
use Prim.Native.Nat.{ℕ}
use mathlib.Core.Path.{◌≡◌, sym, ◌∙◌}
use mathlib.Core.List.{List}
use contract.Lifetimes.{Lfts}
use denote.Triple.Clauses.{AtExit}
use borrow.Fn.Kinds.{ParamKind, ResultKind, Dens, Out, res_t, ended_of}

-- any definition: what equals it is one
pub unique : {A : Type 0} {definition x y : A} → x ≡ definition → y ≡ definition → x ≡ y
unique p q = p ∙ sym q

-- the `ensures` of a function, whatever it is, permits one answer: `seen` is what a caller sees of a result and of the lent slices
abbrev pub One : {A : Type 0} (n : ℕ) (ps : List (ParamKind n)) (r : ResultKind n) (seen : (κs : Lfts n) → (res_t r κs).Denot → AtExit (ended_of n ps r) κs → A) → Out n ps r → Type 0
One n ps r seen Post = (κs : Lfts n) (a : Dens κs ps) (x y : (res_t r κs).Denot) (s t : AtExit (ended_of n ps r) κs) → Post κs a x s → Post κs a y t → seen κs x s ≡ seen κs y t
