-- Whatever there is has a property.
use mathlib.Core.Path.{◌≡◌, refl, subst}
use mathlib.Core.Bool.{Bool, true, false, cond}
use mathlib.Core.Option.{Option, none, some}
use Rattle.operand_deep.specs.Confirm.{◌>>=◌}

pub data Every {A : Type 0} (P : A → Type 0) : Option A → Type 0 where
  unmet : Every P none
  met : {a : A} → P a → Every P (some a)

pub every_then : {A B : Type 0} {P : A → Type 0} {Q : B → Type 0} {o : Option A} {f : A → Option B} → Every P o → ((a : A) → P a → Every Q (f a)) → Every Q (◌>>=◌ o f)
every_then unmet k = unmet
every_then (met {a = a} x) k = k a x

pub every_if : {A : Type 0} {Q : A → Type 0} (b : Bool) (x y : Option A) → (b ≡ true → Every Q x) → (b ≡ false → Every Q y) → Every Q (cond b x y)
every_if true x y f g = f refl
every_if false x y f g = g refl

of_some : {A : Type 0} {P : A → Type 0} {a : A} → Every P (some a) → P a
of_some (met p) = p

pub every_of : {A : Type 0} {P : A → Type 0} {o : Option A} {a : A} → o ≡ some a → Every P o → P a
every_of {P = P} e x = of_some (subst (Every P) e x)
