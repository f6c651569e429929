-- What stands between a token and an instruction's parts, and whether it is exact; and how many items a shape has.
use Prim.Native.Nat.{ℕ, suc, ◌+◌, ◌-◌, ◌≤◌, ◌<◌}
use mathlib.Core.Path.{◌≡◌, refl, sym, ap, ◌∙◌}
use mathlib.Core.List.{List, [], ◌∷◌, ◌++◌}
use mathlib.Core.Bool.{Bool, true, false, cond, not}
use mir.Val.{bool_byte}
use lib.ListN.{length, take, drop, length-drop, length-append, length-replicate}
use lib.Seq.{drop-drop, take_at, drop_at, slice}
use lib.Dec.{ltb, eqb}
use native.Mathlib.Omega.{arith}
use borrow.Author.Tests.{lt-ltb, le-ltb, ne_eqb}
use Rattle.layouts.specs.Shapes.{listed, tailed, items_of}
use Rattle.layouts.specs.declared.Shape.{Shape}
use Rattle.format.specs.Dwords.{Got, malformed, got}
use Rattle.format.specs.Framing.{code}
use Rattle.format.specs.Counts.{token_with, rising}
use Rattle.format.specs.Declarations.{list, Layout, in_bounds}
use Rattle.format.specs.Instructions.{read_head, fields_of, extensions}
use Rattle.format.proofs.Dwords.{impossible, All, unmet, met}
use Rattle.format.proofs.Instructions.{makes_head}
use Rattle.tokens.specs.Chains.{ends}
use Rattle.std.specs.Prelude.{Option, Some, None}
use Rattle.instruction_fields.specs.Fields.{headed, classed}

-- what stands behind a token: the place where it ends says what it is
head_made : {l e r : List ℕ} {g : Got (List ℕ)} → All (λ x left. x ++ left ≡ l) g → g ≡ got e r → e ++ r ≡ l
head_made unmet q = impossible (cc)
head_made {e = e} {r = r} (met {a = x} {r = left} p) q = let a : x ≡ e = cc in let b : left ≡ r = cc in rw (a, b) at p

slice_one : (ds y r : List ℕ) (b : ℕ) → b ≡ 1 + length y → 0 < length ds → y ++ r ≡ drop 1 ds → slice 1 b ds ≡ y
slice_one [] y r b e h p = impossible (omega arith)
slice_one (z ∷ ds) y r b e h p =
    let n : b ≡ suc (length y) = omega arith in
    ap (λ (i : ℕ). slice 1 i (z ∷ ds)) n ∙ ap (λ (l : List ℕ). take (length y) l) (sym p) ∙ take_at y r (length y) refl

pub record Headed (x : Layout) (t : ℕ) (ds : List ℕ) (b : ℕ) : Type 0 where
  pub begun : 1 ≤ b
  pub within : b ≤ length ds
  pub is : read_head x t (drop 1 ds) ≡ got (slice 1 b ds) (drop b ds)

pub headed_at : (x : Layout) (t : ℕ) (ds : List ℕ) → 0 < length ds → {b : ℕ} {a : Option ℕ} → a ≡ ends 1 (read_head x t (drop 1 ds)) → a ≡ Some b → Headed x t ds b
headed_at x t ds h {b} ea eb = go (read_head x t (drop 1 ds)) refl (sym eb ∙ ea)
  where
    go : (g : Got (List ℕ)) → read_head x t (drop 1 ds) ≡ g → Some b ≡ ends 1 g → Headed x t ds b
    go malformed e z = impossible (cc)
    go (got y r) e z =
        let n : b ≡ 1 + length y = cc in
        let p : y ++ r ≡ drop 1 ds = head_made (makes_head x t (drop 1 ds)) e in
        let k : length y + length r ≡ length ds - 1 = sym (length-append y r) ∙ ap length p ∙ length-drop 1 ds in
        let q : slice 1 b ds ≡ y = slice_one ds y r b n h p in
        let w : drop b ds ≡ r = ap (λ (i : ℕ). drop i ds) n ∙ sym (drop-drop (length y) 1 ds) ∙ ap (drop (length y)) (sym p) ∙ drop_at y r (length y) refl in
        record { begun = omega arith; within = omega arith; is = rw (q, w) e }

pub head_off : (x : Layout) (t : ℕ) (ds : List ℕ) {a : Option ℕ} → a ≡ ends 1 (read_head x t (drop 1 ds)) → a ≡ None → read_head x t (drop 1 ds) ≡ malformed
head_off x t ds ea eb = go (read_head x t (drop 1 ds)) (sym eb ∙ ea)
  where
    go : (g : Got (List ℕ)) → None ≡ ends 1 g → g ≡ malformed
    go malformed z = refl
    go (got y r) z = impossible (cc)

-- ---- the code's tests
module _ (kind t n : ℕ) where
  pub another_kind : (kind ≡ 5 → ⊥) → true ≡ classed kind t n
  another_kind h = rw (ne_eqb kind 5 h)

module _ (x : Layout) (t : ℕ) (e : List ℕ) (n : ℕ) (b₁ : Bool) (e₁ : b₁ ≡ eqb t (token_with (code t) (fields_of x t))) where
  module _ (z₁ : b₁ ≡ true) (b₂ : Bool) (e₂ : b₂ ≡ rising 0 (cond (ltb x.kind 3) e [])) where
    module _ (z₂ : b₂ ≡ true) (b₃ : Bool) (e₃ : b₃ ≡ in_bounds x.field t) where
      pub class_decides : b₃ ≡ true → (b₄ : Bool) → b₄ ≡ classed x.kind t n → b₄ ≡ headed x t e n
      unfolding headed extensions
      class_decides z b₄ e₄ = rw (← e₁, z₁, ← e₂, z₂, ← e₃, z, ← e₄)

-- ---- the number of items, and what the code has in other words
pub lists : (b : ℕ) → bool_byte (not (eqb b 0)) ≡ length (listed b)
lists b = go (eqb b 0)
  where
    go : (x : Bool) → bool_byte (not x) ≡ length (cond x [] (list b ∷ []))
    go true = refl
    go false = refl

pub tails : (b : Bool) → bool_byte b ≡ length (tailed b)
tails true = refl
tails false = refl

pub item_sum : (x : Shape) (l t : ℕ) → l ≡ length (listed x.list) → t ≡ length (tailed x.tail) → x.before + x.operands + x.small + x.after + x.extra + l + t ≡ length (items_of x)
unfolding items_of
item_sum x l t e f = rw (e, f) (simp (length-append, length-replicate) (omega arith))

pub chained_head : (kind : ℕ) (e : List ℕ) {b : Bool} → kind < 3 → b ≡ rising 0 e → b ≡ rising 0 (cond (ltb kind 3) e [])
chained_head kind e h z = rw (lt-ltb kind 3 h) z

pub unchained_head : (kind : ℕ) (e : List ℕ) → 3 ≤ kind → true ≡ rising 0 (cond (ltb kind 3) e [])
unfolding rising
unchained_head kind e h = rw (le-ltb kind 3 h)
