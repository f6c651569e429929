-- Laws of instructions: one that is read gives back its dwords.
use Prim.Native.Nat.{ℕ, ◌%◌, ◌^◌, ◌<◌, ◌≤◌}
use mathlib.Core.Path.{◌≡◌, refl, ap, ◌∙◌, subst}
use mathlib.Core.List.{List, [], ◌∷◌, ◌++◌, append_assoc, append-nil}
use mathlib.Core.Bool.{Bool, true, false, cond, ◌&&◌}
use lib.ListN.{length}
use lib.Dec.{eqb, ltb}
use borrow.Author.Tests.{lt-ltb, le-ltb}
use Rattle.format.specs.Dwords.{follows, Got}
use Rattle.format.specs.Framing.{code_of, sized}
use Rattle.format.specs.Declarations.{Item, o, d, small, s, tail, list, Layout, layout, chained}
use Rattle.format.specs.Operands as op
use Rattle.format.specs.Instructions.{Instruction, unread, pieces, Reading, ok, miscounted, inexact, read_head, read_item, read_items, split, fault, exact_pieces, checked, judged, read, dwords}
use Rattle.format.proofs.Dwords.{impossible, All, unmet, met, all_then, all_if, all_weaken, Makes, makes_dword, some_length, none_left_lem, chain_linked}
use Rattle.format.proofs.Operands.{makes_operand}

makes_item : (m : Bool) (i : Item) (ds : List ℕ) → Makes op.dwords ds (read_item m i ds)
unfolding read_item op.dwords
makes_item m o ds = makes_operand _ ds
makes_item m d ds = all_then (some_length 1 ds) (λ x r e. met (rw append-nil e.0))
makes_item m small ds = all_then (makes_dword ds) (λ x r e. all_if (ltb x 65_536) _ _ r (λ h. met e) (λ h. unmet))
makes_item m s ds = all_then (some_length (cond m 1 0) ds) (λ x r e. met (rw append-nil e.0))
makes_item m tail ds = met (append-nil _ ∙ append-nil ds)
makes_item m (list b) ds = all_then (makes_dword ds) (λ n r e. all_then (some_length (n % 2 ^ b) r) (λ x q e₁. met (ap (λ (l : List ℕ). n ∷ l) (ap (λ (l : List ℕ). l ++ q) (append-nil x) ∙ e₁.0) ∙ e)))

pub makes_items : (m : Bool) (l : List Item) (ds : List ℕ) → Makes op.parts_dwords ds (read_items m l ds)
unfolding read_items op.parts_dwords
makes_items m [] ds = met refl
makes_items m (i ∷ l) ds = all_then (makes_item m i ds) (λ p r e. all_then (makes_items m l r) (λ ps q e₁. met (rw (append_assoc, e₁, e))))

pub makes_head : (x : Layout) (t : ℕ) (ds : List ℕ) → Makes (λ l. l) ds (read_head x t ds)
unfolding read_head
makes_head x t ds = all_if (sized t) _ _ ds (λ z. all_weaken (λ l r e. e.0) (some_length 1 ds)) (λ z. all_weaken (λ l r e. e.0) (chain_linked (chained x && follows t) ds))

pub makes_split : (m : Bool) (x : Layout) (ds : List ℕ) → All (λ i r. dwords i ≡ ds) (split m x ds)
unfolding split dwords
makes_split m x ds =
    all_then (makes_dword ds) (λ t ds₁ e₁.
    all_then (makes_head x t ds₁) (λ e ds₂ e₂.
    all_then (makes_items m x.items ds₂) (λ ps ds₃ e₃.
    all_weaken (λ i r e₄. ap dwords e₄.0 ∙ rw (← e₁, ← e₂, ← e₃, e₄.1, append-nil)) (none_left_lem (pieces t e ps) ds₃))))

-- whatever is accepted has a property
pub data Kept (P : Instruction → Type 0) : Reading → Type 0 where
  kept : {i : Instruction} → P i → Kept P (ok i)
  kept13 : Kept P miscounted
  kept14 : Kept P inexact

module _ {P : Instruction → Type 0} where
  pub kept_if : (b : Bool) (x y : Reading) → (b ≡ true → Kept P x) → (b ≡ false → Kept P y) → Kept P (cond b x y)
  kept_if true x y p q = p refl
  kept_if false x y p q = q refl

  pub kept_ok : {a : Reading} {i : Instruction} → Kept P a → a ≡ ok i → P i
  kept_ok {i = i} (kept {i = j} p) e = let q : j ≡ i = cc in subst P q p
  kept_ok kept13 e = impossible (cc)
  kept_ok kept14 e = impossible (cc)

  pub kept_fault : (x : Layout) → Kept P (fault x)
  unfolding fault
  kept_fault x = kept_if (eqb x.kind 1 && ltb 1 (length x.items)) _ _ (λ e. kept13) (λ e. kept14)

  kept_checked : (x : Layout) (i : Instruction) → P i → Kept P (checked x i)
  unfolding checked
  kept_checked x (unread ds) p = kept p
  kept_checked x (pieces t e ps) p = kept_if (exact_pieces x t e ps) _ _ (λ z. kept p) (λ z. kept14)

  pub kept_judged : (x : Layout) {g : Got Instruction} → All (λ i r. P i) g → Kept P (judged x g)
  unfolding judged
  kept_judged x unmet = kept_fault x
  kept_judged x (met {a = i} p) = kept_checked x i p

pub read_restores : (c : ℕ) (m : Bool) (ds : List ℕ) → Kept (λ i. dwords i ≡ ds) (read c m ds)
unfolding read dwords
read_restores c m ds = kept_if (ltb (code_of ds) c) _ _ (λ k. kept_judged (layout (code_of ds)) (makes_split m (layout (code_of ds)) ds)) (λ k. kept refl)

-- kind 0 depends on code and ceiling only
pub read_known : (c : ℕ) (m : Bool) (ds : List ℕ) → code_of ds < c → read c m ds ≡ judged (layout (code_of ds)) (split m (layout (code_of ds)) ds)
unfolding read
read_known c m ds h = rw (lt-ltb (code_of ds) c h)

pub read_unknown : (c : ℕ) (m : Bool) (ds : List ℕ) → c ≤ code_of ds → read c m ds ≡ ok (unread ds)
unfolding read
read_unknown c m ds h = rw (le-ltb (code_of ds) c h)
