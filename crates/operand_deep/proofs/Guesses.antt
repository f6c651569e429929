-- What an operand's row says of its dword and its extension.
use Prim.Native.Nat.{ℕ}
use mathlib.Core.Path.{◌≡◌, refl, sym, ◌∙◌}
use mathlib.Core.List.{List, [], ◌∷◌, ◌++◌}
use mathlib.Core.Bool.{true, false}
use lib.ListN.{length}
use lib.Dec.{ltb}
use native.Mathlib.Omega.{arith}
use borrow.Author.Tests.{eqb-true, eq-eqb, ne_eqb}
use Rattle.format.specs.Dwords.{bits, follows, got, chain}
use Rattle.format.specs.Operands as op
use Rattle.format.specs.Operands.{Tree}
use Rattle.format.specs.Rows.{operand_row}
use Rattle.format.specs.Encoder.{at, extension_of, operand_dword}
use Rattle.format.proofs.Dwords.{impossible, both}

-- ---- the chain of a dword and an extension that are exact and guessed from a row of theirs
-- an exact extension is the last
last : (x : ℕ) → op.exact_extension (x ∷ []) ≡ true → follows x ≡ false
unfolding op.exact_extension follows
last x h =
    let b = both (ltb 0 (op.modifiers (x ∷ []))) _ h in
    let z = eqb-true x _ b.1 in
    ne_eqb (bits 31 31 x) 1 (λ y. omega arith)

-- the row of a guess holds its fields
guess : (q : List ℕ) (r w t : ℕ) (e m : List ℕ) (a b c : Tree) → operand_dword q ≡ t → extension_of (at 3 q) ≡ e → q ≡ operand_row r w t e m a b c →
    t ≡ op.dword_with (op.form t) (op.selection t) (op.type_of t) (op.dimension t) (op.reprs t) (length e)
unfolding operand_dword operand_row
guess q r w t e m a b c et ee s = sym et ∙ (λ i. op.dword_with (at 1 (s i)) (at 2 (s i)) (at 0 (s i)) (at 6 (s i)) (at 7 (s i)) (length (ee i)))

-- as many extensions as bit 31 says
pub guessed_length : (q : List ℕ) (r w t : ℕ) (e m : List ℕ) (a b c : Tree) → operand_dword q ≡ t → extension_of (at 3 q) ≡ e → op.exact_dword t ≡ true → q ≡ operand_row r w t e m a b c →
    length e ≡ bits 31 31 t
unfolding op.exact_dword
guessed_length q r w t e m a b c et ee x s =
    let y : t ≡ op.dword_with (op.form t) (op.selection t) (op.type_of t) (op.dimension t) (op.reprs t) (bits 31 31 t) = eqb-true t _ x in
    let z : op.dword_with (op.form t) (op.selection t) (op.type_of t) (op.dimension t) (op.reprs t) (bits 31 31 t) ≡ op.dword_with (op.form t) (op.selection t) (op.type_of t) (op.dimension t) (op.reprs t) (length e) =
    sym y ∙ guess q r w t e m a b c et ee s in
    omega (arith, z)

no_chain : (l : List ℕ) → chain false l ≡ got [] l
unfolding chain
no_chain [] = refl
no_chain (x ∷ l) = refl

pub chain_of_lem : (t : ℕ) (e l : List ℕ) → op.exact_extension e ≡ true → length e ≡ bits 31 31 t → chain (follows t) (e ++ l) ≡ got e l
unfolding follows op.exact_extension chain
chain_of_lem t [] l h n =
    let z : follows t ≡ false = ne_eqb (bits 31 31 t) 1 (λ y. omega arith) in
    rw z (no_chain l)
chain_of_lem t (x ∷ []) l h n =
    let z : follows t ≡ true = eq-eqb (bits 31 31 t) 1 (omega arith) in
    rw (z, last x h, no_chain l)
chain_of_lem t (x ∷ y ∷ e) l h n = impossible (cc)
