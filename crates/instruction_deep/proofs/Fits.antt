-- The dwords of an exact instruction fit 32 bits, where its words and its length do.
use Prim.Native.Nat.{ℕ, suc, ◌+◌, ◌*◌, ◌%◌, ◌^◌, ◌<◌}
use mathlib.Core.Path.{◌≡◌}
use mathlib.Core.Bool.{Bool, true, false, cond, ◌&&◌}
use mathlib.Core.List.{List, [], ◌∷◌, ◌++◌}
use native.Mathlib.Omega.{arith}
use lib.ListN.{length, get_or}
use lib.Dec.{eqb}
use borrow.Author.Tests.{eqb-true}
use Rattle.format.specs.Dwords.{bits, follows}
use Rattle.format.specs.Framing.{sized, length_of}
use Rattle.format.specs.Counts.{extension_type, lower_bits, rising}
use Rattle.format.specs.Declarations.{Layout, chained}
use Rattle.format.specs.Operands as op
use Rattle.format.specs.Operands.{Tree, none, plain, node}
use Rattle.format.specs.Instructions.{extensions}
use Rattle.format.specs.Rows.{tree_words, parts_words}
use Rattle.format.proofs.Dwords.{impossible, both}
use Rattle.format.proofs.Chains.{rose}
use Rattle.format.proofs.Made.{exact_node}
use Rattle.format.proofs.Room.{Fit, empty, also, fit_append, fit_front, fit_back}
use Rattle.operand_deep.proofs.Fields.{exact_below, extension_below}
use Rattle.instruction_deep.specs.Confirm.{linked, head_taken}

-- ---- numbers that fit, by their places
pub fit_each : (l : List ℕ) → ((i : ℕ) → i < length l → get_or l i 0 < 2 ^ 32) → Fit l
fit_each [] f = empty
fit_each (x ∷ l) f = also x (f 0 (omega arith)) (fit_each l (λ i h. f (suc i) (omega arith)))

-- ---- an operand: what is exact is a dword
fit_extension : (e : List ℕ) → op.exact_extension e ≡ true → Fit e
fit_extension [] h = empty
fit_extension (x ∷ []) h = also x (extension_below x h) empty
fit_extension (x ∷ y ∷ l) h = unfold op.exact_extension in impossible (cc)

fit_tree : (x : Tree) → op.exact x ≡ true → Fit (tree_words x) → Fit (op.dwords x)
unfolding tree_words op.dwords
fit_tree none h f = empty
fit_tree (plain x c) h f = fit_append (fit_front x (tree_words c) f) (fit_tree c (unfold op.exact in h) (fit_back x (tree_words c) f))
fit_tree (node t e m a b c) h f =
    let x = exact_node t e m a b c h in
    let f₁ = fit_front (m ++ tree_words a ++ tree_words b) (tree_words c) f in
    let f₂ = fit_front (m ++ tree_words a) (tree_words b) f₁ in
    also t (exact_below t x.token)
    (fit_append (fit_append (fit_append (fit_append (fit_extension e x.extension) (fit_front m (tree_words a) f₂)) (fit_tree a x.first (fit_back m (tree_words a) f₂))) (fit_tree b x.second (fit_back (m ++ tree_words a) (tree_words b) f₁))) (fit_tree c x.third (fit_back (m ++ tree_words a ++ tree_words b) (tree_words c) f)))

pub fit_parts : (ps : List Tree) → op.exact_parts ps ≡ true → Fit (parts_words ps) → Fit (op.parts_dwords ps)
unfolding op.exact_parts parts_words op.parts_dwords
fit_parts [] h f = empty
fit_parts (x ∷ l) h f =
    let b = both (op.exact x) (op.exact_parts l) h in
    fit_append (fit_tree x b.0 (fit_front (tree_words x) (parts_words l) f)) (fit_parts l b.1 (fit_back (tree_words x) (parts_words l) f))

-- ---- what stands after a token
lower_below : (a : ℕ) → lower_bits a < 2 ^ 31
unfolding lower_bits
lower_below a = go (eqb (extension_type a) 1)
  where
    go : (b : Bool) → cond b (1 + bits 9 20 a * 2 ^ 9) (a % 2 ^ 31) < 2 ^ 31
    go true = omega arith
    go false = omega arith

fit_chain : (k : ℕ) (e : List ℕ) → rising k e ≡ true → Fit e
fit_chain k [] h = empty
fit_chain k (a ∷ l) h = let r = rose k a l h in also a (omega (arith, r.exact, lower_below a)) (fit_chain (extension_type a) l r.then)

fit_one : (e : List ℕ) → length e ≡ 1 → get_or e 0 0 < 2 ^ 32 → Fit e
fit_one [] h k = empty
fit_one (x ∷ []) h k = also x k empty
fit_one (x ∷ y ∷ e) h k = impossible (omega arith)

fit_unlinked : (e : List ℕ) → linked false e ≡ true → Fit e
unfolding linked
fit_unlinked [] h = empty
fit_unlinked (x ∷ e) h = impossible (cc)

pub fit_head : (x : Layout) (t : ℕ) (e : List ℕ) → head_taken x t e ≡ true → rising 0 (extensions x e) ≡ true → length_of t e < 2 ^ 32 → Fit e
unfolding head_taken extensions length_of
fit_head x t e h k n = go (sized t) (chained x) h k n
  where
    go : (a c : Bool) → cond a (eqb (length e) 1) (linked (c && follows t) e) ≡ true → rising 0 (cond c e []) ≡ true → cond a (get_or e 0 0) (bits 24 30 t) < 2 ^ 32 → Fit e
    go true c h k n = fit_one e (eqb-true (length e) 1 h) n
    go false true h k n = fit_chain 0 e k
    go false false h k n = fit_unlinked e h
