-- The operand whose rows and words stand in front: guessed from the numbers of its rows, and confirmed.
use Rattle.std.specs.Prelude.{ℕ, zero, suc, ◌+◌, ◌*◌, List, [], cond, ◌&&◌, length, take, drop, eqb, leb}
use Rattle.std.proofs.Math.Option.{Option, none as nothing, some as just}
use Rattle.format.specs.Operands.{Tree, none, plain, node, immediate, immediates, dimension, repr, own, nests, known, exact_dword, exact_extension}
use Rattle.format.specs.Rows.{tree_words, tree_rows, operand_row}
use Rattle.format.specs.Encoder.{at, extension_of, operand_dword, same}

-- rows and words from here on, and the numbers of the first row and word: what they are the rows and words of, or there is none
abbrev pub Confirms : Type 0 → Type 0
Confirms A = List ℕ → List ℕ → ℕ → ℕ → Option A

abbrev pub Confirmer : Type 0
Confirmer = Confirms Tree

abbrev pub ◌>>=◌ : {A B : Type 0} → Option A → (A → Option B) → Option B
◌>>=◌ nothing f = nothing
◌>>=◌ (just a) f = f a

-- what stands behind the rows and words of a tree
abbrev pub behind : {A : Type 0} → Tree → Confirms A → Confirms A
behind x p rs ws r w = p (drop (16 * tree_rows x) rs) (drop (length (tree_words x)) ws) (r + tree_rows x) (w + length (tree_words x))

-- an index of representation i, whose operand is confirmed by p
unfoldable pub confirm_index : Confirmer → ℕ → Confirmer
confirm_index p i rs ws r w = cond (known i && leb (own i) (length ws)) (do
  c ← cond (nests i) (p rs (drop (own i) ws) r (w + own i)) (just none)
  just (plain (take (own i) ws) c)) nothing

-- the operand, if the reader writes this very row of it
unfoldable pub confirmed : List ℕ → ℕ → ℕ → ℕ → List ℕ → List ℕ → Tree → Tree → Tree → Option Tree
confirmed q r w t e m a b c = cond (same q (operand_row r w t e m a b c)) (just (node t e m a b c)) nothing

-- immediates; a dimension above 0 is malformed
unfoldable pub confirm_immediates : List ℕ → ℕ → List ℕ → List ℕ → ℕ → ℕ → Option Tree
confirm_immediates q t e ws r w =
    cond (eqb (dimension t) 0 && leb (immediates t) (length ws)) (confirmed q r w t e (take (immediates t) ws) none none none) nothing

-- its row is before them
unfoldable pub confirm_indices : Confirmer → List ℕ → ℕ → List ℕ → Confirmer
confirm_indices p q t e rs ws r w = do
  a ← confirm_index p (repr 0 t) rs ws (r + 1) w
  b ← behind a (confirm_index p (repr 1 t)) rs ws (r + 1) w
  c ← behind a (behind b (confirm_index p (repr 2 t))) rs ws (r + 1) w
  confirmed q r w t e [] a b c

-- an operand of the row q, if its dword is t and its extensions are e; what stands behind that row
unfoldable pub confirm_front : Confirmer → List ℕ → ℕ → List ℕ → Confirmer
confirm_front p q t e rs ws r w =
    cond (exact_dword t && exact_extension e) (cond (immediate t) (confirm_immediates q t e ws r w) (confirm_indices p q t e rs ws r w)) nothing

-- an operand with so many depths left
unfoldable pub confirm : ℕ → Confirmer
confirm zero rs ws r w = nothing
confirm (suc k) rs ws r w =
    let q = take 16 rs in
    cond (leb 16 (length rs)) (confirm_front (confirm k) q (operand_dword q) (extension_of (at 3 q)) (drop 16 rs) ws r w) nothing
