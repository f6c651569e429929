-- What measuring an operand answers.
use Rattle.std.specs.Prelude.{ℕ, zero, suc, ◌+◌, ◌-◌, ◌≡◌, Bool, cond, ltb, ◌&&◌, List, length, drop, Option, Some, None}
use Rattle.std.proofs.Math.Seq.{slice}
use Rattle.format.specs.Dwords.{dwords_of, bits, follows, Got, malformed, got, Reader, ◌>>=◌, give, fail, dword, chain}
use Rattle.format.specs.Operands.{Tree, read_indices, dwords, exact, exact_dword, exact_extension}
use Rattle.format.specs.Rows.{tree_rows, tree_words}
use Rattle.operand.specs.declared.Measured.{Measured}
use Rattle.operand.specs.declared.front.Front.{Front}

-- it needs r rows and w words and takes d dwords; x says whether they are exact
abbrev pub read : ℕ → ℕ → ℕ → Bool → Option Measured
read r w d x = Some (record { rows = r; words = w; dwords = d; exact = x })

-- the rows and words that it needs, the dwords that it takes, and whether they are exact
abbrev pub measured : Got Tree → Option Measured
measured malformed = None
measured (got t r) = read (tree_rows t) (length (tree_words t)) (length (dwords t)) (exact t)

-- the front of an operand with so many depths left: its dword and its extensions
unfoldable pub front : ℕ → Reader (ℕ × List ℕ)
front zero = fail
front (suc k) = do
  t ← dword
  e ← chain (follows t)
  give (t, e)

-- at a place: the dword, the place of what follows, and whether both are exact
abbrev pub fronted : ℕ → Got (ℕ × List ℕ) → Option (ℕ × ℕ × Bool)
fronted at malformed = None
fronted at (got x r) = Some (x.0, at + 1 + length x.1, exact_dword x.0 && exact_extension x.1)

-- what a front tells, if there is one
abbrev pub told : Option Front → Option (ℕ × ℕ × Bool)
told None = None
told (Some f) = Some (f.token, f.body, f.exact)

-- the dwords of its extensions, and those behind them
abbrev pub extensions : Front → List ℕ
extensions f = slice (f.at + 1) f.body (dwords_of f.part.now)

abbrev pub behind : Front → List ℕ
behind f = drop f.body (dwords_of f.part.now)

-- an operand of k words behind a front, in which no operand stands; none if its part ends before
abbrev pub with_words : Front → ℕ → Option Measured
with_words f k = cond (ltb (length (dwords_of f.part.now) - f.body) k) None (read 1 k (f.body - f.at + k) f.exact)

-- the bits of the representations are zero: each index is one dword
abbrev pub Flat : ℕ → Type 0
Flat t = bits 22 30 t ≡ 0

-- the answer of measuring its indices, whatever reads the operands in them
abbrev pub AnyDepth : Option Measured → ℕ → List ℕ → List ℕ → Type 0
AnyDepth a t e ds = (p : Reader Tree) → a ≡ measured (read_indices p t e ds)
