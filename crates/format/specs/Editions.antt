-- Demand 3: what the pools hold of one instruction, and how an older edition's entries are compared with a newer's.
use Rattle.std.specs.Prelude.{ℕ, zero, suc, ◌+◌, ◌*◌, ◌-◌, ◌/◌, ◌<◌, ◌≤◌, ◌≡◌, List, [], ◌∷◌, ◌++◌, cond, length, take, drop, ltb}
use Rattle.format.specs.Dwords.{bits_from, dwords_of}
use Rattle.format.specs.Rows.{placed, word_place, child_row, unread_row}
use Rattle.format.specs.Refusals.{Rows}
use Rattle.format.specs.Calls.{cell, part_of}
use Rattle.format.specs.Encoder.{at}

infix 20 ◌holds◌
-- an instruction's row, its operands' rows and its words
pub record Entry : Type 0 where
  pub row : List ℕ
  pub operands : List ℕ
  pub words : List ℕ

-- the first operand row past instruction k: the next one's first, or the number of all
unfoldable pub next_row : Rows → ℕ → ℕ
next_row q k = cond (ltb (k + 1) q.instructions) (cell (k + 1) 12 q.pools.instructions) q.operands

unfoldable pub entry : Rows → ℕ → Entry
entry q k =
    let first = cell k 12 q.pools.instructions in
    record {
      row = take 16 (drop (16 * k) q.pools.instructions);
      operands = take (16 * (next_row q k - first)) (drop (16 * first) q.pools.operands);
      words = part_of k q.instructions q.pools.instructions q.pools.words;
    }

-- the representation of index i, by an operand's row
unfoldable pub repr_in : ℕ → List ℕ → ℕ
repr_in i q = cond (ltb i (at 6 q)) (bits_from (3 * i) 3 (at 7 q)) 8

-- an operand's row whose places count from its instruction's first entries, where those are row r and word w; unused fields stay 0
unfoldable pub move_operand : ℕ → ℕ → List ℕ → List ℕ
move_operand r w q =
    at 0 q ∷ at 1 q ∷ at 2 q ∷ at 3 q ∷ placed (ltb 0 (at 5 q)) (w + at 4 q) ∷ at 5 q ∷ at 6 q ∷ at 7 q ∷
    word_place (repr_in 0 q) (w + at 8 q) ∷ word_place (repr_in 1 q) (w + at 9 q) ∷ word_place (repr_in 2 q) (w + at 10 q) ∷
    child_row (repr_in 0 q) (r + at 11 q) ∷ child_row (repr_in 1 q) (r + at 12 q) ∷ child_row (repr_in 2 q) (r + at 13 q) ∷ at 14 q ∷ at 15 q ∷ []

unfoldable pub move_operands : ℕ → ℕ → ℕ → List ℕ → List ℕ
move_operands zero r w l = []
move_operands (suc n) r w l = move_operand r w (take 16 l) ++ move_operands n r w (drop 16 l)

-- an entry, likewise
unfoldable pub move : ℕ → ℕ → Entry → Entry
move r w own = record {
  row = take 12 own.row ++ (r + at 12 own.row) ∷ at 13 own.row ∷ (w + at 14 own.row) ∷ at 15 own.row ∷ [];
  operands = move_operands (length own.operands / 16) r w own.operands;
  words = own.words;
}

-- an entry holds what another does, with places counted from its own first entries
abbrev pub ◌holds◌ : Entry → Entry → Type 0
◌holds◌ x own = x ≡ move (at 12 x.row) (at 14 x.row) own

-- the dwords that a row stands for
unfoldable pub dwords_at : List ℕ → List ℕ → List ℕ
dwords_at chunk row = take (at 1 row) (drop (at 0 row / 4) (dwords_of chunk))

-- an unread row holds exactly its dwords
pub record Unread (chunk : List ℕ) (x : Entry) : Type 0 where
  pub row : x.row ≡ unread_row (at 0 x.row) (at 12 x.row) (at 14 x.row) (dwords_at chunk x.row)
  pub operands : x.operands ≡ []
  pub words : x.words ≡ dwords_at chunk x.row

-- an instruction of a chunk at a newer edition, and at an older one that knows codes below a ceiling
pub record Beside (ceiling : ℕ) (chunk : List ℕ) (newer older : Entry) : Type 0 where
  pub boundaries : take 2 newer.row ≡ take 2 older.row
  pub known : at 2 newer.row < ceiling → (own : Entry) × (newer holds own) × (older holds own)
  pub unknown : ceiling ≤ at 2 newer.row → Unread chunk older
