-- The statements that answer the assessor, each about the definitions of specs/ alone and each proved by citing its law.
use Prim.Native.Nat.{ℕ, ◌*◌, ◌-◌, ◌/◌, ◌^◌, ◌≤◌, ◌<◌}
use mathlib.Core.Path.{◌≡◌}
use mathlib.Core.List.{List}
use mathlib.Core.Logic.{◌↔◌}
use mathlib.Core.Option.{none}
use mathlib.Core.Bool.{cond}
use lib.ListN.{length, get_or, drop}
use lib.Dec.{ltb}
use Rattle.std.specs.Prelude.{Ok, Err}
use Rattle.format.specs.declared.Refusal.{Refusal}
use Rattle.format.specs.declared.Refusal.TheVariants.{NoReading}
use Rattle.format.specs.declared.Accepted.{Accepted}
use Rattle.format.specs.Dwords.{Bytes, dwords_of}
use Rattle.format.specs.Framing.{code_of, ceiling}
use Rattle.format.specs.Declarations.{layout}
use Rattle.format.specs.Refusals.{number, place, room, decode, answer, Pools, Rows, reading}
use Rattle.format.specs.Encoder.{at, held, Gives, unencoded, encoded, encode}
use Rattle.format.specs.Editions.{entry, Beside}
use Rattle.format.proofs.Cases.{AllRight, cases, jointly}
use Rattle.format.proofs.Vectors.{two, differ}
use Rattle.format.proofs.Encoder as encoder
use Rattle.format.proofs.Beside as beside
use Rattle.format.proofs.Room as room-laws

-- Demand 2. P1 to P10, jointly: version, rows, words, u, refusals with their places, P9 at both editions
pub P1_to_P10 : AllRight cases
P1_to_P10 = jointly

-- every accepted chunk gives its own reading
pub accepted_gives : (edition four : ℕ) (chunk : List ℕ) (p : Pools) (a : Accepted) → Bytes chunk → answer (decode edition four chunk p) ≡ Ok a → Gives edition (reading (decode edition four chunk p) p) chunk
accepted_gives = encoder.accepted_gives

-- Restored: the rows and words that a chunk gives are encoded to exactly its bytes, whatever stands past the counts in the pools
pub restored : (edition : ℕ) (q : Rows) (chunk : List ℕ) → Gives edition q chunk → (size : ℕ) → length chunk ≤ size → encode edition q size ≡ encoded chunk
restored = encoder.restored

-- Exactly: 15 is given if and only if no chunk read at that edition gives this version token, these counts, rows and words; what is written
-- is read back to them
pub record Exactly (edition : ℕ) (q : Rows) (size : ℕ) : Type 0 where
  pub refused : (encode edition q size ≡ unencoded NoReading) ↔ ((chunk : List ℕ) → Gives edition q chunk → ⊥)
  pub written : (output : List ℕ) → encode edition q size ≡ encoded output → Gives edition q output

pub exactly : (edition : ℕ) → edition ≤ 3 → (q : Rows) (size : ℕ) → Exactly edition q size
exactly edition k q size = record { refused = (encoder.refused_none edition q size, encoder.none_refused edition q size k); written = encoder.encoded_gives edition q size }

-- Determined: two chunks that give the same version token, counts, rows and words are the same bytes, at whatever editions
pub determined : (edition edition' : ℕ) (q : Rows) (chunk chunk' : List ℕ) → Gives edition q chunk → Gives edition' q chunk' → chunk ≡ chunk'
determined edition edition' q chunk chunk' g g' = encoder.gives_one g g'

-- Demand 3. For any chunk, an older and a newer edition, and pools of the length that document 01 requires
pub record OldBesideNew (older newer four : ℕ) (chunk : List ℕ) (p p' : Pools) : Type 0 where
  -- if the newer accepts, so does the older, with the same version token and number of instructions
  pub accepts : (a : Accepted) → answer (decode newer four chunk p) ≡ Ok a → (o' : ℕ) × (w' : ℕ) × (answer (decode older four chunk p') ≡ Ok (record a { operands = o'; words = w' }))
  -- and what the pools hold of each instruction is the same, or unread: see Beside
  pub entries : (a : Accepted) → answer (decode newer four chunk p) ≡ Ok a → (k : ℕ) → k < a.instructions →
      Beside (ceiling older) chunk (entry (reading (decode newer four chunk p) p) k) (entry (reading (decode older four chunk p') p') k)
  -- a refusal in the header, in framing, or (past 12) inside an instruction whose code the older knows is the older's too
  pub refuses : (r : Refusal) → answer (decode newer four chunk p) ≡ Err r → (12 < number r → code_of (drop (place r / 4) (dwords_of chunk)) < ceiling older) → answer (decode older four chunk p') ≡ Err r

pub editions : (older newer four : ℕ) (chunk : List ℕ) (p p' : Pools) → older ≤ newer → newer ≤ 3 → room chunk p ≡ none → room chunk p' ≡ none → OldBesideNew older newer four chunk p p'
editions older newer four chunk p p' h k a b = record {
  accepts = beside.older_answers older newer four chunk p p' h k a b;
  entries = beside.entries_beside older newer four chunk p p' h k a b;
  refuses = beside.older_refusal older newer four chunk p p' h k a b;
}

-- and it is no comparison by absolute places: here they differ in the second instruction, whose code both editions know
pub absolute_places_differ : (entry (two 3) 1).row ≡ (entry (two 1) 1).row → ⊥
absolute_places_differ = differ

-- Room: accepted rows and words fit pools of 16M, 16M and M words, and every number in them, and the version token, fits a u32
pub record InRoom (chunk : List ℕ) (q : Rows) : Type 0 where
  pub instructions : 16 * q.instructions ≤ 16 * (length chunk / 4 - 2)
  pub operands : 16 * q.operands ≤ 16 * (length chunk / 4 - 2)
  pub words : q.words ≤ length chunk / 4 - 2
  pub version : q.version < 2 ^ 32
  pub instructions_fit : (i : ℕ) → i < length (held q).instructions → get_or (held q).instructions i 0 < 2 ^ 32
  pub operands_fit : (i : ℕ) → i < length (held q).operands → get_or (held q).operands i 0 < 2 ^ 32
  pub words_fit : (i : ℕ) → i < length (held q).words → get_or (held q).words i 0 < 2 ^ 32

pub in_room : (edition : ℕ) (q : Rows) (chunk : List ℕ) → Gives edition q chunk → InRoom chunk q
in_room edition q chunk g =
    let r = room-laws.gives_room g in
    record {
      instructions = r.instructions;
      operands = r.operands;
      words = r.words;
      version = r.version_fits;
      instructions_fit = room-laws.fit_all r.instructions_fit;
      operands_fit = room-laws.fit_all r.operands_fit;
      words_fit = room-laws.fit_all r.words_fit;
    }

-- Kind 0 depends on code and edition only: a reader that decodes the first instruction and marks later ones unread is shut out
pub kinds : (edition four : ℕ) (chunk : List ℕ) (p : Pools) (a : Accepted) → answer (decode edition four chunk p) ≡ Ok a → (k : ℕ) → k < a.instructions →
    let row = (entry (reading (decode edition four chunk p) p) k).row in at 3 row ≡ cond (ltb (at 2 row) (ceiling edition)) (layout (at 2 row)).kind 0
kinds = beside.kind_depends
