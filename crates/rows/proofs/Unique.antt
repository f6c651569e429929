-- Each call permits one answer.
use Prim.Native.Nat.{ℕ}
use mathlib.Core.List.{List}
use Rattle.format.proofs.Unique.{unique, One}
use Rattle.rows.proofs.places_of.Kinds as places-of-kinds
use Rattle.rows.proofs.places_of.Reads as places_of
use Rattle.rows.proofs.words_of.Kinds as words-of-kinds
use Rattle.rows.proofs.words_of.Reads as words_of
use Rattle.rows.proofs.shows.Kinds as shows-kinds
use Rattle.rows.proofs.shows.Reads as shows
use Rattle.rows.proofs.offsets.Kinds as offsets-kinds
use Rattle.rows.proofs.offsets.Reads as offsets

-- where a row's words are
pub places_unique : One {A = ℕ × ℕ} 2 places-of-kinds.ps places-of-kinds.r (λ κs x s. (x.start, x.end)) places_of.Post
places_unique κs a x y s t p q = λ i. (unique p.0 q.0 i, unique p.1 q.1 i)

-- a row's words: their list and their place
pub words_unique : One {A = List ℕ × (ℕ × ℕ)} 2 words-of-kinds.ps words-of-kinds.r (λ κs x s. (x.now, x.ref_ptr)) words_of.Post
words_unique κs a x y s t p q = λ i. (unique p.0 q.0 i, unique p.1 q.1 i)

pub shows_unique : One 2 shows-kinds.ps shows-kinds.r (λ κs x s. x) shows.Post
shows_unique κs a x y s t p q = unique p q

pub offsets_unique : One 1 offsets-kinds.ps offsets-kinds.r (λ κs x s. x) offsets.Post
offsets_unique κs a x y s t p q = unique p q
