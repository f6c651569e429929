-- Each export permits one answer; `shex_decode` and `shex_encode` also one content of each lent pool and of the output.
use Prim.Native.Nat.{ℕ}
use mathlib.Core.List.{List}
use Rattle.format.proofs.Unique.{unique, One}
use Rattle.shex.specs.declared.Reading.{Reading}
use Rattle.shex.specs.declared.Writing.{Writing}
use Rattle.shex_c.proofs.shex_decode.Kinds as kinds
use Rattle.shex_c.proofs.shex_decode.Reads as shex-decode
use Rattle.shex_c.proofs.shex_encode.Kinds as encode-kinds
use Rattle.shex_c.proofs.shex_encode.Reads as shex-encode
use Rattle.shex_c.proofs.shex_words.Kinds as words-kinds
use Rattle.shex_c.proofs.shex_words.Reads as shex-words
use Rattle.shex_c.proofs.shex_shows.Kinds as shows-kinds
use Rattle.shex_c.proofs.shex_shows.Reads as shex-shows
use Rattle.shex_c.proofs.shex_offsets.Kinds as offsets-kinds
use Rattle.shex_c.proofs.shex_offsets.Reads as shex-offsets

pub shex_decode_unique : One {A = Reading × List ℕ × List ℕ × List ℕ} 4 kinds.ps kinds.r (λ κs x s. (x, s.1.1.1.0.now, s.1.1.1.1.0.now, s.1.1.1.1.1.0.now)) shex-decode.Post
shex_decode_unique κs a x y s t p q =
    λ i. (unique p.told q.told i, unique p.instructions q.instructions i, unique p.operands q.operands i, unique p.words q.words i)

pub shex_encode_unique : One {A = Writing × List ℕ} 4 encode-kinds.ps encode-kinds.r (λ κs x s. (x, s.1.1.1.1.1.1.1.1.0.now)) shex-encode.Post
shex_encode_unique κs a x y s t p q = λ i. (unique p.told q.told i, unique p.output q.output i)

pub shex_words_unique : One 2 words-kinds.ps words-kinds.r (λ κs x s. x) shex-words.Post
shex_words_unique κs a x y s t p q = unique p q

pub shex_shows_unique : One 2 shows-kinds.ps shows-kinds.r (λ κs x s. x) shex-shows.Post
shex_shows_unique κs a x y s t p q = unique p q

pub shex_offsets_unique : One 1 offsets-kinds.ps offsets-kinds.r (λ κs x s. x) shex-offsets.Post
shex_offsets_unique κs a x y s t p q = unique p q
