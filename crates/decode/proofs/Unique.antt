-- `decode` permits one answer, and one content of each lent pool.
use Prim.Native.Nat.{ℕ}
use mathlib.Core.List.{List}
use Rattle.std.specs.Prelude.{Result}
use Rattle.format.specs.declared.Accepted.{Accepted}
use Rattle.format.specs.declared.Refusal.{Refusal}
use Rattle.format.proofs.Unique.{unique, One}
use Rattle.decode.proofs.decode.Kinds as kinds
use Rattle.decode.proofs.decode.Reads as decode

pub decode_unique : One {A = Result Accepted Refusal × List ℕ × List ℕ × List ℕ} 4 kinds.ps kinds.r (λ κs x s. (x, s.1.1.1.0.now, s.1.1.1.1.0.now, s.1.1.1.1.1.0.now)) decode.Post
decode_unique κs a x y s t p q =
    λ i. (unique p.answered q.answered i, unique p.instructions q.instructions i, unique p.operands q.operands i, unique p.words q.words i)
