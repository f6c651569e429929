-- `encode` permits one answer, and one content of the output.
use Prim.Native.Nat.{ℕ}
use mathlib.Core.List.{List}
use Rattle.std.specs.Prelude.{Result}
use Rattle.format.specs.declared.Refusal.{Refusal}
use Rattle.format.proofs.Unique.{unique, One}
use Rattle.encode.proofs.encode.Kinds as kinds
use Rattle.encode.proofs.encode.Reads as encode

pub encode_unique : One {A = Result ℕ Refusal × List ℕ} 4 kinds.ps kinds.r (λ κs x s. (x, s.1.1.1.1.1.1.1.1.0.now)) encode.Post
encode_unique κs a x y s t p q = λ i. (unique p.answered q.answered i, unique p.output q.output i)
