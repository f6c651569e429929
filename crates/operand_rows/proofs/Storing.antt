-- The dwords of its own that an index has, as they are put.
use Prim.Native.Nat.{ℕ, ◌+◌, ◌-◌}
use mathlib.Core.Path.{◌≡◌, sym, subst}
use mathlib.Core.List.{List, ◌++◌}
use native.Mathlib.Omega.{arith}
use lib.ListN.{length, take, drop}
use borrow.Rule.Slice.PartMut.{put_mid}
use Rattle.format.specs.Operands.{own}
use Rattle.tokens.proofs.Places.{some_length}
use Rattle.operand_rows.specs.Writes.{Over, OwnRoom, Owned}
use Rattle.operand_rows.specs.declared.Sums.{Sums}
use Rattle.operand_rows.proofs.Lists.{back}

pub owned_put : (ds : List ℕ) (at o r : ℕ) → o ≡ own r → {b s : Sums} {W ys : List ℕ} {n : ℕ} → OwnRoom (length ds) at (own r) n b → s.rows ≡ b.rows → s.words ≡ b.words + o → s.dwords ≡ b.dwords + o
    → ys ≡ take o (drop (at + b.dwords) ds) ++ drop o (take (length W - b.words) (drop b.words W)) → Owned ds at (own r) b W s (put_mid b.words (length W - b.words) W ys)
owned_put ds at o r eo {b} {s} {W} {ys} q e₀ e₁ e₂ ey =
    let long : length (take o (drop (at + b.dwords) ds)) ≡ o = some_length o ds (at + b.dwords) (omega (arith, q.within)) in
    let p : Over b.words (take o (drop (at + b.dwords) ds)) W (put_mid b.words (length W - b.words) W ys) = back b.words W ys (take o (drop (at + b.dwords) ds)) o (sym long) ey in
    record {
      rows_are = e₀;
      words_are = omega arith;
      dwords_are = omega arith;
      words_put = subst (λ (i : ℕ). Over b.words (take i (drop (at + b.dwords) ds)) W (put_mid b.words (length W - b.words) W ys)) eo p;
    }
