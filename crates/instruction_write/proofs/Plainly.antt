-- The rows of a counted instruction whose token is plain, and of a declaration that is not in the long form.
use Prim.Native.Nat.{ℕ, ◌^◌, ◌<◌}
use mathlib.Core.Path.{◌≡◌, refl, sym, ap, ◌∙◌}
use mathlib.Core.List.{List, [], ◌∷◌}
use mathlib.Core.Bool.{Bool, true, false}
use mathlib.Core.Option.{some}
use lib.Dec.{eqb}
use lib.ListN.{drop}
use lib.Seq.{slice}
use borrow.Author.Tests.{ne_eqb}
use Rattle.format.specs.Dwords.{bits, got, chain}
use Rattle.format.specs.Framing.{code, long}
use Rattle.format.specs.Counts.{numbers, within, line_of, operand_count, of_type, type_bits}
use Rattle.format.specs.Declarations.{Layout, in_table, layout, field_in}
use Rattle.format.specs.Instructions.{read_head, fields_of, extensions}
use Rattle.format.proofs.Each.{absent}
use Rattle.layouts.specs.declared.Shape.{Shape}
use Rattle.layouts.specs.Shapes.{Laid, kind_number, meant, field_of}
use Rattle.instruction_fields.specs.Fields.{plain_token}
use Rattle.instruction_fields.proofs.Counted.{laid, short, chain_head, unfollowed, field_none, test_is}
use Rattle.instruction_write.specs.Writes.{counted_shape, row_for}

-- the row, from the token's bits
pub plain_row_is : (t n : ℕ) → operand_count (code t) ≡ some n → plain_token t ≡ true → t < 2 ^ 32 → (code t ≡ 190 → ⊥) → (at k l r j w m : ℕ) → k ≡ l
    → at ∷ k ∷ code t ∷ 1 ∷ bits 13 13 t ∷ bits 18 18 t ∷ bits 19 22 t ∷ 0 ∷ 0 ∷ 0 ∷ 0 ∷ 0 ∷ r ∷ j ∷ w ∷ m ∷ [] ≡ row_for (layout (code t)) t [] at l r j w m
unfolding row_for fields_of extensions type_bits of_type
plain_row_is t n h p small other at k l r j w m e =
    let ne = ne_eqb (code t) 190 other in
    rw (e, laid (code t) n h, ne, test_is t n h p small, field_none t n h p small ne, short t n h)

-- it is the row of its shape, behind whose token nothing stands before the operands
module _ (t n : ℕ) (h : operand_count (code t) ≡ some n) (p : plain_token t ≡ true) (small : t < 2 ^ 32) (other : code t ≡ 190 → ⊥) (ds : List ℕ) (end : ℕ)
    (hd : read_head (meant (counted_shape (code t) n)) t (drop 1 ds) ≡ got (slice 1 end ds) (drop end ds)) where
  bare : slice 1 end ds ≡ []
  unfolding chain
  bare =
      let e : got (slice 1 end ds) (drop end ds) ≡ chain false (drop 1 ds) = sym hd ∙ ap (λ (x : Layout). read_head x t (drop 1 ds)) (sym (laid (code t) n h)) ∙ chain_head t n h (drop 1 ds) ∙ ap (λ (b : Bool). chain b (drop 1 ds)) (unfollowed t n h p small) in
      go (drop 1 ds) e
    where
      go : (l : List ℕ) → got (slice 1 end ds) (drop end ds) ≡ chain false l → slice 1 end ds ≡ []
      go [] q = cc
      go (x ∷ l) q = cc

  pub plain_row_at : (at k l r j w m : ℕ) → k ≡ l
      → at ∷ k ∷ code t ∷ 1 ∷ bits 13 13 t ∷ bits 18 18 t ∷ bits 19 22 t ∷ 0 ∷ 0 ∷ 0 ∷ 0 ∷ 0 ∷ r ∷ j ∷ w ∷ m ∷ [] ≡ row_for (meant (counted_shape (code t) n)) t (slice 1 end ds) at l r j w m
  plain_row_at at k l r j w m e = plain_row_is t n h p small other at k l r j w m e ∙ (λ u. row_for (laid (code t) n h u) t (sym bare u) at l r j w m)

-- the codes that have a test bit
abbrev tests : List ℕ
tests = 3 ∷ 5 ∷ 8 ∷ 13 ∷ 31 ∷ 63 ∷ []

-- a declaration's code has none
untested : (c : ℕ) → (layout c).kind ≡ 4 → within c tests ≡ false
unfolding layout numbers within in_table operand_count line_of
untested c e = absent (λ k. eqb (layout k).kind 1) tests refl c (ap (λ (k : ℕ). eqb k 1) e)

-- its row, from the token's field
pub declared_row_at : (t : ℕ) (s : Shape) → Laid (code t) s → kind_number s.kind ≡ 4 → long t ≡ false → (e : List ℕ) (at k l r j w m x : ℕ) → k ≡ l → x ≡ field_in (field_of s) t
    → at ∷ k ∷ code t ∷ 4 ∷ 0 ∷ 0 ∷ 0 ∷ x ∷ 0 ∷ 0 ∷ 0 ∷ 0 ∷ r ∷ j ∷ w ∷ m ∷ [] ≡ row_for (meant s) t e at l r j w m
unfolding row_for fields_of extensions type_bits of_type
declared_row_at t s la four short e at k l r j w m x ek ex =
    let n : within (code t) tests ≡ false = untested (code t) (sym (ap (λ (y : Layout). y.kind) la.meaning) ∙ four) in
    rw (ek, ex, four, n, short)
