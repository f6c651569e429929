-- What stands before the operands of an instruction whose code has a count: a plain token, or one with a chain behind it.
use Prim.Native.Nat.{ℕ, ◌+◌, ◌-◌, ◌*◌, ◌/◌, ◌%◌, ◌^◌, ◌<◌, ◌≤◌}
use mathlib.Core.Path.{◌≡◌, refl, sym, ap, ◌∙◌}
use mathlib.Core.List.{List, []}
use mathlib.Core.Bool.{Bool, true, false, ◌||◌}
use mathlib.Core.Option.{some}
use native.Mathlib.Nat.{mod-one, mul-one}
use native.Mathlib.Omega.{arith}
use lib.ListN.{length, drop}
use lib.Seq.{slice}
use lib.Dec.{eqb}
use borrow.Author.Tests.{eqb-true, eq-eqb}
use Rattle.format.specs.Dwords.{bits, follows, chain}
use Rattle.format.specs.Framing.{code}
use Rattle.format.specs.Counts.{operand_count, token_with, rising}
use Rattle.format.specs.Declarations.{Layout, layout, field_in}
use Rattle.format.specs.Instructions.{fields_of}
use Rattle.format.proofs.Dwords.{both}
use Rattle.layouts.specs.Table.{plain_shape, width_of}
use Rattle.layouts.specs.declared.Kind.TheVariants.{Counted}
use Rattle.layouts.proofs.Others.{counts}
use Rattle.layouts.proofs.Fields.{unbounded, value}
use Rattle.tokens.specs.Chains.{ends}
use Rattle.std.specs.Prelude.{Option, Some, IfSome}
use Rattle.std.specs.Bool.{then_some}
use Rattle.tokens.proofs.Chains.{not_begun}
use Rattle.tokens.proofs.Places.{Passed, passed}
use Rattle.instruction_fields.specs.Fields.{headed, plain_token}
use Rattle.instruction_fields.proofs.Heads.{class_decides, another_kind, chained_head}
use Rattle.instruction_fields.proofs.Counted.{shape, laid, unsized, chain_head, unfollowed, plain_headed}
use Rattle.instruction.specs.Measure.{Begun}

-- ---- a plain token stands alone
module _ (t : ℕ) (ds : List ℕ) where
  pub plain_begins : plain_token t ≡ true → t < 2 ^ 32 → Begun t ds 1
  plain_begins plain small n h = record {
    ends = not_begun ds 1 refl ∙ ap (λ (b : Bool). ends 1 (chain b (drop 1 ds))) (sym (unfollowed t n h plain small)) ∙ ap (ends 1) (sym (chain_head t n h (drop 1 ds)));
    exact = plain_headed t n h plain small ds 1 (length ds - 1) (λ z. refl);
  }

-- ---- a token t that is plain but for bit 31: u is the same without it
module _ (t u n : ℕ) (h : operand_count (code t) ≡ some n) (up : t ≡ u + 2 ^ 31) (small : u < 2 ^ 31) (plain : plain_token u ≡ true) where
  same_code : code u ≡ code t
  same_code = omega arith

  h' : operand_count (code u) ≡ some n
  h' = ap operand_count same_code ∙ h

  abbrev x : Layout
  x = shape (code t) n h

  -- the same fields, but for bit 31
  field_bits : (w : ℕ) → width_of (code t) ≡ w → (v : ℕ) → field_in x.field v ≡ v / 2 ^ 11 % 2 ^ w
  field_bits w e v = sym (value (plain_shape Counted (width_of (code t)) n true) v (counts (code t) n h).sound) ∙ mul-one _ ∙ ap (λ (k : ℕ). v / 2 ^ 11 % 2 ^ k) e

  same_field : field_in x.field t ≡ field_in x.field u
  same_field = go (eqb (code t) 61 || eqb (code t) 111) refl (eqb (code t) 190) refl
    where
      two : t / 2 ^ 11 % 2 ^ 2 ≡ u / 2 ^ 11 % 2 ^ 2
      two = omega arith

      four : t / 2 ^ 11 % 2 ^ 4 ≡ u / 2 ^ 11 % 2 ^ 4
      four = omega arith

      with : (w : ℕ) → width_of (code t) ≡ w → t / 2 ^ 11 % 2 ^ w ≡ u / 2 ^ 11 % 2 ^ w → field_in x.field t ≡ field_in x.field u
      with w e z = field_bits w e t ∙ z ∙ sym (field_bits w e u)

      go : (a : Bool) → (eqb (code t) 61 || eqb (code t) 111) ≡ a → (b : Bool) → eqb (code t) 190 ≡ b → field_in x.field t ≡ field_in x.field u
      go true p b q = with 2 (unfold width_of in rw p) two
      go false p true q = with 4 (unfold width_of in rw (p, q)) four
      go false p false q = with 0 (unfold width_of in rw (p, q)) (mod-one (t / 2 ^ 11) ∙ sym (mod-one (u / 2 ^ 11)))

  raised : (c f s e p l y z : ℕ) → y ≡ 1 → z ≡ 0 → c + f * 2 ^ 11 + s * 2 ^ 13 + e * 2 ^ 18 + p * 2 ^ 19 + l * 2 ^ 24 + y * 2 ^ 31 ≡ c + f * 2 ^ 11 + s * 2 ^ 13 + e * 2 ^ 18 + p * 2 ^ 19 + l * 2 ^ 24 + z * 2 ^ 31 + 2 ^ 31
  raised c f s e p l y z a b = omega arith

  bit_13 : bits 13 13 t ≡ bits 13 13 u
  bit_13 = omega arith

  bit_18 : bits 18 18 t ≡ bits 18 18 u
  bit_18 = omega arith

  bits_19 : bits 19 22 t ≡ bits 19 22 u
  bits_19 = omega arith

  bits_24 : bits 24 30 t ≡ bits 24 30 u
  bits_24 = omega arith

  token_raised : token_with (code t) (fields_of x t) ≡ token_with (code u) (fields_of x u) + 2 ^ 31
  unfolding fields_of
  token_raised = rw (unsized t n h, unsized u n h', same_code, same_field, bit_13, bit_18, bits_19, bits_24) (raised _ _ _ _ _ _ _ _ (omega arith) (omega arith))

  -- u is its fields, so t is
  lower : u ≡ token_with (code u) (fields_of x u)
  unfolding headed
  lower =
      let a : headed x u (slice 1 1 []) 0 ≡ true = ap (λ (y : Layout). headed y u (slice 1 1 []) 0) (sym (laid (code t) n h) ∙ ap layout (sym same_code)) ∙ sym (plain_headed u n h' plain (omega arith) [] 1 0 (λ z. refl)) in
      eqb-true _ _ (both _ _ (both _ _ (both _ _ a).0).0).0

  upper : t ≡ token_with (code t) (fields_of x t)
  upper = up ∙ ap (λ (k : ℕ). k + 2 ^ 31) lower ∙ sym token_raised

  followed : true ≡ follows t
  unfolding follows
  followed = sym (eq-eqb (bits 31 31 t) 1 (omega arith))

  risen_headed : (e : List ℕ) (k : ℕ) → true ≡ rising 0 e → true ≡ headed (layout (code t)) t e k
  risen_headed e k r = rw (laid (code t) n h) (class_decides x t e k true (sym (eq-eqb _ _ upper)) refl true (chained_head 1 e (omega arith) r) refl true (unbounded (plain_shape Counted (width_of (code t)) n true) t (counts (code t) n h).sound refl) refl true (another_kind 1 t k (λ z. omega arith)))

-- ---- the code's way through the chain
module _ (t : ℕ) (ds : List ℕ) (there : 0 < length ds) {end : ℕ} (e : Some end ≡ ends 1 (chain true (drop 1 ds))) where
  pub chain_passed : Passed true ds 1 end
  chain_passed = passed true ds 1 end there e

  pub chain_begins : (u : ℕ) → u ≡ t - 2 ^ 31 → 2 ^ 31 ≤ t → t < 2 ^ 32 → plain_token u ≡ true → true ≡ rising 0 (slice 1 end ds) → Begun t ds end
  chain_begins u eu high small plain r n h = record {
    ends = e ∙ ap (λ (b : Bool). ends 1 (chain b (drop 1 ds))) (followed t u n h (omega arith) (omega arith) plain) ∙ ap (ends 1) (sym (chain_head t n h (drop 1 ds)));
    exact = risen_headed t u n h (omega arith) (omega arith) plain (slice 1 end ds) (length ds - end) r;
  }

-- a place that is answered only after a test
pub if_risen : {b : Bool} {k : ℕ} {r : Option ℕ} (P : ℕ → Type 0) → r ≡ then_some b k → (b ≡ true → P k) → IfSome r P
if_risen {b} {k} {r} P e f = rw e (go b f)
  where
    go : (c : Bool) → (c ≡ true → P k) → IfSome (then_some c k) P
    go true f = f refl
    go false f = tt
