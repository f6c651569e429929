-- A row that the code looks at is confirmed, alone or with the operand right behind it.
use Rattle.std.proofs.Common.{◌≡◌, ℕ, zero, suc, ◌+◌, ◌-◌, ◌*◌, ◌/◌, ◌%◌, ◌^◌, ◌<◌, ◌≤◌, ◌≢◌, true, false, cond, ltb, List, length, sym, refl, ap, ◌∙◌, arith, pow_pos, ltb-true, le-ltb, lt-ltb}
use lib.Bits.{bit_xor, differ, xor_step, xor_zero_r, xor_block}
use Rattle.format.specs.Operands.{repr}
use Rattle.format.specs.Rows.{placed}
use Rattle.format.specs.Encoder.{at, extension_of}
use Rattle.format.proofs.Dwords.{impossible}
use Rattle.tokens.proofs.Fields.{counted}
use Rattle.operand_deep.specs.Confirm.{confirm}
use Rattle.operand_deep.specs.Walks.{sized, walked, there, row_at}
use Rattle.operand_deep.proofs.Told.{selections, plain_index, operand_index, Told, extras, dword_of, told, repr_of, indices_walk, immediates_walk}
use Rattle.operand_walk.specs.Walks.{Common, Plain, Kind, Starts, NoIndices, Lone, Stands, OneIndex, ThirdIndex, OneOrFour, TwoOrThree, Leading, Pointed, Places, first, second, third}

-- ---- an extension, by its signs
pub no_signs : (v : ℕ) → v ≡ 0 → 0 ≡ length (extension_of v)
unfolding extension_of
no_signs v e = rw e

pub some_signs : (v : ℕ) → (v ≡ 0 → ⊥) → 1 ≡ length (extension_of v)
unfolding extension_of
some_signs zero h = absurd (h refl)
some_signs (suc v) h = refl

-- ---- a row whose numbers are those of a dword and an extension
-- with m immediates, which stand at w
pub record Leaf (q : List ℕ) (w m : ℕ) : Type 0 where
  pub long : length q ≡ 16
  pub plain : Plain q
  pub kind : at 0 q / 2 ≡ 2
  pub place : at 4 q ≡ w
  pub number : at 5 q ≡ m
  pub counted_by : m ≡ counted (at 1 q)
  pub without : NoIndices q
  pub dwords : at 15 q ≡ 1 + extras q + m

-- with no indices
pub record None (q : List ℕ) : Type 0 where
  pub long : length q ≡ 16
  pub plain : Plain q
  pub kinds : Kind q
  pub without : NoIndices q
  pub dwords : at 15 q ≡ 1 + extras q

no_index : (i : ℕ) → false ≡ ltb i 0
no_index i = sym (le-ltb i 0 (omega arith))

-- with d indices of a dword each, which stand at w
pub record Flat (q : List ℕ) (w d : ℕ) : Type 0 where
  pub long : length q ≡ 16
  pub plain : Plain q
  pub starts : Starts q w
  pub some : 0 < d
  pub most : d < 4
  pub indices : (at 6 q ≡ d) × (at 7 q ≡ 0)
  pub second : at 9 q ≡ placed (ltb 1 d) (w + 1)
  pub third : at 10 q ≡ placed (ltb 2 d) (w + 1 + cond (ltb 1 d) 1 0)
  pub child : at 11 q ≡ 0
  pub dwords : at 15 q ≡ 1 + d + extras q

flags : (d : ℕ) → 0 < d → d < 4 → 1 + cond (ltb 1 d) 1 0 + cond (ltb 2 d) 1 0 ≡ d
flags zero h l = impossible (omega arith)
flags (suc zero) h l = refl
flags (suc (suc zero)) h l = refl
flags (suc (suc (suc zero))) h l = refl
flags (suc (suc (suc (suc d)))) h l = impossible (omega arith)

module _ (rs : List ℕ) (r : ℕ) {q : List ℕ} (eq : q ≡ row_at r rs) (g : Told q) (left : ℕ) (hl : left ≡ 0 → ⊥) (ws : List ℕ) (w : ℕ) where
  -- with immediates
  leaf_walks : {m : ℕ} → Leaf q w m → 0 < m → w + m ≤ length ws → sized 1 m (at 15 q) ≡ walked (there (confirm left) rs ws r w)
  leaf_walks a hm l = immediates_walk rs r eq g left hl ws w a.kind a.counted_by hm l a.place a.number a.without.indices a.without.words a.without.others (a.plain.common.second, a.plain.common.third) a.plain.common.rows a.dwords

  -- with none
  none_walks : None q → w ≤ length ws → sized 1 0 (at 15 q) ≡ walked (there (confirm left) rs ws r w)
  none_walks a l =
      let f : (i : ℕ) → i < 3 → 8 ≡ repr i (dword_of q) = λ i h. (λ j. cond (no_index i j) (0 / 2 ^ (3 * i) % 2 ^ 3) 8) ∙ repr_of g a.without.indices.0 a.without.indices.1 i h in
      let i₀ = plain_index (left - 1) rs ws (r + 1) w false (omega arith) a.without.words.0 a.without.others.1 in
      let i₁ = plain_index (left - 1) rs ws (r + 1) (w + 0) false (omega arith) a.without.words.1 a.plain.common.second in
      let i₂ = plain_index (left - 1) rs ws (r + 1) (w + 0 + 0) false (omega arith) a.without.others.0 a.plain.common.third in
      let er : 1 ≡ r + 1 - r = omega arith in
      let ew : 0 ≡ w + 0 + 0 + 0 - w = omega arith in
      let ed : at 15 q ≡ 1 + extras q + 0 + 0 + 0 = omega (arith, a.dwords) in
      (λ j. sized (er j) (ew j) (ed j)) ∙ indices_walk rs r eq g left hl ws w a.kinds.kind a.kinds.no_place a.kinds.no_immediates (f 0 (omega arith)) (f 1 (omega arith)) (f 2 (omega arith)) i₀ i₁ i₂ (a.plain.common.rows ∙ er) ed

  -- with d indices of a dword each
  flat_walks : {d : ℕ} → Flat q w d → w + d ≤ length ws → sized 1 d (at 15 q) ≡ walked (there (confirm left) rs ws r w)
  flat_walks {d} a l =
      let s = a.starts in
      let n : 1 + cond (ltb 1 d) 1 0 + cond (ltb 2 d) 1 0 ≡ d = flags d a.some a.most in
      let p : true ≡ ltb 0 d = sym (lt-ltb 0 d a.some) in
      let f₀ : 0 ≡ repr 0 (dword_of q) = (λ j. cond (p j) 0 8) ∙ repr_of g a.indices.0 a.indices.1 0 (omega arith) in
      let f₁ : cond (ltb 1 d) 0 8 ≡ repr 1 (dword_of q) = repr_of g a.indices.0 a.indices.1 1 (omega arith) in
      let f₂ : cond (ltb 2 d) 0 8 ≡ repr 2 (dword_of q) = repr_of g a.indices.0 a.indices.1 2 (omega arith) in
      let i₀ = plain_index (left - 1) rs ws (r + 1) w true (omega arith) s.first a.child in
      let i₁ = plain_index (left - 1) rs ws (r + 1) (w + 1) (ltb 1 d) (omega arith) a.second a.plain.common.second in
      let i₂ = plain_index (left - 1) rs ws (r + 1) (w + 1 + cond (ltb 1 d) 1 0) (ltb 2 d) (omega arith) a.third a.plain.common.third in
      let er : 1 ≡ r + 1 - r = omega arith in
      let ew : d ≡ w + 1 + cond (ltb 1 d) 1 0 + cond (ltb 2 d) 1 0 - w = omega arith in
      let ed : at 15 q ≡ 1 + extras q + 1 + cond (ltb 1 d) 1 0 + cond (ltb 2 d) 1 0 = omega (arith, a.dwords) in
      (λ j. sized (er j) (ew j) (ed j)) ∙ indices_walk rs r eq g left hl ws w s.kinds.kind s.kinds.no_place s.kinds.no_immediates f₀ f₁ f₂ i₀ i₁ i₂ (a.plain.common.rows ∙ er) ed

  -- with d indices, of which the last is an operand in the next row, which has a word and two dwords; o dwords of its index are before it
  pub nested_walks : {o d : ℕ} → o < 2 → Leading q (d + o + 2) → Places q r w o d → w + (d + o) ≤ length ws → sized 1 1 2 ≡ walked (there (confirm (left - 1)) rs ws (r + 1) (w + (d + o) - 1)) → sized 2 (d + o) (at 15 q) ≡ walked (there (confirm left) rs ws r w)
  nested_walks {o} ho a (first e₆ e₉ e₁₂ e₁₁ b) l e =
      let z₀ : 2 + o ≡ (2 + o) * 1 / 2 ^ 0 % 2 ^ 3 = omega arith in
      let f₀ : 2 + o ≡ repr 0 (dword_of q) = z₀ ∙ repr_of g e₆ b.reprs_are 0 (omega arith) in
      let f₁ : 8 ≡ repr 1 (dword_of q) = repr_of g e₆ b.reprs_are 1 (omega arith) in
      let f₂ : 8 ≡ repr 2 (dword_of q) = repr_of g e₆ b.reprs_are 2 (omega arith) in
      let ec : w + (1 + o) - 1 ≡ w + o = omega arith in
      let i₀ = operand_index (left - 1) rs ws (r + 1) w o ho (omega arith) (rw ec at e) b.place_is e₁₁ in
      let i₁ = plain_index (left - 1) rs ws (r + 1 + 1) (w + o + 1) false (omega arith) e₉.0 e₁₂.0 in
      let i₂ = plain_index (left - 1) rs ws (r + 1 + 1) (w + o + 1 + 0) false (omega arith) e₉.1 e₁₂.1 in
      let er : 2 ≡ r + 1 + 1 - r = omega arith in
      let ew : 1 + o ≡ w + o + 1 + 0 + 0 - w = omega arith in
      let ed : at 15 q ≡ 1 + extras q + (o + 2) + 0 + 0 = omega (arith, a.size) in
      (λ j. sized (er j) (ew j) (ed j)) ∙ indices_walk rs r eq g left hl ws w a.kinds.kind a.kinds.no_place a.kinds.no_immediates f₀ f₁ f₂ i₀ i₁ i₂ (a.rows ∙ er) ed
  nested_walks {o} ho a (second e₆ e₁₀ e₁₃ e₁₂ e₈ b) l e =
      let z₀ : 0 ≡ (2 + o) * 8 / 2 ^ 0 % 2 ^ 3 = omega arith in
      let z₁ : 2 + o ≡ (2 + o) * 8 / 2 ^ 3 % 2 ^ 3 = omega arith in
      let f₀ : 0 ≡ repr 0 (dword_of q) = z₀ ∙ repr_of g e₆ b.reprs_are 0 (omega arith) in
      let f₁ : 2 + o ≡ repr 1 (dword_of q) = z₁ ∙ repr_of g e₆ b.reprs_are 1 (omega arith) in
      let f₂ : 8 ≡ repr 2 (dword_of q) = repr_of g e₆ b.reprs_are 2 (omega arith) in
      let ec : w + (2 + o) - 1 ≡ w + 1 + o = omega arith in
      let i₀ = plain_index (left - 1) rs ws (r + 1) w true (omega arith) e₈ e₁₀.1 in
      let i₁ = operand_index (left - 1) rs ws (r + 1) (w + 1) o ho (omega arith) (rw ec at e) b.place_is e₁₂ in
      let i₂ = plain_index (left - 1) rs ws (r + 1 + 1) (w + 1 + o + 1) false (omega arith) e₁₀.0 e₁₃ in
      let er : 2 ≡ r + 1 + 1 - r = omega arith in
      let ew : 2 + o ≡ w + 1 + o + 1 + 0 - w = omega arith in
      let ed : at 15 q ≡ 1 + extras q + 1 + (o + 2) + 0 = omega (arith, a.size) in
      (λ j. sized (er j) (ew j) (ed j)) ∙ indices_walk rs r eq g left hl ws w a.kinds.kind a.kinds.no_place a.kinds.no_immediates f₀ f₁ f₂ i₀ i₁ i₂ (a.rows ∙ er) ed
  nested_walks {o} ho a (third e₆ e₁₁ e₁₃ e₈ e₉ b) l e =
      let z₀ : 0 ≡ (2 + o) * 64 / 2 ^ 0 % 2 ^ 3 = omega arith in
      let z₁ : 0 ≡ (2 + o) * 64 / 2 ^ 3 % 2 ^ 3 = omega arith in
      let z₂ : 2 + o ≡ (2 + o) * 64 / 2 ^ 6 % 2 ^ 3 = omega arith in
      let f₀ : 0 ≡ repr 0 (dword_of q) = z₀ ∙ repr_of g e₆ b.reprs_are 0 (omega arith) in
      let f₁ : 0 ≡ repr 1 (dword_of q) = z₁ ∙ repr_of g e₆ b.reprs_are 1 (omega arith) in
      let f₂ : 2 + o ≡ repr 2 (dword_of q) = z₂ ∙ repr_of g e₆ b.reprs_are 2 (omega arith) in
      let ec : w + (3 + o) - 1 ≡ w + 1 + 1 + o = omega arith in
      let ep : at 10 q ≡ placed (ltb 0 o) (w + 1 + 1) = b.place_is ∙ ap (placed (ltb 0 o)) (omega arith) in
      let i₀ = plain_index (left - 1) rs ws (r + 1) w true (omega arith) e₈ e₁₁.0 in
      let i₁ = plain_index (left - 1) rs ws (r + 1) (w + 1) true (omega arith) e₉ e₁₁.1 in
      let i₂ = operand_index (left - 1) rs ws (r + 1) (w + 1 + 1) o ho (omega arith) (rw ec at e) ep e₁₃ in
      let er : 2 ≡ r + 1 + 1 - r = omega arith in
      let ew : 3 + o ≡ w + 1 + 1 + o + 1 - w = omega arith in
      let ed : at 15 q ≡ 1 + extras q + 1 + 1 + (o + 2) = omega (arith, a.size) in
      (λ j. sized (er j) (ew j) (ed j)) ∙ indices_walk rs r eq g left hl ws w a.kinds.kind a.kinds.no_place a.kinds.no_immediates f₀ f₁ f₂ i₀ i₁ i₂ (a.rows ∙ er) ed

-- ---- what the code asks of a row
form_of : (f s : ℕ) → s < selections f → f < 5
form_of zero s h = omega arith
form_of (suc zero) s h = omega arith
form_of (suc (suc zero)) s h = omega arith
form_of (suc (suc (suc zero))) s h = omega arith
form_of (suc (suc (suc (suc zero)))) s h = omega arith
form_of (suc (suc (suc (suc (suc f))))) s h = impossible (omega arith)

few_selections : (f : ℕ) → selections f ≤ 256
few_selections zero = omega arith
few_selections (suc zero) = omega arith
few_selections (suc (suc zero)) = omega arith
few_selections (suc (suc (suc zero))) = omega arith
few_selections (suc (suc (suc (suc zero)))) = omega arith
few_selections (suc (suc (suc (suc (suc f))))) = omega arith

-- a row has a form, if it has a selection
pub a_form : {q : List ℕ} → Plain q → at 1 q < 5
a_form {q} p = form_of (at 1 q) (at 2 q) p.selection

-- a selection, and no modifiers
unmodified : (q : List ℕ) → at 2 q + at 3 q * 2 ^ 32 < selections (at 1 q) → (at 2 q < selections (at 1 q)) × (at 3 q ≡ 0)
unmodified q h = (omega arith, omega (arith, few_selections (at 1 q)))

-- bit 2 of a type, turned
turn : (n : ℕ) → n < 2 → differ n 1 ≡ 1 - n
turn zero h = refl
turn (suc zero) h = refl
turn (suc (suc n)) h = impossible (omega arith)

turned : (t : ℕ) → bit_xor t 4 ≡ t / 8 * 8 + (1 - t / 4 % 2) * 4 + t % 4
turned t =
    let e : t ≡ t / 4 * 2 ^ 2 + t % 4 = omega arith in
    let a : bit_xor (t / 4) 1 ≡ t / 4 / 2 * 2 + (1 - t / 4 % 2) = xor_step (t / 4) 1 ∙ (λ j. xor_zero_r (t / 4 / 2) j * 2 + turn (t / 4 % 2) (omega arith) j) in
    ap (λ (k : ℕ). bit_xor k 4) e ∙ xor_block 2 (t / 4) 1 (t % 4) 0 (omega arith) (omega arith) ∙ (λ j. a j * 4 + xor_zero_r (t % 4) j) ∙ omega arith

pub indexed_type : {t : ℕ} → t < 2 ^ 32 → ltb ((bit_xor t 4 + 4_294_967_294) % 2 ^ 32) 254 ≡ true → (t < 2 ^ 8) × (t / 2 ≢ 2)
indexed_type {t} l h =
    let k = ltb-true _ 254 h in
    let z : bit_xor t 4 ≡ t / 8 * 8 + (1 - t / 4 % 2) * 4 + t % 4 = turned t in
    (omega arith, λ y. omega arith)

leaf_lone : {q : List ℕ} {w m : ℕ} → Leaf q w m → 0 < m → m < 5 → Lone q w m
leaf_lone {q} {w} {m} a l h = record {
  few = omega arith;
  size = omega (arith, a.dwords);
  walks = λ left rs ws r e b. leaf_walks rs r e (told q a.long (omega (arith, a.kind)) a.plain.selection a.plain.signs a.without.indices (omega arith) (omega arith)) (suc left) (λ i. impossible (omega arith)) ws w a l b;
}

flat_lone : {q : List ℕ} {w d : ℕ} → Flat q w d → Lone q w d
flat_lone {q} {w} {d} a = record {
  few = omega (arith, a.most);
  size = a.dwords;
  walks = λ left rs ws r e b. flat_walks rs r e (told q a.long a.starts.kinds.type a.plain.selection a.plain.signs a.indices a.most (pow_pos (3 * d))) (suc left) (λ i. impossible (omega arith)) ws w a b;
}

counted_some : (f : ℕ) → (f ≡ 0 → ⊥) → f < 5 → (0 < counted f) × (counted f < 5)
counted_some zero z h = absurd (z refl)
counted_some (suc zero) z h = (omega arith, omega arith)
counted_some (suc (suc zero)) z h = (omega arith, omega arith)
counted_some (suc (suc (suc zero))) z h = (omega arith, omega arith)
counted_some (suc (suc (suc (suc zero)))) z h = (omega arith, omega arith)
counted_some (suc (suc (suc (suc (suc f))))) z h = impossible (omega arith)

-- with immediates
pub leaf_row : {q : List ℕ} {w m : ℕ} → length q ≡ 16 → Plain q → at 0 q / 2 ≡ 2 → NoIndices q → at 4 q ≡ w → (at 1 q ≡ 0 → ⊥) → m ≡ counted (at 1 q) → at 5 q ≡ m → at 15 q ≡ 1 + m + extras q → Lone q w m
leaf_row {q} h p k n e₄ z em e₅ e₁₅ =
    let l = counted_some (at 1 q) z (a_form p) in
    leaf_lone (record { long = h; plain = p; kind = k; place = e₄; number = e₅; counted_by = em; without = n; dwords = omega arith }) (omega arith) (omega arith)

-- with none
pub none_row : {q : List ℕ} {w : ℕ} → length q ≡ 16 → Plain q → Kind q → NoIndices q → at 15 q ≡ 1 + extras q → Lone q w 0
none_row {q} h p k n e₁₅ =
    let a : None q = record { long = h; plain = p; kinds = k; without = n; dwords = e₁₅ } in
    record {
      few = omega arith;
      size = omega (arith, e₁₅);
      walks = λ left rs ws r e b. none_walks rs r e (told q h k.type p.selection p.signs n.indices (omega arith) (omega arith)) (suc left) (λ i. impossible (omega arith)) ws _ a (omega arith);
    }

two_or_three : (d : ℕ) → TwoOrThree d → (1 < d) × (d < 4)
two_or_three zero z = impossible (omega (arith, z (λ k. impossible (omega arith))))
two_or_three (suc zero) z = impossible (omega (arith, z (λ k. impossible (omega arith))))
two_or_three (suc (suc zero)) z = (omega arith, omega arith)
two_or_three (suc (suc (suc d))) z = let e : suc (suc (suc d)) ≡ 3 = z (λ k. impossible (omega arith)) in (omega arith, omega arith)

-- two indices or three
pub several_lone : {q : List ℕ} {w d : ℕ} → length q ≡ 16 → Plain q → TwoOrThree d → Starts q w → (at 6 q ≡ d) × (at 7 q ≡ 0) → at 9 q ≡ w + 1 → ThirdIndex q (w + 2) d → at 15 q ≡ 1 + d + extras q → Lone q w d
several_lone {q} {w} {d} h p z s e e₉ t e₁₅ =
    let b = two_or_three d z in
    let l : true ≡ ltb 1 d = sym (lt-ltb 1 d b.0) in
    let y : w + 2 ≡ w + 1 + 1 = omega arith in
    flat_lone (record { long = h; plain = p; starts = s; some = omega (arith, b.0); most = b.1; indices = e; second = e₉ ∙ (λ j. placed (l j) (w + 1)); third = t.third ∙ ap (placed (ltb 2 d)) y ∙ (λ j. placed (ltb 2 d) (w + 1 + cond (l j) 1 0)); child = t.child; dwords = e₁₅ })

-- the same without modifiers
pub several_row : {q : List ℕ} {w d : ℕ} → length q ≡ 16 → Common q → TwoOrThree d → at 15 q ≡ 1 + d → ThirdIndex q (w + 2) d → (at 6 q ≡ d) × (at 7 q ≡ 0) → (at 4 q ≡ 0) × (at 5 q ≡ 0) → at 8 q ≡ w → w < 2 ^ 32 → at 9 q ≡ w + 1 → at 2 q + at 3 q * 2 ^ 32 < selections (at 1 q) → (at 0 q < 2 ^ 8) × (at 0 q / 2 ≢ 2) → Stands q w d 0
several_row {q} h a z e₁₅ t e₆ e₄ e₈ lw e₉ l k =
    let m = unmodified q l in
    let p : Plain q = record { common = a; selection = m.0; signs = omega (arith, m.1) } in
    let s : Starts q _ = record { kinds = record { type = k.0; kind = k.1; no_place = e₄.0; no_immediates = e₄.1 }; first = e₈; dword = lw } in
    record { lone = several_lone h p z s e₆ e₉ t (omega (arith, no_signs (at 3 q) m.1)); dwords_are = omega arith }

-- one index, with y extensions
one_row : {q : List ℕ} {w : ℕ} (y : ℕ) → length q ≡ 16 → Plain q → OneIndex q w → (at 0 q < 2 ^ 8) × (at 0 q / 2 ≢ 2) → w < 2 ^ 32 → y ≡ extras q → at 15 q ≡ 2 + y → Stands q w 1 y
one_row {q} y h p o k l ey e₁₅ =
    let s : Starts q _ = record { kinds = record { type = k.0; kind = k.1; no_place = o.no_place; no_immediates = o.no_immediates }; first = o.first; dword = l } in
    record { lone = flat_lone (record { long = h; plain = p; starts = s; some = omega arith; most = omega arith; indices = (o.dimension, o.reprs); second = o.second; third = o.third; child = o.child; dwords = omega arith }); dwords_are = omega arith }

pub bare_row : {q : List ℕ} {w : ℕ} → length q ≡ 16 → Common q → at 15 q ≡ 2 → OneIndex q w → at 2 q + at 3 q * 2 ^ 32 < selections (at 1 q) → (at 0 q < 2 ^ 8) × (at 0 q / 2 ≢ 2) → w < 2 ^ 32 → Stands q w 1 0
bare_row {q} h a e₁₅ o l k lw = let m = unmodified q l in one_row 0 h (record { common = a; selection = m.0; signs = omega (arith, m.1) }) o k lw (no_signs (at 3 q) m.1) e₁₅

pub signed_row : {q : List ℕ} {w : ℕ} → length q ≡ 16 → Common q → at 15 q ≡ 3 → OneIndex q w → (at 3 q ≡ 0 → ⊥) → at 3 q < 4 → at 2 q < selections (at 1 q) → (at 0 q < 2 ^ 8) × (at 0 q / 2 ≢ 2) → w < 2 ^ 32 → Stands q w 1 1
signed_row {q} h a e₁₅ o z v l k lw = one_row 1 h (record { common = a; selection = l; signs = v }) o k lw (some_signs (at 3 q) z) e₁₅

-- the immediates of a form by their number: 1 or 4
form_counts : (m : ℕ) → OneOrFour m → {f : ℕ} → f ≡ m / 4 + 1 → (m ≡ counted f) × (f ≡ 0 → ⊥) × (m < 5) × (0 < selections f)
form_counts zero z e = impossible (omega (arith, z (λ k. impossible (omega arith))))
form_counts (suc zero) z {f} e = let y : f ≡ 1 = omega arith in rw y (refl, (λ k. impossible (omega arith)), omega arith, omega arith)
form_counts (suc (suc m)) z {f} e =
    let x : suc (suc m) ≡ 4 = z (λ k. impossible (omega arith)) in
    let y : f ≡ 2 = omega arith in
    rw (x, y) (refl, (λ k. impossible (omega arith)), omega arith, omega arith)

pub constant_row : {q : List ℕ} {w m : ℕ} → length q ≡ 16 → Common q → OneOrFour m → NoIndices q → (at 2 q ≡ 0) × (at 3 q ≡ 0) → at 5 q ≡ m → at 4 q ≡ w → at 1 q ≡ m / 4 + 1 → at 0 q ≡ 4 → at 15 q ≡ 1 + m → Stands q w m 0
constant_row {q} {w} {m} h a om n e₂ e₅ e₄ e₁ e₀ e₁₅ =
    let f = form_counts m om e₁ in
    let p : Plain q = record { common = a; selection = omega (arith, e₂.0, f.3); signs = omega (arith, e₂.1) } in
    record { lone = leaf_row h p (omega arith) n e₄ f.1 f.0 e₅ (omega (arith, no_signs (at 3 q) e₂.1)); dwords_are = omega arith }

-- ---- one index of a row of two, two or three
pub few_indices : {q : List ℕ} {r w o d : ℕ} → Places q r w o d → (0 < d) × (d < 4)
few_indices (first e₆ e₉ e₁₂ e₁₁ b) = (omega arith, omega arith)
few_indices (second e₆ e₁₀ e₁₃ e₁₂ e₈ b) = (omega arith, omega arith)
few_indices (third e₆ e₁₁ e₁₃ e₈ e₉ b) = (omega arith, omega arith)

told_places : {q : List ℕ} {r w o d n : ℕ} → length q ≡ 16 → o < 2 → Leading q n → Places q r w o d → Told q
told_places {q} h ho a (first e₆ e₉ e₁₂ e₁₁ b) = told q h a.kinds.type a.selection a.signs (e₆, b.reprs_are) (omega arith) (omega arith)
told_places {q} h ho a (second e₆ e₁₀ e₁₃ e₁₂ e₈ b) = told q h a.kinds.type a.selection a.signs (e₆, b.reprs_are) (omega arith) (omega arith)
told_places {q} h ho a (third e₆ e₁₁ e₁₃ e₈ e₉ b) = told q h a.kinds.type a.selection a.signs (e₆, b.reprs_are) (omega arith) (omega arith)

-- the second row stands alone, behind the row that it is in
pub points : {q c : List ℕ} {r w o d n : ℕ} → length q ≡ 16 → o < 2 → Places q r w o d → n ≡ d + o → Leading q (n + 2) → Stands c (w + n - 1) 1 0 → Pointed q c r w n
points {q} {c} {r} {w} {o} {d} {n} h ho p en a s =
    let f = few_indices p in
    let a₁ : Leading q (d + o + 2) = rw en at a in
    record {
      size = omega (arith, a.size);
      walks = λ left rs ws eq ec l.
          let ew : w + n - 1 ≡ w + (d + o) - 1 = omega arith in
          let y : 2 ≡ at 15 c = omega (arith, s.dwords_are) in
          let z : suc left ≡ suc (suc left) - 1 = omega arith in
          let e = s.lone.walks left rs ws (r + 1) ec (omega (arith, f.0)) in
          (λ j. sized 2 (en j) (at 15 q)) ∙ nested_walks rs r eq (told_places h ho a p) (suc (suc left)) (λ i. impossible (omega arith)) ws w ho a₁ p (omega arith) ((λ j. sized 1 1 (y j)) ∙ e ∙ (λ j. walked (there (confirm (z j)) rs ws (r + 1) (ew j))));
    }
