-- Instructions that are emitted one after the other.
use Prim.Native.Nat.{ℕ, zero, suc, ◌+◌, ◌*◌, ◌-◌, ◌/◌, ◌≤◌, ◌<◌}
use mathlib.Core.Path.{◌≡◌, refl, sym, ap, ◌∙◌}
use mathlib.Core.List.{List, [], ◌∷◌, ◌++◌}
use mathlib.Core.Bool.{Bool}
use lib.ListN.{length, get_or, take, drop, length-append, length-drop}
use lib.Seq.{drop-drop, length-take-le}
use native.Mathlib.Nat.{mul-zero}
use native.Mathlib.Omega.{arith}
use Rattle.format.specs.Dwords.{bytes_of}
use Rattle.format.specs.Instructions.{Instruction, dwords, all_dwords}
use Rattle.format.specs.Rows.{parts_rows, parts}
use Rattle.format.specs.Encoder.{at}
use Rattle.output.specs.Puts.{put}
use Rattle.output.proofs.Puts.{dwords_length, dwords_none, dwords_more}
use Rattle.operand_emit.proofs.Trees.{number_behind}
use Rattle.instruction_deep.specs.Confirm.{confirm_instruction}
use Rattle.instruction_emit.specs.Emits.{Is, Ready, Stands, Emitted}
use Rattle.operand_emit.specs.declared.Place.{Place}
use Rattle.std.specs.Simd.{first_chunks}
use Rattle.reading.specs.Walks.{onward}
use Rattle.reading.proofs.Walks.{Next, next_of, cut_words, ended_list}
use Rattle.format.specs.Encoder.{chunk_of}
use Rattle.reading.specs.Confirm.{confirm_all}
use Rattle.encode.specs.Emits.{walked, Left, start, Finished, Whole}

-- a row, as the code finds it
chunk_at : (n k : ℕ) (xs : List ℕ) (i : ℕ) (d : List ℕ) → i < k → get_or (first_chunks n k xs) i d ≡ take n (drop (n * i) xs)
chunk_at n zero xs i d h = absurd (let f : ⊥ = omega arith in f)
chunk_at n (suc k) xs zero d h = rw mul-zero
chunk_at n (suc k) xs (suc i) d h = let e : n + n * i ≡ n * suc i = omega arith in chunk_at n k (drop n xs) i d (omega arith) ∙ ap (take n) (drop-drop (n * i) n xs ∙ ap (λ (j : ℕ). drop j xs) e)

-- the next instruction
module _ (is rs ws : List ℕ) (i : ℕ) (p : Place) {rows : List (List ℕ)} (er : rows ≡ first_chunks 16 (length is / 16) is) (h : i < length is / 16) {out final : List ℕ} (g : Left is rs ws i p out final) where
  abbrev q : List ℕ
  q = get_or rows i []

  row_is : q ≡ take 16 (drop (16 * i) is)
  row_is = rw er (chunk_at 16 (length is / 16) is i [] h)

  abbrev next : Next g.ceiling g.model51 is rs ws i (walked p) g.list
  next = next_of h g.confirmed

  count_is : at 15 q ≡ at 15 (take 16 (drop (16 * i) is))
  count_is = ap (at 15) row_is

  pub end_within : p.word + at 15 q ≤ length ws
  end_within = omega (arith, next.words_there, g.word_within, count_is)

  abbrev cut : List ℕ
  cut = take (p.word + at 15 q) ws

  pub cut_length : length cut ≡ p.word + at 15 q
  cut_length = length-take-le (p.word + at 15 q) ws end_within

  own_is : drop p.word cut ≡ take (at 15 (take 16 (drop (16 * i) is))) (drop p.word ws)
  own_is = cut_words p.word (at 15 q) ws ∙ ap (λ (n : ℕ). take n (drop p.word ws)) count_is

  is_one : Is q (drop p.operand rs) (drop p.word cut) p.operand p.word next.one
  is_one = record {
    ceiling = g.ceiling;
    model51 = g.model51;
    place = 4 * p.at;
    confirmed = (λ j. confirm_instruction g.ceiling g.model51 (row_is j) (4 * p.at) (drop (sym g.operand_whole j) rs) (own_is j) (p.operand / 16) p.word) ∙ next.confirmed;
  }

  dwords_are : all_dwords g.list ≡ dwords next.one ++ all_dwords next.rest
  unfolding all_dwords
  dwords_are = ap all_dwords next.list_is

  counted : length (all_dwords g.list) ≡ length (dwords next.one) + length (all_dwords next.rest)
  counted = ap length dwords_are ∙ length-append (dwords next.one) (all_dwords next.rest)

  pub ready : (p.word ≤ length cut) × Ready q (drop p.operand rs) (drop p.word cut) p.operand p.word p.at (length out)
  ready = (
    omega (arith, cut_length),
    record {
      instruction = next.one;
      is = is_one;
      words_are = omega (arith, length-drop p.word cut, cut_length);
      room = omega (arith, g.room, counted);
    },
  )

  pub left_on : {r : Place} {out' : List ℕ} → Emitted q (drop p.operand rs) (drop p.word cut) p.operand p.word p.at out r out' → r.word ≡ length cut → Left is rs ws (i + 1) r out' final
  left_on {r} {out'} f ew =
      let x : Stands next.one p.operand p.at out r out' = f next.one is_one in
      let m = dwords_length p.at (dwords next.one) out (omega (arith, g.room, counted)) in
      let w : r.word ≡ p.word + at 15 (take 16 (drop (16 * i) is)) = ew ∙ cut_length ∙ ap (λ (n : ℕ). p.word + n) count_is in
      let b = number_behind p.operand (parts_rows (parts next.one)) r.operand x.operand_is in
      record {
        ceiling = g.ceiling;
        model51 = g.model51;
        list = next.rest;
        whole = g.whole;
        operand_whole = omega (arith, g.operand_whole, x.operand_is);
        confirmed = (λ j. onward g.ceiling g.model51 is rs ws (i + 1) (record { at = x.at_is j; row = b j; word = w j })) ∙ next.onward_is;
        word_within = omega (arith, ew, cut_length, end_within);
        room = omega (arith, g.room, counted, x.at_is, ap length x.output_is, m);
        ends = dwords_more p.at r.at (dwords next.one) (all_dwords next.rest) out (omega (arith, g.room, counted)) x.at_is x.output_is refl ∙ ap (λ (b : List ℕ). put (4 * p.at) (bytes_of b) out) (sym dwords_are) ∙ g.ends;
      }

-- all of them
pub all_left : (is rs ws : List ℕ) (i : ℕ) (p : Place) → length is / 16 ≤ i → {out final : List ℕ} → Left is rs ws i p out final → out ≡ final
unfolding all_dwords
all_left is rs ws i p h {out} {final} g =
    let z : g.list ≡ [] = ended_list g.ceiling g.model51 is rs ws i (walked p) h g.confirmed in
    dwords_none p.at out ∙ ap (λ (l : List Instruction). put (4 * p.at) (bytes_of (all_dwords l)) out) (sym z) ∙ g.ends

-- so far: the length is kept, and the end is the same
pub record Midway (is rs ws out₀ : List ℕ) (i : ℕ) (p : Place) (out : List ℕ) : Type 0 where
  pub long : length out ≡ length out₀
  pub toward : (final : List ℕ) → Left is rs ws 0 start out₀ final → Left is rs ws i p out final

-- ---- the header in front of them
module _ {is rs ws : List ℕ} {d : ℕ} (out : List ℕ) {out₁ out₂ : List ℕ} (v : ℕ) (p : out₁ ≡ put (4 * 0) (bytes_of (v ∷ [])) out) {k : ℕ} (e : k ≡ d) (q : out₂ ≡ put (4 * 1) (bytes_of (k ∷ [])) out₁) where
  module _ {c : ℕ} {m : Bool} {l : List Instruction} (y : Whole is rs ws d (length out) c m l) where
    long₁ : length out₁ ≡ length out
    long₁ = ap length p ∙ dwords_length 0 (v ∷ []) out (omega (arith, y.room, y.dwords_are))

    long₂ : length out₂ ≡ length out
    long₂ = ap length q ∙ dwords_length 1 (k ∷ []) out₁ (omega (arith, y.room, y.dwords_are, long₁)) ∙ long₁

    pub begun : Left is rs ws 0 start out₂ (put (4 * 2) (bytes_of (all_dwords l)) out₂)
    begun =
        let z : length is / 16 - 0 ≡ length is / 16 = omega arith in
        record {
          ceiling = c;
          model51 = m;
          list = l;
          whole = y.whole;
          operand_whole = refl;
          confirmed = ap (λ (n : ℕ). confirm_all c m n 8 is rs ws 0 0) z ∙ y.confirmed;
          word_within = omega arith;
          room = omega (arith, y.room, y.dwords_are, long₂);
          ends = refl;
        }

    pub headed : {out₃ : List ℕ} → Finished is rs ws out₂ out₃ → out₃ ≡ put 0 (chunk_of v (all_dwords l)) out
    unfolding chunk_of
    headed {out₃} f =
        let x : out₂ ≡ put (4 * 0) (bytes_of (v ∷ k ∷ [])) out = dwords_more 0 1 (v ∷ []) (k ∷ []) out (omega (arith, y.room, y.dwords_are)) refl p q in
        let w : out₃ ≡ put (4 * 0) (bytes_of (v ∷ k ∷ all_dwords l)) out = dwords_more 0 2 (v ∷ k ∷ []) (all_dwords l) out (omega (arith, y.room, y.dwords_are)) refl x (f _ begun) in
        w ∙ ap (λ (j : ℕ). put (4 * 0) (bytes_of (v ∷ j ∷ all_dwords l)) out) (e ∙ y.dwords_are)
