-- Operands one after the other.
use Rattle.std.proofs.Common.{◌≡◌, ℕ, zero, suc, ◌+◌, ◌-◌, ◌*◌, ◌^◌, ◌<◌, ◌≤◌, List, length, get_or, drop, sym, refl, ap, ◌∙◌, subst, arith, get_or-drop, lit<}
use Rattle.format.specs.Encoder.{at, extension_of}
use Rattle.format.proofs.Dwords.{impossible}
use Rattle.operand_deep.specs.Confirm.{confirm}
use Rattle.operand_deep.specs.Walks.{sized, walked, there, row_at}
use Rattle.operand_deep.proofs.Fields as f
use Rattle.operand_walk.specs.Walks.{Lone, Stands, Run, empty, next, IsRun, Running, Pointed}
use Rattle.operand_walk.specs.declared.Ran.{Ran}

abbrev pub ran : ℕ → ℕ → Ran
ran e y = record { rows = e; dwords = y }

-- a row's number 15, in its pool
number_15 : (rs : List ℕ) (r : ℕ) {q : List ℕ} → q ≡ row_at r rs → at 15 (drop (16 * r) rs) ≡ at 15 q
number_15 rs r e = get_or-drop (16 * r) rs 15 0 ∙ sym (f.row_at rs (16 * r) 15 (lit< tt)) ∙ sym (ap (at 15) e)

-- ---- so many operands have been walked
pub begin : (rs : List ℕ) (r w : ℕ) → Running rs r w 0 w (ran 0 0)
begin rs r w =
    let z : 0 ≡ 0 + (w - w) + 0 = omega arith in
    record {
      two_rows = omega arith;
      words_from = omega arith;
      words_to = omega arith;
      few = omega arith;
      runs = λ l left ws h. subst (Run (suc (suc left)) rs ws r w 0 0 w) z empty;
    }

module _ {rs : List ℕ} {r w i v : ℕ} {x : Ran} (g : Running rs r w i v x) {s : ℕ} (es : s ≡ r + (i + x.rows)) {q : List ℕ} (eq : q ≡ row_at s rs) where
  -- the next operand, of one row or two, with n words and y dwords beside them and its first
  goes_on : {b n y : ℕ} → b ≤ 1 → n ≤ 4 → y ≤ 2 → (v + n < 2 ^ 32 → at 15 q ≡ 1 + n + y) → (v + n < 2 ^ 32 → (left : ℕ) (ws : List ℕ) → v + n ≤ length ws → sized (1 + b) n (at 15 q) ≡ walked (there (confirm (suc (suc left))) rs ws s v)) → Running rs r w (i + 1) (v + n) (ran (x.rows + b) (x.dwords + y))
  goes_on {b} {n} {y} hb hn hy size walks =
      let e : at 15 (drop (16 * s) rs) ≡ at 15 q = number_15 rs s eq in
      record {
        two_rows = omega (arith, g.two_rows);
        words_from = omega (arith, g.words_from);
        words_to = omega (arith, g.words_to);
        few = omega (arith, g.few);
        runs = λ l left ws h.
            let t = next (g.runs (omega arith) left ws (omega arith)) (rw es at (ap (λ j. sized (1 + b) n j) e ∙ walks l left ws h)) in
            let ep : i + x.rows + (1 + b) ≡ i + 1 + (x.rows + b) = omega arith in
            let en : i + (v - w) + x.dwords + at 15 (drop (16 * s) rs) ≡ i + 1 + (v + n - w) + (x.dwords + y) = omega (arith, e, size l, g.words_from) in
            rw (← es, ep, en) at t;
      }

  -- one row
  pub one_on : {n y : ℕ} → n ≤ 4 → y ≤ 2 → (v < 2 ^ 32 → Lone q v n) → (v < 2 ^ 32 → at 15 q ≡ 1 + n + y) → Running rs r w (i + 1) (v + n) (ran x.rows (x.dwords + y))
  one_on hn hy l size =
      let z : x.rows + 0 ≡ x.rows = omega arith in
      rw z at (goes_on {b = 0} (omega arith) hn hy (λ z. size (omega arith)) (λ z left ws b. (l (omega arith)).walks (suc left) rs ws s eq b))

  pub lone_on : {n : ℕ} → n ≤ 4 → (v < 2 ^ 32 → Lone q v n) → {y : ℕ} → y ≡ length (extension_of (at 3 q)) → y < 2 → Running rs r w (i + 1) (v + n) (ran x.rows (x.dwords + y))
  lone_on hn l ey hy = one_on hn (omega arith) l (λ h. omega (arith, (l h).size, ey))

  pub stands_on : {n : ℕ} → n ≤ 4 → (v < 2 ^ 32 → Stands q v n 0) → Running rs r w (i + 1) (v + n) x
  stands_on hn s =
      let z : x.dwords + 0 ≡ x.dwords = omega arith in
      rw z at (one_on hn (omega arith) (λ h. (s h).lone) (λ h. (s h).dwords_are))

  -- two
  pub pointed_on : {c : List ℕ} → c ≡ row_at (s + 1) rs → {n : ℕ} → n ≤ 4 → (v + n ≤ 2 ^ 32 → Pointed q c s v n) → {y : ℕ} → y ≡ length (extension_of (at 3 q)) → y < 2 → Running rs r w (i + 1) (v + n) (ran (x.rows + 1) (x.dwords + 1 + y))
  pointed_on ec hn p {y} ey hy =
      let z : x.dwords + (1 + y) ≡ x.dwords + 1 + y = omega arith in
      rw z at (goes_on {b = 1} {y = 1 + y} (omega arith) hn (omega arith) (λ h. omega (arith, (p (omega arith)).size, ey)) (λ h left ws b. (p (omega arith)).walks left rs ws eq ec b))

module _ {rs : List ℕ} {r w i v : ℕ} {x : Ran} (g : Running rs r w i v x) where
  pub finished : {k : ℕ} → i ≡ k → {end : ℕ} → end < 2 ^ 32 → v ≤ end → IsRun rs r w k end x
  finished e h l = rw (← e) record {
    past = v;
    words_from = g.words_from;
    words_to = l;
    few = g.few;
    two_rows = g.two_rows;
    runs = λ left ws e. g.runs (omega arith) left ws (omega arith);
  }

-- ---- some of them one way, and the others another
append : {left : ℕ} {rs ws : List ℕ} {r w k p v n k₁ p₁ v₁ n₁ : ℕ} → Run left rs ws r w k p v n → Run left rs ws (r + p) v k₁ p₁ v₁ n₁ → Run left rs ws r w (k + k₁) (p + p₁) v₁ (n + n₁)
append {k = k} {p = p} {n = n} a empty =
    let ek : k + 0 ≡ k = omega arith in
    let ep : p + 0 ≡ p = omega arith in
    let en : n + 0 ≡ n = omega arith in
    rw (ek, ep, en) a
append {left} {rs} {ws} {r} {w} {k} {p} {v} {n} a (next {k = k₂} {p = p₂} {v = v₂} {n = n₂} {b = b} {a = c} t e) =
    let er : r + p + p₂ ≡ r + (p + p₂) = omega arith in
    let ek : k + (k₂ + 1) ≡ k + k₂ + 1 = omega arith in
    let ep : p + (p₂ + b) ≡ p + p₂ + b = omega arith in
    let en : n + (n₂ + at 15 (drop (16 * (r + p + p₂)) rs)) ≡ n + n₂ + at 15 (drop (16 * (r + p + p₂)) rs) = omega arith in
    rw (ek, ep, en, er) (next (append a t) (rw er at e))

pub the_rest : {rs : List ℕ} {r w k i v end : ℕ} {x : Ran} → Running rs r w i v (ran 0 0) → i < k → end < 2 ^ 32 → IsRun rs (r + i) v (k - i) end x → IsRun rs r w k end x
the_rest {rs} {r} {w} {k} {i} {v} {x = x} g h l a =
    record {
      past = a.past;
      words_from = omega (arith, g.words_from, a.words_from);
      words_to = a.words_to;
      few = omega (arith, a.few);
      two_rows = omega (arith, a.two_rows);
      runs = λ left ws e.
          let z : i + 0 ≡ i = omega arith in
          let t = append (rw z at (g.runs (omega (arith, a.words_from, a.words_to)) left ws (omega (arith, a.words_from, a.words_to)))) (a.runs left ws e) in
          let ek : i + (k - i) ≡ k = omega arith in
          let ep : i + (k - i + x.rows) ≡ k + x.rows = omega arith in
          let en : i + (v - w) + 0 + (k - i + (a.past - v) + x.dwords) ≡ k + (a.past - w) + x.dwords = omega (arith, g.words_from, a.words_from) in
          rw (ek, ep, en) at t;
    }

-- ---- one operand
record First (left : ℕ) (rs ws : List ℕ) (r w p v n : ℕ) : Type 0 where
  words : ℕ
  words_are : v ≡ w + words
  dwords_are : n ≡ at 15 (drop (16 * r) rs)
  is : sized p words (at 15 (drop (16 * r) rs)) ≡ walked (there (confirm left) rs ws r w)

first : {left : ℕ} {rs ws : List ℕ} {r w k p v n : ℕ} → Run left rs ws r w k p v n → k ≡ 1 → First left rs ws r w p v n
first empty e = impossible (omega arith)
first {left} {rs} {ws} {r} {w} (next {b = b} {a = a} empty e₁) e =
    let z : r + 0 ≡ r = omega arith in
    let x : 0 + b ≡ b = omega arith in
    let y : 0 + at 15 (drop (16 * r) rs) ≡ at 15 (drop (16 * r) rs) = omega arith in
    record { words = a; words_are = refl; dwords_are = rw z y; is = rw x (rw z at e₁) }
first (next (next t e₂) e₁) e = impossible (omega arith)

pub one_walks : (left : ℕ) (rs ws : List ℕ) (r w : ℕ) {x : Ran} → 2 ≤ left → IsRun rs r w 1 (length ws) x → {d : ℕ} → d ≡ get_or rs (16 * r + 15) 0 → (1 + x.dwords ≤ d) × (sized (1 + x.rows) (d - 1 - x.dwords) d ≡ walked (there (confirm left) rs ws r w))
one_walks zero rs ws r w h a ed = impossible (omega arith)
one_walks (suc zero) rs ws r w h a ed = impossible (omega arith)
one_walks (suc (suc k)) rs ws r w {x} h a {d} ed =
    let f = first (a.runs k ws refl) refl in
    let e : d ≡ at 15 (drop (16 * r) rs) = ed ∙ sym (get_or-drop (16 * r) rs 15 0) in
    let y : d - 1 - x.dwords ≡ f.words = omega (arith, e, f.dwords_are, f.words_are, a.words_from) in
    (omega (arith, e, f.dwords_are, f.words_are, a.words_from), (λ j. sized (1 + x.rows) (y j) (e j)) ∙ f.is)
