-- What the code's places say of items that are words as they are.
use Prim.Native.Nat.{ℕ, zero, suc, ◌+◌, ◌-◌, ◌%◌, ◌^◌, ◌≤◌, ◌<◌}
use mathlib.Core.Path.{◌≡◌, refl, sym, ap, ◌∙◌, subst}
use mathlib.Core.List.{List, [], ◌∷◌, ◌++◌, append_assoc}
use mathlib.Core.Bool.{Bool, true, false, cond, ◌&&◌}
use native.Mathlib.Nat.{add-zero as plus-zero}
use native.Mathlib.Omega.{arith}
use lib.ListN.{length, get_or, drop, replicate, length-drop}
use lib.Seq.{get_or-drop}
use lib.Dec.{leb, ltb, eqb}
use borrow.Author.Tests.{le-leb, lt-leb, leb-true, leb-false, lt-ltb, le-ltb, ltb-true, ltb-false}
use Rattle.format.specs.Declarations.{Item, d, small, s, tail, list}
use Rattle.layouts.specs.Shapes.{Sound, listed, tailed}
use Rattle.instruction_fields.specs.Places.{◌>>=◌, dwords_on, small_on, list_on, tail_on, rest_on}
use Rattle.format.proofs.Dwords.{impossible}
use Rattle.layouts.specs.declared.Shape.{Shape}
use Rattle.instruction_fields.specs.Fields.{rest}
use Rattle.std.specs.Prelude.{Option, Some, None}
use Rattle.instruction_deep.specs.Confirm.{confirm_words, confirm_item}
use Rattle.instruction_deep.specs.Walks.{some_parts, Takes, PassesIn}
use Rattle.instruction_deep.proofs.Items.{bounds, takes_none, passes_item, blocks_item, passes_first, passes_off, passes_then, passes_on}

module _ (ws : List ℕ) (w : ℕ) (h : w ≤ length ws) where
  left : length (drop w ws) ≡ length ws - w
  left = length-drop w ws

  front : get_or (drop w ws) 0 0 ≡ get_or ws w 0
  front = get_or-drop w ws 0 0 ∙ ap (λ (k : ℕ). get_or ws k 0) (plus-zero w)

  pub stays : (m : Bool) (items : List Item) → items ≡ [] → PassesIn m items ws w (Some w)
  stays m items e rs r = let z : 0 ≡ w - w = omega arith in subst (λ (n : ℕ). Takes m items 0 rs ws r w (some_parts r w n)) z (takes_none items e h)

  one_small : (m : Bool) → 1 ≤ length ws - w → get_or ws w 0 < 65_536 → PassesIn m (small ∷ []) ws w (Some (w + 1))
  unfolding confirm_item
  one_small m k l = passes_item 1 h k (λ rs r. rw (le-leb 1 (length (drop w ws)) (omega (arith, left)), front, lt-ltb (get_or ws w 0) 65_536 l))

  no_small : (m : Bool) → length ws - w < 1 → PassesIn m (small ∷ []) ws w None
  unfolding confirm_item
  no_small m k = blocks_item (λ rs r. rw (lt-leb 1 (length (drop w ws)) (omega (arith, left))))

  large : (m : Bool) → 1 ≤ length ws - w → 65_536 ≤ get_or ws w 0 → PassesIn m (small ∷ []) ws w None
  unfolding confirm_item
  large m k l = blocks_item (λ rs r. rw (le-leb 1 (length (drop w ws)) (omega (arith, left)), front, le-ltb (get_or ws w 0) 65_536 l))

  one_list : (m : Bool) (b : ℕ) → 1 + get_or ws w 0 % 2 ^ b ≤ length ws - w → PassesIn m (list b ∷ []) ws w (Some (w + (1 + get_or ws w 0 % 2 ^ b)))
  unfolding confirm_item
  one_list m b k = passes_item (1 + get_or ws w 0 % 2 ^ b) h k (λ rs r. rw (front, le-leb (1 + get_or ws w 0 % 2 ^ b) (length (drop w ws)) (omega (arith, left))))

  no_list : (m : Bool) (b : ℕ) → length ws - w < 1 + get_or ws w 0 % 2 ^ b → PassesIn m (list b ∷ []) ws w None
  unfolding confirm_item
  no_list m b k = blocks_item (λ rs r. rw (front, lt-leb (1 + get_or ws w 0 % 2 ^ b) (length (drop w ws)) (omega (arith, left))))

  pub all_words : (m : Bool) → PassesIn m (tail ∷ []) ws w (Some (length ws))
  unfolding confirm_item
  all_words m =
      let z : w + (length ws - w) ≡ length ws = omega arith in
      subst (λ (n : ℕ). PassesIn m (tail ∷ []) ws w (Some n)) z (passes_item (length ws - w) h (omega arith) (λ rs r. rw (left, le-leb (length ws - w) (length ws - w) (omega arith))))

  -- a word
  module _ (m : Bool) (i : Item) (e : (rs : List ℕ) (r : ℕ) → confirm_item m i rs (drop w ws) r w ≡ confirm_words 1 true rs (drop w ws) r w) where
    one_word : PassesIn m (i ∷ []) ws w (dwords_on (length ws) w 1)
    one_word = go (leb 1 (length ws - w)) refl
      where
        go : (b : Bool) → leb 1 (length ws - w) ≡ b → PassesIn m (i ∷ []) ws w (cond b (Some (w + 1)) None)
        go true k = passes_item 1 h (leb-true 1 (length ws - w) k) (λ rs r. e rs r ∙ rw (left, k))
        go false k = blocks_item (λ rs r. e rs r ∙ rw (left, k))

  extra_none : PassesIn false (s ∷ []) ws w (Some w)
  unfolding confirm_item
  extra_none = subst (λ (n : ℕ). PassesIn false (s ∷ []) ws w (Some n)) (plus-zero w) (passes_item 0 h (omega arith) (λ rs r. rw (le-leb 0 (length (drop w ws)) (omega arith))))

-- words one after the other
more_words : (m : Bool) (A B : List Item) (ws : List ℕ) (w a b : ℕ) → w ≤ length ws → PassesIn m A ws w (dwords_on (length ws) w a) → (w + a ≤ length ws → PassesIn m B ws (w + a) (dwords_on (length ws) (w + a) b)) → PassesIn m (A ++ B) ws w (dwords_on (length ws) w (a + b))
more_words m A B ws w a b h f g = go (leb a (length ws - w)) refl (leb b (length ws - (w + a))) refl f g
  where
    go : (x : Bool) → leb a (length ws - w) ≡ x → (y : Bool) → leb b (length ws - (w + a)) ≡ y → PassesIn m A ws w (cond x (Some (w + a)) None) →
        (w + a ≤ length ws → PassesIn m B ws (w + a) (cond y (Some (w + a + b)) None)) → PassesIn m (A ++ B) ws w (dwords_on (length ws) w (a + b))
    go false ex y ey f g = let k = leb-false a (length ws - w) ex in rw (lt-leb (a + b) (length ws - w) (omega arith)) (passes_first A B f)
    go true ex false ey f g =
        let k = leb-true a (length ws - w) ex in
        let l = leb-false b (length ws - (w + a)) ey in
        rw (lt-leb (a + b) (length ws - w) (omega arith)) (passes_off A B f (g (omega arith)))
    go true ex true ey f g =
        let k = leb-true a (length ws - w) ex in
        let l = leb-true b (length ws - (w + a)) ey in
        let z : w + a + b ≡ w + (a + b) = omega arith in
        rw (le-leb (a + b) (length ws - w) (omega arith)) (subst (λ (n : ℕ). PassesIn m (A ++ B) ws w (Some n)) z (passes_then A B f (g (omega arith))))

words_none : (m : Bool) (items : List Item) (ws : List ℕ) (w : ℕ) → PassesIn m items ws w (Some w) → PassesIn m items ws w (dwords_on (length ws) w 0)
words_none m items ws w f = rw (le-leb 0 (length ws - w) (omega arith)) (subst (λ (n : ℕ). PassesIn m items ws w (Some n)) (sym (plus-zero w)) f)

run_words : (m : Bool) (i : Item) → ((rs ws : List ℕ) (r w : ℕ) → confirm_item m i rs ws r w ≡ confirm_words 1 true rs ws r w) → (k : ℕ) (ws : List ℕ) (w : ℕ) → w ≤ length ws → PassesIn m (replicate k i) ws w (dwords_on (length ws) w k)
run_words m i e zero ws w h = words_none m [] ws w (stays ws w h m [] refl)
run_words m i e (suc k) ws w h =
    let z : 1 + k ≡ suc k = omega arith in
    rw z at (more_words m (i ∷ []) (replicate k i) ws w 1 k h (one_word ws w h m i (λ rs r. e rs (drop w ws) r w)) (λ l. run_words m i e k ws (w + 1) l))

pub words_on_lem : (m : Bool) (k : ℕ) (ws : List ℕ) (w : ℕ) → w ≤ length ws → PassesIn m (replicate k d) ws w (dwords_on (length ws) w k)
unfolding confirm_item
words_on_lem m k ws w h = run_words m d (λ rs ws r w. refl) k ws w h

-- one more word each in model 5.1, none otherwise
extras : (m : Bool) (x : ℕ) (ws : List ℕ) (w : ℕ) → w ≤ length ws → PassesIn m (replicate x s) ws w (dwords_on (length ws) w (cond m x 0))
unfolding confirm_item
extras true x ws w h = run_words true s (λ rs ws r w. refl) x ws w h
extras false x ws w h = words_none false (replicate x s) ws w (go x)
  where
    go : (x : ℕ) → PassesIn false (replicate x s) ws w (Some w)
    go zero = stays ws w h false [] refl
    go (suc x) = passes_then (s ∷ []) (replicate x s) (extra_none ws w h) (go x)

-- ---- the places that the code tells
module _ (ws : List ℕ) (at : ℕ) (h : at ≤ length ws) where
  small_passes : (m : Bool) (k : ℕ) → k ≤ 1 → PassesIn m (replicate k small) ws at (small_on k ws at)
  small_passes m zero l = stays ws at h m [] refl
  small_passes m (suc zero) l = go (ltb at (length ws)) refl (ltb (get_or ws at 0) 65_536) refl
    where
      go : (a : Bool) → ltb at (length ws) ≡ a → (b : Bool) → ltb (get_or ws at 0) 65_536 ≡ b → PassesIn m (small ∷ []) ws at (cond (a && b) (Some (at + 1)) None)
      go false e b f = no_small ws at h m (let z = ltb-false at (length ws) e in omega arith)
      go true e true f = one_small ws at h m (let z = ltb-true at (length ws) e in omega arith) (ltb-true _ _ f)
      go true e false f = large ws at h m (let z = ltb-true at (length ws) e in omega arith) (ltb-false _ _ f)
  small_passes m (suc (suc k)) l = impossible (omega arith)

  list_passes : (m : Bool) (b : ℕ) → PassesIn m (listed b) ws at (list_on b ws at)
  list_passes m b = first (eqb b 0)
    where
      k : ℕ
      k = get_or ws at 0 % 2 ^ b

      second : (a : Bool) → ltb at (length ws) ≡ a → (c : Bool) → leb k (length ws - (at + 1)) ≡ c → PassesIn m (list b ∷ []) ws at (cond a (cond c (Some (at + 1 + k)) None) None)
      second false e c f = no_list ws at h m b (let z = ltb-false at (length ws) e in omega arith)
      second true e false f = no_list ws at h m b (let z = leb-false k (length ws - (at + 1)) f in let y = ltb-true at (length ws) e in omega arith)
      second true e true f =
          let u : at + (1 + k) ≡ at + 1 + k = omega arith in
          subst (λ (n : ℕ). PassesIn m (list b ∷ []) ws at (Some n)) u (one_list ws at h m b (let z = leb-true k (length ws - (at + 1)) f in let y = ltb-true at (length ws) e in omega arith))

      first : (z : Bool) → PassesIn m (cond z [] (list b ∷ [])) ws at (cond z (Some at) (cond (ltb at (length ws)) (dwords_on (length ws) (at + 1) k) None))
      first true = stays ws at h m [] refl
      first false = second (ltb at (length ws)) refl (leb k (length ws - (at + 1))) refl

pub place_bounds : {m : Bool} {items : List Item} {ws : List ℕ} {at k : ℕ} {p : Option ℕ} → PassesIn m items ws at p → p ≡ Some k → (at ≤ k) × (k ≤ length ws)
place_bounds {m} {items} {ws} {at} {k} f e = let b = bounds (subst (PassesIn m items ws at) e f [] 0) in (b.words_from, b.words_to)

-- the items behind the operands
module _ (m : Bool) (x : Shape) (ws : List ℕ) where
  abbrev middle : List Item
  middle = replicate x.after d ++ replicate x.extra s

  abbrev end : List Item
  end = listed x.list ++ tailed x.tail

  third : (b : ℕ) (p : Option ℕ) → PassesIn m (listed x.list) ws b p → PassesIn m end ws b (p >>= λ c. Some (tail_on x.tail (length ws) c))
  third b None f = passes_first (listed x.list) (tailed x.tail) f
  third b (Some c) f = passes_then (listed x.list) (tailed x.tail) f (go x.tail)
    where
      l : c ≤ length ws
      l = (place_bounds f refl).1

      go : (t : Bool) → PassesIn m (tailed t) ws c (Some (cond t (length ws) c))
      go true = all_words ws c l m
      go false = stays ws c l m [] refl

  second : (a : ℕ) (p : Option ℕ) → PassesIn m middle ws a p → PassesIn m (middle ++ end) ws a (p >>= λ b. list_on x.list ws b >>= λ c. Some (tail_on x.tail (length ws) c))
  second a None f = passes_first middle end f
  second a (Some b) f = passes_on middle end _ f (third b (list_on x.list ws b) (list_passes ws b (place_bounds f refl).1 m x.list))

  abbrev n : ℕ
  n = x.after + cond m x.extra 0

  middle_passes : (a : ℕ) → a ≤ length ws → PassesIn m middle ws a (dwords_on (length ws) a n)
  middle_passes a h = more_words m (replicate x.after d) (replicate x.extra s) ws a x.after (cond m x.extra 0) h (words_on_lem m x.after ws a h) (λ l. extras m x.extra ws (a + x.after) l)

  first : (at : ℕ) (p : Option ℕ) → PassesIn m (replicate x.small small) ws at p → PassesIn m (replicate x.small small ++ (middle ++ end)) ws at (p >>= λ a. dwords_on (length ws) a n >>= λ b. list_on x.list ws b >>= λ c. Some (tail_on x.tail (length ws) c))
  first at None f = passes_first (replicate x.small small) (middle ++ end) f
  first at (Some a) f = passes_on (replicate x.small small) (middle ++ end) _ f (second a (dwords_on (length ws) a n) (middle_passes a (place_bounds f refl).1))

  pub rest_passes : (at : ℕ) → at ≤ length ws → Sound x → PassesIn m (rest x) ws at (rest_on m x ws at)
  unfolding rest rest_on
  rest_passes at h z =
      let e : middle ++ end ≡ replicate x.after d ++ (replicate x.extra s ++ end) = append_assoc (replicate x.after d) (replicate x.extra s) end in
      rw e at (first at (small_on x.small ws at) (small_passes ws at h m x.small z.small))
