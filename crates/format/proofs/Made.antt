-- What was read is made again from its rows and words.
use Prim.Native.Nat.{ℕ, zero, suc, ◌+◌, ◌*◌, ◌/◌, ◌%◌, ◌^◌, ◌≤◌, ◌<◌}
use mathlib.Core.Path.{◌≡◌, refl, sym, ap, ◌∙◌}
use mathlib.Core.List.{List, [], ◌∷◌, ◌++◌, append_assoc, append-nil}
use mathlib.Core.Bool.{Bool, true, false, cond}
use lib.ListN.{length, length-append}
use lib.Seq.{take_at, drop_at, take-length, drop-length}
use lib.Dec.{ltb, eqb}
use native.Mathlib.Omega.{arith}
use borrow.Author.Tests.{ltb-true, eqb-true, eqb-false}
use Rattle.format.specs.Dwords.{bits, follows, Reader}
use Rattle.format.specs.Dwords as reader
use Rattle.format.specs.Declarations.{Item, o, d, small, s, tail, list}
use Rattle.format.specs.Operands as op
use Rattle.format.specs.Operands.{Tree, none, plain, node}
use Rattle.format.specs.Instructions.{read_item, read_items}
use Rattle.format.specs.Rows.{tree_words, operand_row, tree_table, parts_words, parts_table}
use Rattle.format.specs.Encoder.{Maker, these, words, at, extension_of, operand_dword, make_index, make_rest, make_operand, make_item, make_items}
use Rattle.format.proofs.Dwords.{impossible, both, All, unmet, met, all_then, all_if, all_weaken, all_both, makes_dword, some_length, Linked, end, link, chain_linked}
use Rattle.format.proofs.Instructions.{makes_items}
use Rattle.format.proofs.Rows.{operand_row_length, parts_fit}

take_words : (x W rs : List ℕ) (n : ℕ) → length x ≡ n → words n rs (x ++ W) ≡ these x rs W
take_words x W rs n e = rw (take_at x W n e, drop_at x W n e)

-- ---- an operand's dword and extension, from its row
parts : (a b c : ℕ) → a < 4 → b < 2 → c < 8 → ((a + b * 4 + c * 16) % 4 ≡ a) × ((a + b * 4 + c * 16) / 16 ≡ c) × ((a + b * 4 + c * 16) / 4 % 2 ≡ b)
parts a b c x y z =
    let q : (a + b * 4 + c * 16) / 4 ≡ b + c * 4 = omega arith in
    (omega arith, omega arith, rw q (omega arith))

pub extension_of_lem : (n : ℕ) → 0 < n → extension_of n ≡ op.extension_with (n % 4) (n / 16) (n / 4 % 2) ∷ []
unfolding extension_of
extension_of_lem zero h = impossible (omega arith)
extension_of_lem (suc n) h = refl

extension_again : (e : List ℕ) → op.exact_extension e ≡ true → extension_of (op.modifiers e) ≡ e
unfolding op.exact_extension op.modifiers
extension_again [] h = unfold extension_of in refl
extension_again (x ∷ y ∷ l) h = impossible (cc)
extension_again (x ∷ []) h =
    let b = both (ltb 0 (op.modifiers (x ∷ []))) _ h in
    let p = parts (bits 6 7 x) (bits 17 17 x) (bits 14 16 x) (omega arith) (omega arith) (omega arith) in
    extension_of_lem _ (ltb-true 0 (op.modifiers (x ∷ [])) b.0) ∙ rw (p.0, p.1, p.2) (ap (λ (y : ℕ). y ∷ []) (sym (eqb-true x _ b.1)))

follows_length : (t : ℕ) (e : List ℕ) {b : Bool} → follows t ≡ b → Linked b e → op.exact_extension e ≡ true → length e ≡ bits 31 31 t
unfolding follows op.exact_extension
follows_length t e f end h = let n : bits 31 31 t ≡ 1 → ⊥ = eqb-false (bits 31 31 t) 1 f in omega arith
follows_length t e f (link {x = x} {l = []} q) h = omega (arith, eqb-true (bits 31 31 t) 1 f)
follows_length t e f (link {x = x} {l = y ∷ l} q) h = impossible (cc)

pub dword_again : (r w t : ℕ) (e m : List ℕ) (a b c : Tree) → Linked (follows t) e → op.exact_extension e ≡ true → op.exact_dword t ≡ true → operand_dword (operand_row r w t e m a b c) ≡ t
unfolding operand_dword operand_row op.exact_dword
dword_again r w t e m a b c k h x = rw (extension_again e h, follows_length t e refl k h) (sym (eqb-true t _ x))

pub row_extension : (r w t : ℕ) (e m : List ℕ) (a b c : Tree) → op.exact_extension e ≡ true → extension_of (at 3 (operand_row r w t e m a b c)) ≡ e
unfolding operand_row
row_extension r w t e m a b c h = extension_again e h

-- ---- a tree's rows and words make its dwords again, whatever follows them
abbrev pub Again : Maker → Tree → Type 0
Again q x = op.exact x ≡ true → (r w : ℕ) (R W : List ℕ) → q (tree_table r w x ++ R) (tree_words x ++ W) ≡ these (op.dwords x) R W

pub flat3 : (x y z r : List ℕ) → (x ++ y ++ z) ++ r ≡ x ++ (y ++ (z ++ r))
flat3 x y z r = simp append_assoc

pub flat4 : (q x y z r : List ℕ) → (q ++ x ++ y ++ z) ++ r ≡ q ++ ((x ++ y ++ z) ++ r)
flat4 q x y z r = simp append_assoc

module _ (p : Reader Tree) (q : Maker) (hp : (ds : List ℕ) → All (λ x r. Again q x) (p ds)) where
  child_again : (b : Bool) (ds : List ℕ) → All (λ x r. Again (cond b q (these [])) x) (cond b p (reader.give none) ds)
  unfolding tree_table tree_words op.dwords
  child_again true ds = hp ds
  child_again false ds = met (λ e r w R W. refl)

  index_step : (i : ℕ) (x : List ℕ) (c : Tree) → length x ≡ op.own i → Again (cond (op.nests i) q (these [])) c → Again (make_index q i) (plain x c)
  unfolding make_index tree_table tree_words op.exact op.dwords
  index_step i x c e f h r w R W = rw (append_assoc x (tree_words c) W, take_at x _ (op.own i) e, drop_at x _ (op.own i) e, f h r (w + length x) R W)

  index_again : (i : ℕ) (ds : List ℕ) → All (λ x r. Again (make_index q i) x) (op.read_index p i ds)
  unfolding op.read_index
  index_again i ds = all_if (op.known i) _ _ ds
      (λ k. all_then (some_length (op.own i) ds) (λ x ds₁ e₁.
      all_then (child_again (op.nests i) ds₁) (λ c ds₂ f.
      met (index_step i x c e₁.1 f))))
      (λ k. unmet)

pub record Exact (t : ℕ) (e : List ℕ) (a b c : Tree) : Type 0 where
  pub token : op.exact_dword t ≡ true
  pub extension : op.exact_extension e ≡ true
  pub first : op.exact a ≡ true
  pub second : op.exact b ≡ true
  pub third : op.exact c ≡ true

pub exact_node : (t : ℕ) (e m : List ℕ) (a b c : Tree) → op.exact (node t e m a b c) ≡ true → Exact t e a b c
unfolding op.exact
exact_node t e m a b c h =
    let h₁ = both _ (op.exact c) h in
    let h₂ = both _ (op.exact b) h₁.0 in
    let h₃ = both _ (op.exact a) h₂.0 in
    let h₄ = both (op.exact_dword t) (op.exact_extension e) h₃.0 in
    record { token = h₄.0; extension = h₄.1; first = h₃.1; second = h₂.1; third = h₁.1 }

-- once its row is taken, the rest of an operand is made from what follows
abbrev Rest : ℕ → ℕ → List ℕ → Tree → Tree → Tree → Type 0
Rest k t m a b c = (ra wa rb wb rc wc : ℕ) (R W : List ℕ) →
    make_rest (make_operand k) t ((tree_table ra wa a ++ tree_table rb wb b ++ tree_table rc wc c) ++ R) ((m ++ tree_words a ++ tree_words b ++ tree_words c) ++ W)
    ≡ these (m ++ (op.dwords a ++ (op.dwords b ++ op.dwords c))) R W

spread : (e m a b c : List ℕ) → e ++ (m ++ (a ++ (b ++ c))) ≡ e ++ m ++ a ++ b ++ c
spread e m a b c = simp append_assoc

operand_step : (k t : ℕ) (e m : List ℕ) (a b c : Tree) → Linked (follows t) e → (op.exact (node t e m a b c) ≡ true → Rest k t m a b c) → Again (make_operand (suc k)) (node t e m a b c)
unfolding make_operand tree_table tree_words op.dwords
operand_step k t e m a b c ch f h r w R W =
    let x = exact_node t e m a b c h in
    let q : List ℕ = operand_row r w t e m a b c in
    rw (flat4 q _ _ _ R, take_at q _ 16 (operand_row_length r w t e m a b c), drop_at q _ 16 (operand_row_length r w t e m a b c), dword_again r w t e m a b c ch x.extension x.token, row_extension r w t e m a b c x.extension, f h _ _ _ _ _ _ R W)
    (ap (λ (l : List ℕ). these (t ∷ l) R W) (spread e m (op.dwords a) (op.dwords b) (op.dwords c)))

pub nils : (m : List ℕ) → m ++ [] ++ [] ++ [] ≡ m
nils m = simp append-nil

immediates_rest : (k t : ℕ) (m : List ℕ) → op.immediate t ≡ true → length m ≡ op.immediates t → Rest k t m none none none
unfolding make_rest tree_table tree_words op.dwords
immediates_rest k t m i l ra wa rb wb rc wc R W = rw (i, nils m, append-nil m) (take_words m W R (op.immediates t) l)

indices_rest : (k t : ℕ) (a b c : Tree) → op.immediate t ≡ false →
    Again (make_index (make_operand k) (op.repr 0 t)) a → Again (make_index (make_operand k) (op.repr 1 t)) b → Again (make_index (make_operand k) (op.repr 2 t)) c →
    op.exact a ≡ true → op.exact b ≡ true → op.exact c ≡ true → Rest k t [] a b c
unfolding make_rest
indices_rest k t a b c i fa fb fc xa xb xc ra wa rb wb rc wc R W =
    rw (i, flat3 (tree_table ra wa a) (tree_table rb wb b) (tree_table rc wc c) R, flat3 (tree_words a) (tree_words b) (tree_words c) W, fa xa ra wa _ _, fb xb rb wb _ _, fc xc rc wc R W)

pub operand_again : (k : ℕ) (ds : List ℕ) → All (λ x r. Again (make_operand k) x) (op.operand k ds)
unfolding op.operand op.read_immediates op.read_indices
operand_again zero ds = unmet
operand_again (suc k) ds =
    all_then (makes_dword ds) (λ t ds₁ u.
    all_then (chain_linked (follows t) ds₁) (λ e ds₂ ch.
    all_if (op.immediate t) _ _ ds₂
    (λ i. all_if (eqb (op.dimension t) 0) _ _ ds₂ (λ z. all_then (some_length (op.immediates t) ds₂) (λ m ds₃ l. met (operand_step k t e m none none none ch.1 (λ h. immediates_rest k t m i l.1)))) (λ z. unmet))
    (λ i.
    all_then (index_again (op.operand k) (make_operand k) (operand_again k) (op.repr 0 t) ds₂) (λ a ds₃ fa.
    all_then (index_again (op.operand k) (make_operand k) (operand_again k) (op.repr 1 t) ds₃) (λ b ds₄ fb.
    all_then (index_again (op.operand k) (make_operand k) (operand_again k) (op.repr 2 t) ds₄) (λ c ds₅ fc.
    met (operand_step k t e [] a b c ch.1 (λ h. let x = exact_node t e [] a b c h in indices_rest k t a b c i fa fb fc x.first x.second x.third))))))))

-- ---- parts, from words that are theirs alone: where no dword was left, no word is
abbrev ItemAgain : Maker → Tree → List ℕ → Type 0
ItemAgain q x left = op.exact x ≡ true → (r w : ℕ) (R W : List ℕ) → (left ≡ [] → W ≡ []) → q (tree_table r w x ++ R) (tree_words x ++ W) ≡ these (op.dwords x) R W

plain_again : (x W R : List ℕ) (n : ℕ) → length x ≡ n → words n R (x ++ [] ++ W) ≡ these (x ++ []) R W
plain_again x W R n e = rw (append-nil x) (take_words x W R n e)

tail_again : (x W R : List ℕ) → W ≡ [] → words (length (x ++ [] ++ W)) R (x ++ [] ++ W) ≡ these (x ++ []) R W
tail_again x W R e = rw (e, append-nil x, append-nil x, take-length x, drop-length x)

item_again : (m : Bool) (i : Item) (ds : List ℕ) → All (λ x left. ItemAgain (make_item m i) x left) (read_item m i ds)
unfolding read_item make_item tree_table tree_words op.dwords
item_again m o ds = all_weaken (λ x left f e r w R W z. f e r w R W) (operand_again _ ds)
item_again m d ds = all_then (some_length 1 ds) (λ x left l. met (λ e r w R W z. plain_again x W R 1 l.1))
item_again m small ds = all_then (makes_dword ds) (λ x left u. all_if (ltb x 65_536) _ _ left (λ h. met (λ e r w R W z. plain_again (x ∷ []) W R 1 refl)) (λ h. unmet))
item_again m s ds = all_then (some_length (cond m 1 0) ds) (λ x left l. met (λ e r w R W z. plain_again x W R (cond m 1 0) l.1))
item_again m tail ds = met (λ e r w R W z. tail_again ds W R (z refl))
item_again m (list b) ds = all_then (makes_dword ds) (λ n left₁ u. all_then (some_length (n % 2 ^ b) left₁) (λ x left l. met (λ e r w R W z. plain_again (n ∷ x) W R (1 + n % 2 ^ b) (omega (arith, l.1)))))

abbrev pub PartsAgain : Bool → List Item → List Tree → Type 0
PartsAgain m l ps = op.exact_parts ps ≡ true → (r w : ℕ) (R : List ℕ) → make_items m l (parts_table r w ps ++ R) (parts_words ps) ≡ these (op.parts_dwords ps) R []

no_items : (m : Bool) → PartsAgain m [] []
unfolding make_items parts_table parts_words op.parts_dwords
no_items m e r w R = refl

pub nil_of : (l : List ℕ) → length l ≤ 0 → l ≡ []
nil_of [] h = refl
nil_of (x ∷ l) h = impossible (omega arith)

pub no_words : (ps : List Tree) (left : List ℕ) → op.parts_dwords ps ++ left ≡ [] → parts_words ps ≡ []
no_words ps left e = nil_of (parts_words ps) (omega (arith, parts_fit ps, ap length e, length-append (op.parts_dwords ps) left))

parts_step : (m : Bool) (i : Item) (l : List Item) (x : Tree) (ps : List Tree) (left left₁ : List ℕ) → ItemAgain (make_item m i) x left → PartsAgain m l ps → op.parts_dwords ps ++ left₁ ≡ left → PartsAgain m (i ∷ l) (x ∷ ps)
unfolding make_items parts_table parts_words op.parts_dwords op.exact_parts
parts_step m i l x ps left left₁ f g e h r w R =
    let b = both (op.exact x) (op.exact_parts ps) h in
    rw (append_assoc (tree_table r w x) _ R, f b.0 r w _ (parts_words ps) (λ z. no_words ps left₁ (e ∙ z)), g b.1 _ _ R)

pub items_again : (m : Bool) (l : List Item) (ds : List ℕ) → All (λ ps r. PartsAgain m l ps) (read_items m l ds)
unfolding read_items
items_again m [] ds = met (no_items m)
items_again m (i ∷ l) ds = all_then (item_again m i ds) (λ x left f. all_then (all_both (items_again m l left) (makes_items m l left)) (λ ps left₁ g. met (parts_step m i l x ps left left₁ f g.0 g.1)))
