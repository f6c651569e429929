-- Items that are confirmed stand in front, are exact, and are read from their dwords; so is what stands after the token.
use Prim.Native.Nat.{ℕ, suc, ◌+◌, ◌*◌, ◌%◌, ◌^◌, ◌≤◌}
use mathlib.Core.Path.{◌≡◌, refl, sym, subst}
use mathlib.Core.Bool.{Bool, true, false, cond, ◌&&◌}
use mathlib.Core.List.{List, [], ◌∷◌, ◌++◌, append-nil}
use native.Mathlib.Omega.{arith}
use lib.ListN.{length, take, drop, length-append}
use lib.Seq.{length-take-le}
use lib.Dec.{ltb, leb, eqb}
use borrow.Author.Tests.{leb-true, eqb-true}
use Rattle.format.specs.Dwords.{follows, got, Reader, dword, some, chain}
use Rattle.format.specs.Framing.{sized}
use Rattle.format.specs.Declarations.{Item, o, d, small, s, tail, list, Layout, chained}
use Rattle.format.specs.Operands as op
use Rattle.format.specs.Operands.{Tree, none, plain, parts_dwords}
use Rattle.format.specs.Instructions.{read_head, read_item, read_items}
use Rattle.format.specs.Rows.{tree_words, tree_rows, tree_table, parts_words, parts_rows, parts_table}
use Rattle.format.specs.Encoder.{at}
use Rattle.format.proofs.Dwords.{impossible, both}
use Rattle.operand_deep.proofs.Every.{Every, unmet, met, every_then, every_if}
use Rattle.operand_deep.proofs.Lists.{InFront, front_none, front_cut, front_more, some_of}
use Rattle.operand_deep.proofs.Sound.{Held, sound_all}
use Rattle.instruction_deep.specs.Confirm.{confirm_words, confirm_item, confirm_items, linked, head_taken}
use Rattle.instruction_deep.proofs.Layouts.{tail_last}

-- ---- words as they are
held_words : (read : Reader Tree) (n : ℕ) (rs ws : List ℕ) (r w : ℕ) → n ≤ length ws → ((l : List ℕ) → read (take n ws ++ l) ≡ got (plain (take n ws) none) l) → Held read rs ws r w (plain (take n ws) none)
unfolding tree_table tree_rows tree_words op.exact op.dwords
held_words read n rs ws r w h f =
    let x : List ℕ = take n ws in
    record {
      rows = refl;
      words = rw (append-nil x, length-take-le n ws h) (front_cut n ws);
      exact = refl;
      reads = λ l. rw (append-nil x) (f l);
    }

sound_words : (read : Reader Tree) (n : ℕ) (b : Bool) (rs ws : List ℕ) (r w : ℕ) → (n ≤ length ws → b ≡ true → (l : List ℕ) → read (take n ws ++ l) ≡ got (plain (take n ws) none) l) →
    Every (Held read rs ws r w) (confirm_words n b rs ws r w)
sound_words read n b rs ws r w f = every_if (leb n (length ws) && b) _ _
    (λ z. let h = both (leb n (length ws)) b z in
    let k : n ≤ length ws = leb-true n (length ws) h.0 in
    met (held_words read n rs ws r w k (f k h.1)))
    (λ z. unmet)

small_reads : (m : Bool) (ws : List ℕ) → 1 ≤ length ws → ltb (at 0 ws) 65_536 ≡ true → (l : List ℕ) → read_item m small (take 1 ws ++ l) ≡ got (plain (take 1 ws) none) l
unfolding read_item dword
small_reads m [] h b l = impossible (omega arith)
small_reads m (a ∷ ws) h b l = rw b

list_reads : (m : Bool) (b : ℕ) (ws : List ℕ) → 1 + at 0 ws % 2 ^ b ≤ length ws → (l : List ℕ) → read_item m (list b) (take (1 + at 0 ws % 2 ^ b) ws ++ l) ≡ got (plain (take (1 + at 0 ws % 2 ^ b) ws) none) l
unfolding read_item dword
list_reads m b [] h l = impossible (omega arith)
list_reads m b (a ∷ ws) h l =
    let n : 1 + a % 2 ^ b ≡ suc (a % 2 ^ b) = omega arith in
    rw (n, some_of (take (a % 2 ^ b) ws) l (a % 2 ^ b) (length-take-le (a % 2 ^ b) ws (omega arith)))

-- ---- items
pub record Taken (m : Bool) (items : List Item) (rs ws : List ℕ) (r w : ℕ) (ps : List Tree) : Type 0 where
  pub rows : InFront (parts_table r w ps) (16 * parts_rows ps) rs
  pub words : InFront (parts_words ps) (length (parts_words ps)) ws
  pub exact : op.exact_parts ps ≡ true
  pub reads : read_items m items (parts_dwords ps) ≡ got ps []

module _ (m : Bool) (rs ws : List ℕ) (r w : ℕ) where
  taken_none : Taken m [] rs ws r w []
  unfolding parts_table parts_rows parts_words op.exact_parts read_items parts_dwords
  taken_none = record { rows = front_none rs; words = front_none ws; exact = refl; reads = refl }

  taken_more : (i : Item) (l : List Item) (x : Tree) (ps : List Tree) → Held (read_item m i) rs ws r w x → Taken m l (drop (16 * tree_rows x) rs) (drop (length (tree_words x)) ws) (r + tree_rows x) (w + length (tree_words x)) ps → Taken m (i ∷ l) rs ws r w (x ∷ ps)
  unfolding parts_table parts_rows parts_words op.exact_parts read_items parts_dwords
  taken_more i l x ps h g =
      record {
        rows = front_more (tree_table r w x) _ (16 * tree_rows x) (16 * parts_rows ps) (16 * (tree_rows x + parts_rows ps)) rs (omega arith) h.rows g.rows;
        words = front_more (tree_words x) (parts_words ps) (length (tree_words x)) (length (parts_words ps)) _ ws (sym (length-append (tree_words x) (parts_words ps))) h.words g.words;
        exact = rw h.exact g.exact;
        reads = rw (h.reads (parts_dwords ps), g.reads);
      }

  taken_tail : length ws ≤ length ws → Taken m (tail ∷ []) rs ws r w (plain (take (length ws) ws) none ∷ [])
  unfolding parts_table parts_rows parts_words op.exact_parts read_items read_item parts_dwords tree_table tree_rows tree_words op.exact op.dwords
  taken_tail h =
      let x : List ℕ = take (length ws) ws in
      record {
        rows = front_none rs;
        words = rw (append-nil x, append-nil x, length-take-le (length ws) ws h) (front_cut (length ws) ws);
        exact = refl;
        reads = rw (append-nil x, append-nil x);
      }

-- any item but a tail is read, whatever follows it
module _ (m : Bool) where
  sound_then : (i : Item) (l : List Item) → ((rs ws : List ℕ) (r w : ℕ) → Every (Held (read_item m i) rs ws r w) (confirm_item m i rs ws r w)) →
      ((rs ws : List ℕ) (r w : ℕ) → Every (Taken m l rs ws r w) (confirm_items m l rs ws r w)) → (rs ws : List ℕ) (r w : ℕ) → Every (Taken m (i ∷ l) rs ws r w) (confirm_items m (i ∷ l) rs ws r w)
  unfolding confirm_items
  sound_then i l f g rs ws r w =
      every_then (f rs ws r w) (λ x h.
      every_then (g (drop (16 * tree_rows x) rs) (drop (length (tree_words x)) ws) (r + tree_rows x) (w + length (tree_words x))) (λ ps k.
      met (taken_more m rs ws r w i l x ps h k)))

  sound_operand : (rs ws : List ℕ) (r w : ℕ) → Every (Held (read_item m o) rs ws r w) (confirm_item m o rs ws r w)
  unfolding confirm_item read_item
  sound_operand rs ws r w = sound_all 64 rs ws r w

  sound_dword : (rs ws : List ℕ) (r w : ℕ) → Every (Held (read_item m d) rs ws r w) (confirm_item m d rs ws r w)
  unfolding confirm_item read_item
  sound_dword rs ws r w = sound_words (read_item m d) 1 true rs ws r w (λ h b l. rw (some_of (take 1 ws) l 1 (length-take-le 1 ws h)))

  sound_small : (rs ws : List ℕ) (r w : ℕ) → Every (Held (read_item m small) rs ws r w) (confirm_item m small rs ws r w)
  unfolding confirm_item
  sound_small rs ws r w = sound_words (read_item m small) 1 (ltb (at 0 ws) 65_536) rs ws r w (small_reads m ws)

  sound_extra : (rs ws : List ℕ) (r w : ℕ) → Every (Held (read_item m s) rs ws r w) (confirm_item m s rs ws r w)
  unfolding confirm_item read_item
  sound_extra rs ws r w =
      let n : ℕ = cond m 1 0 in
      sound_words (read_item m s) n true rs ws r w (λ h b l. rw (some_of (take n ws) l n (length-take-le n ws h)))

  sound_list : (b : ℕ) (rs ws : List ℕ) (r w : ℕ) → Every (Held (read_item m (list b)) rs ws r w) (confirm_item m (list b) rs ws r w)
  unfolding confirm_item
  sound_list b rs ws r w = sound_words (read_item m (list b)) (1 + at 0 ws % 2 ^ b) true rs ws r w (λ h z. list_reads m b ws h)

  sound_tail : (l : List Item) → eqb (length l) 0 ≡ true → (rs ws : List ℕ) (r w : ℕ) → Every (Taken m (tail ∷ l) rs ws r w) (confirm_items m (tail ∷ l) rs ws r w)
  unfolding confirm_items confirm_item
  sound_tail (i ∷ l) h rs ws r w = let n = eqb-true (length (i ∷ l)) 0 h in impossible (omega arith)
  sound_tail [] h rs ws r w = every_then
      (every_if {Q = λ x. x ≡ plain (take (length ws) ws) none} (leb (length ws) (length ws) && true) _ _ (λ z. met refl) (λ z. unmet))
      (λ x e. met (subst (λ (y : Tree). Taken m (tail ∷ []) rs ws r w (y ∷ [])) (sym e) (taken_tail m rs ws r w (omega arith))))

  pub sound_items : (l : List Item) → tail_last l ≡ true → (rs ws : List ℕ) (r w : ℕ) → Every (Taken m l rs ws r w) (confirm_items m l rs ws r w)
  unfolding tail_last
  sound_items [] h rs ws r w = unfold confirm_items in met (taken_none m rs ws r w)
  sound_items (tail ∷ l) h rs ws r w = sound_tail l h rs ws r w
  sound_items (o ∷ l) h rs ws r w = sound_then o l sound_operand (sound_items l h) rs ws r w
  sound_items (d ∷ l) h rs ws r w = sound_then d l sound_dword (sound_items l h) rs ws r w
  sound_items (small ∷ l) h rs ws r w = sound_then small l sound_small (sound_items l h) rs ws r w
  sound_items (s ∷ l) h rs ws r w = sound_then s l sound_extra (sound_items l h) rs ws r w
  sound_items (list b ∷ l) h rs ws r w = sound_then (list b) l (sound_list b) (sound_items l h) rs ws r w

-- ---- what stands after a token
linked_chain : (b : Bool) (e l : List ℕ) → linked b e ≡ true → chain b (e ++ l) ≡ got e l
unfolding linked chain
linked_chain true [] l h = impossible (cc)
linked_chain true (x ∷ e) l h = rw (linked_chain (follows x) e l h)
linked_chain false [] [] h = refl
linked_chain false [] (x ∷ l) h = refl
linked_chain false (x ∷ e) l h = impossible (cc)

pub head_reads : (x : Layout) (t : ℕ) (e l : List ℕ) → head_taken x t e ≡ true → read_head x t (e ++ l) ≡ got e l
unfolding head_taken read_head
head_reads x t e l h = go (sized t) h
  where
    go : (b : Bool) → cond b (eqb (length e) 1) (linked (chained x && follows t) e) ≡ true → cond b (some 1) (chain (chained x && follows t)) (e ++ l) ≡ got e l
    go true h = some_of e l 1 (eqb-true (length e) 1 h)
    go false h = linked_chain (chained x && follows t) e l h
