-- Operands that are written one after the other.
use Prim.Native.Nat.{ℕ, zero, suc, ◌+◌, ◌-◌, ◌*◌, ◌/◌, ◌<◌, ◌≤◌}
use mathlib.Core.Path.{◌≡◌, refl, sym, ap, ◌∙◌}
use mathlib.Core.List.{List, [], ◌∷◌, ◌++◌}
use mathlib.Core.Option.{Option, none as nothing, some as just}
use native.Mathlib.Omega.{arith}
use lib.ListN.{length, drop, length-append}
use lib.Seq.{drop-drop}
use Rattle.format.specs.Dwords.{bytes_of}
use Rattle.format.specs.Operands as op
use Rattle.format.specs.Operands.{Tree}
use Rattle.format.specs.Rows.{tree_rows, tree_words, parts_rows, parts_words}
use Rattle.operand_deep.specs.Confirm.{Confirms, ◌>>=◌, confirm, behind}
use Rattle.operand_deep.proofs.Every.{met, every_then, every_of}
use Rattle.output.specs.Puts.{put}
use Rattle.output.proofs.Puts.{dwords_length, dwords_none, dwords_more}
use Rattle.operand_emit.specs.Emits as emits
use Rattle.operand_emit.specs.Emits.{standing, tree_in}
use Rattle.operand_emit.specs.declared.Place.{Place}
use Rattle.operand_emit.proofs.Opened.{every_self}
use Rattle.operand_emit.proofs.Trees.{number_behind}

-- n operands, one after the other
unfoldable pub confirm_run : ℕ → Confirms (List Tree)
confirm_run zero rs ws r w = just []
confirm_run (suc n) rs ws r w = do
  x ← confirm 64 rs ws r w
  xs ← behind x (confirm_run n) rs ws r w
  just (x ∷ xs)

-- those of two pools from a row that begins at a place, and from a word on
abbrev pub run_at : ℕ → List ℕ → List ℕ → ℕ → ℕ → Option (List Tree)
run_at n rs ws operand w = confirm_run n (drop operand rs) (drop w ws) (operand / 16) w

abbrev pub trees_in : Option (List Tree) → List Tree
trees_in nothing = []
trees_in (just xs) = xs

-- there are so many operands, and there is room for their dwords
pub record RunReady (o : Option (List Tree)) (place n : ℕ) : Type 0 where
  pub trees : List Tree
  pub is : o ≡ just trees
  pub room : 4 * (place + length (op.parts_dwords trees)) ≤ n

-- their dwords stand there
pub record Ran (o : Option (List Tree)) (operand word place : ℕ) (out : List ℕ) (ends : Place) (out' : List ℕ) : Type 0 where
  pub output_is : out' ≡ put (4 * place) (bytes_of (op.parts_dwords (trees_in o))) out
  pub operand_is : ends.operand ≡ operand + 16 * parts_rows (trees_in o)
  pub word_is : ends.word ≡ word + length (parts_words (trees_in o))
  pub at_is : ends.at ≡ place + length (op.parts_dwords (trees_in o))

-- ---- operands, one after the other: the first, and those behind it
record First (n : ℕ) (rs ws : List ℕ) (r w : ℕ) (xs : List Tree) : Type 0 where
  tree : Tree
  more : List Tree
  one : standing (confirm 64) rs ws r w ≡ just tree
  others : run_at n rs ws (r + 16 * tree_rows tree) (w + length (tree_words tree)) ≡ just more
  all : xs ≡ tree ∷ more

first_of : (n : ℕ) (rs ws : List ℕ) (r w : ℕ) (xs : List Tree) → run_at (suc n) rs ws r w ≡ just xs → First n rs ws r w xs
unfolding confirm_run
first_of n rs ws r w xs e = every_of {P = First n rs ws r w} e (
    every_then (every_self (standing (confirm 64) rs ws r w)) (λ x p.
    every_then (every_self (behind x (confirm_run n) (drop r rs) (drop w ws) (r / 16) w)) (λ more k.
    met (
    record {
      tree = x;
      more = more;
      one = p;
      others =
          let e₁ : drop (16 * tree_rows x) (drop r rs) ≡ drop (r + 16 * tree_rows x) rs = drop-drop (16 * tree_rows x) r rs in
          rw (number_behind r (tree_rows x) (r + 16 * tree_rows x) refl) (rw (e₁, drop-drop (length (tree_words x)) w ws) at k);
      all = refl;
    }
    )))
    )

none_left : (rs ws : List ℕ) (r w : ℕ) (xs : List Tree) → run_at 0 rs ws r w ≡ just xs → [] ≡ xs
unfolding confirm_run
none_left rs ws r w xs e = cc

-- what holds at the loop's head: written behind what stands there, the dwords of the operands left make up all
pub record Running (rs ws : List ℕ) (operand word count place : ℕ) (out₀ : List ℕ) (x : Place) (i : ℕ) (out : List ℕ) : Type 0 where
  pub ready : RunReady (run_at count rs ws operand word) place (length out₀)
  pub left : List Tree
  pub turn : i ≤ count
  pub run : run_at (count - i) rs ws x.operand x.word ≡ just left
  pub operand_is : x.operand + 16 * parts_rows left ≡ operand + 16 * parts_rows ready.trees
  pub word_is : x.word + length (parts_words left) ≡ word + length (parts_words ready.trees)
  pub at_is : x.at + length (op.parts_dwords left) ≡ place + length (op.parts_dwords ready.trees)
  pub is : put (4 * x.at) (bytes_of (op.parts_dwords left)) out ≡ put (4 * place) (bytes_of (op.parts_dwords ready.trees)) out₀
  pub long : length out ≡ length out₀

module _ (rs ws : List ℕ) (operand word count place : ℕ) (out₀ : List ℕ) where
  pub begin : RunReady (run_at count rs ws operand word) place (length out₀) → Running rs ws operand word count place out₀ (record { operand = operand; word = word; at = place }) 0 out₀
  begin g = record {
    ready = g;
    left = g.trees;
    turn = omega arith;
    run = let e : count - 0 ≡ count = omega arith in rw e g.is;
    operand_is = refl;
    word_is = refl;
    at_is = refl;
    is = refl;
    long = refl;
  }

  module _ {x : Place} {i : ℕ} {out : List ℕ} (g : Running rs ws operand word count place out₀ x i out) where
    module _ (h : i < count) where
      head : First (count - (i + 1)) rs ws x.operand x.word g.left
      head =
          let e : count - i ≡ suc (count - (i + 1)) = omega arith in
          first_of (count - (i + 1)) rs ws x.operand x.word g.left (rw e at g.run)

      abbrev t : Tree
      t = head.tree

      record Sizes : Type 0 where
        rows : parts_rows g.left ≡ tree_rows t + parts_rows head.more
        words : length (parts_words g.left) ≡ length (tree_words t) + length (parts_words head.more)
        dwords : op.parts_dwords g.left ≡ op.dwords t ++ op.parts_dwords head.more

      sizes : Sizes
      unfolding parts_rows parts_words op.parts_dwords
      sizes = record {
        rows = ap parts_rows head.all;
        words = ap (λ (l : List Tree). length (parts_words l)) head.all ∙ length-append (tree_words t) (parts_words head.more);
        dwords = ap op.parts_dwords head.all;
      }

      room : 4 * (x.at + length (op.dwords t)) ≤ length out
      room = omega (arith, g.ready.room, g.at_is, g.long, ap length sizes.dwords, length-append (op.dwords t) (op.parts_dwords head.more))

      pub turn_ready : emits.Ready (standing (confirm 64) rs ws x.operand x.word) x.at (length out)
      turn_ready = record { tree = t; is = head.one; room = room }

      pub turns : {y : Place} {out' : List ℕ} → emits.Emitted (standing (confirm 64) rs ws x.operand x.word) x.operand x.word x.at out y out' → Running rs ws operand word count place out₀ y (i + 1) out'
      turns {y} {out'} k =
          let z : tree_in (standing (confirm 64) rs ws x.operand x.word) ≡ t = ap tree_in head.one in
          let er : y.operand ≡ x.operand + 16 * tree_rows t = rw z at k.operand_is in
          let ew : y.word ≡ x.word + length (tree_words t) = rw z at k.word_is in
          let ea : y.at ≡ x.at + length (op.dwords t) = rw z at k.at_is in
          let eo : out' ≡ put (4 * x.at) (bytes_of (op.dwords t)) out = rw z at k.output_is in
          record {
            ready = g.ready;
            left = head.more;
            turn = omega arith;
            run = rw (er, ew) head.others;
            operand_is = omega (arith, er, g.operand_is, sizes.rows);
            word_is = omega (arith, ew, g.word_is, sizes.words);
            at_is = omega (arith, ea, g.at_is, ap length sizes.dwords, length-append (op.dwords t) (op.parts_dwords head.more));
            is = dwords_more x.at y.at (op.dwords t) (op.parts_dwords head.more) out room ea eo refl ∙ ap (λ (l : List ℕ). put (4 * x.at) (bytes_of l) out) (sym sizes.dwords) ∙ g.is;
            long = ap length eo ∙ dwords_length x.at (op.dwords t) out room ∙ g.long;
          }

    pub ended : count ≤ i → Ran (run_at count rs ws operand word) operand word place out₀ x out
    unfolding parts_rows parts_words op.parts_dwords
    ended h =
        let z : count - i ≡ 0 = omega (arith, g.turn) in
        let e : [] ≡ g.left = none_left rs ws x.operand x.word g.left (rw z at g.run) in
        let a : trees_in (run_at count rs ws operand word) ≡ g.ready.trees = ap trees_in g.ready.is in
        record {
          output_is = dwords_none x.at out ∙ ap (λ (l : List Tree). put (4 * x.at) (bytes_of (op.parts_dwords l)) out) e ∙ g.is ∙ ap (λ (l : List Tree). put (4 * place) (bytes_of (op.parts_dwords l)) out₀) (sym a);
          operand_is = omega (arith, g.operand_is, ap parts_rows e, ap parts_rows a);
          word_is = omega (arith, g.word_is, ap (λ (l : List Tree). length (parts_words l)) e, ap (λ (l : List Tree). length (parts_words l)) a);
          at_is = omega (arith, g.at_is, ap (λ (l : List Tree). length (op.parts_dwords l)) e, ap (λ (l : List Tree). length (op.parts_dwords l)) a);
        }
