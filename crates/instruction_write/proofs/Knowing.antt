-- From an instruction that was accepted to what is written of it.
use Prim.Native.Nat.{ℕ, ◌*◌, ◌<◌, ◌≤◌}
use mathlib.Core.Path.{◌≡◌, refl, sym, ◌∙◌, ap, subst}
use mathlib.Core.Bool.{Bool, true, false, cond, ◌&&◌}
use mathlib.Core.List.{List, [], ◌∷◌, ◌++◌, append-nil}
use Rattle.std.specs.Prelude.{Option, Some, None, IsSome}
use native.Mathlib.Omega.{arith}
use lib.ListN.{length, get_or, drop}
use lib.Seq.{slice}
use lib.Dec.{eqb}
use borrow.Author.Tests.{lt-ltb}
use Rattle.format.specs.Dwords.{Got, malformed, got, then, none_left}
use Rattle.format.specs.Framing.{code, code_of}
use Rattle.format.specs.Counts.{token_with, rising}
use Rattle.format.specs.Declarations.{Layout, layout, in_bounds}
use Rattle.format.specs.Operands as op
use Rattle.format.specs.Operands.{Tree}
use Rattle.format.specs.Instructions.{Instruction, unread, pieces, Reading, ok, inexact, read_head, read_items, split, fields_of, extensions, exact_class, exact_pieces, checked, judged, read, dwords}
use Rattle.format.specs.Rows.{tree_rows, tree_words, tree_table, parts_rows, parts_words, parts_table, top_level, parts, unread_row, instruction_row}
use Rattle.format.proofs.Dwords.{impossible, both}
use Rattle.format.proofs.Instructions.{makes_split, kept_ok, kept_fault, kept_judged, read_unknown}
use Rattle.layouts.specs.declared.Shape.{Shape}
use Rattle.layouts.specs.Shapes.{Laid, meant, items_of}
use Rattle.tokens.proofs.Places.{dword_at_lem}
use Rattle.tokens.specs.Chains.{ends}
use Rattle.instruction_fields.proofs.Heads.{Headed, head_off}
use Rattle.instruction_write.specs.Writes.{row_for, plain_row, RowReady, Put, BodyRoom, WroteBody, UnreadRoom, Unread, Ready, Stored, Written}
use Rattle.instruction_write.specs.declared.Sizes.{Sizes}
use Rattle.instruction_write.proofs.Parted.{three}

-- one reading in place of another that is the same
pub ready_at : {g h : Reading} {ds : List ℕ} {rows ops ws at row word : ℕ} → g ≡ h → Ready g ds rows ops ws at row word → Ready h ds rows ops ws at row word
ready_at {ds = ds} {rows = rows} {ops = ops} {ws = ws} {at = at} {row = row} {word = word} e r = subst (λ (k : Reading). Ready k ds rows ops ws at row word) e r

pub written_at : {g h : Reading} {at row word : ℕ} {is ops ws is' ops' ws' : List ℕ} {a : Sizes} → g ≡ h → Written h at row word is ops ws a is' ops' ws' → Written g at row word is ops ws a is' ops' ws'
written_at e w i q = w i (sym e ∙ q)

-- an instruction that was accepted, by a layout
pub record Accepted (m : Bool) (x : Layout) (t : ℕ) (ds : List ℕ) (i : Instruction) : Type 0 where
  pub exts : List ℕ
  pub trees : List Tree
  pub middle : List ℕ
  pub head : read_head x t (drop 1 ds) ≡ got exts middle
  pub items : read_items m x.items middle ≡ got trees []
  pub exact : exact_pieces x t exts trees ≡ true
  pub is : i ≡ pieces t exts trees

split_head : (m : Bool) (x : Layout) (t : ℕ) (ds : List ℕ) → 0 < length ds → t ≡ get_or ds 0 0 → split m x ds ≡ then (read_head x t (drop 1 ds)) (λ e r. then (read_items m x.items r) (λ ps. none_left (pieces t e ps)))
unfolding split
split_head m x t ds h et = rw (dword_at_lem ds 0 h, ← et)

pub accepted : (m : Bool) (x : Layout) (t : ℕ) (ds : List ℕ) (i : Instruction) → 0 < length ds → t ≡ get_or ds 0 0 → judged x (split m x ds) ≡ ok i → Accepted m x t ds i
unfolding judged checked none_left
accepted m x t ds i h et e = go (read_head x t (drop 1 ds)) refl (sym (ap (judged x) (split_head m x t ds h et)) ∙ e)
  where
    whole : (y r : List ℕ) (ps : List Tree) → read_head x t (drop 1 ds) ≡ got y r → read_items m x.items r ≡ got ps [] → (b : Bool) → exact_pieces x t y ps ≡ b → cond b (ok (pieces t y ps)) inexact ≡ ok i → Accepted m x t ds i
    whole y r ps p q true z w = let v : pieces t y ps ≡ i = cc in record { exts = y; trees = ps; middle = r; head = p; items = q; exact = z; is = sym v }
    whole y r ps p q false z w = impossible (cc)

    some : (y r : List ℕ) → read_head x t (drop 1 ds) ≡ got y r → (g : Got (List Tree)) → read_items m x.items r ≡ g → judged x (then g (λ ps. none_left (pieces t y ps))) ≡ ok i → Accepted m x t ds i
    some y r p malformed q z = kept_ok {P = λ j. Accepted m x t ds i} (kept_fault x) z
    some y r p (got ps []) q z = whole y r ps p q (exact_pieces x t y ps) refl z
    some y r p (got ps (u ∷ l)) q z = kept_ok {P = λ j. Accepted m x t ds i} (kept_fault x) z

    go : (g : Got (List ℕ)) → read_head x t (drop 1 ds) ≡ g → judged x (then g (λ y r. then (read_items m x.items r) (λ ps. none_left (pieces t y ps)))) ≡ ok i → Accepted m x t ds i
    go malformed p z = kept_ok {P = λ j. Accepted m x t ds i} (kept_fault x) z
    go (got y r) p z = some y r p (read_items m x.items r) refl z

exact_rises : (x : Layout) (t : ℕ) (e : List ℕ) (ps : List Tree) → exact_pieces x t e ps ≡ true → rising 0 (extensions x e) ≡ true
unfolding exact_pieces
exact_rises x t e ps z =
    let a : Bool = eqb t (token_with (code t) (fields_of x t)) in
    let b : Bool = rising 0 (extensions x e) in
    let c : Bool = in_bounds x.field t in
    let k : Bool = exact_class x t ps in
    let y₁ = both (a && b && c && k) (op.exact_parts ps) z in
    let y₂ = both (a && b && c) k y₁.0 in
    let y₃ = both (a && b) c y₂.0 in
    (both a b y₃.0).1

as_row : (at row word t : ℕ) (e : List ℕ) (ps : List Tree) → row_for (layout (code t)) t e at (length (dwords (pieces t e ps))) row (top_level ps) word (length (parts_words ps)) ≡ instruction_row at row word (pieces t e ps)
unfolding row_for instruction_row
as_row at row word t e ps = refl

module _ (m : Bool) (s : Shape) (t : ℕ) (ds : List ℕ) (et : t ≡ get_or ds 0 0) (la : Laid (code t) s) {rows ops ws at row word : ℕ}
    (q : Ready (judged (layout (code t)) (split m (layout (code t)) ds)) ds rows ops ws at row word) where
  pub same_layout : judged (meant s) (split m (meant s) ds) ≡ judged (layout (code t)) (split m (layout (code t)) ds)
  same_layout = ap (λ (x : Layout). judged x (split m x ds)) la.meaning

  pub acc : Accepted m (meant s) t ds q.instruction
  acc = accepted m (meant s) t ds q.instruction q.some et (same_layout ∙ q.is)

  -- the place behind its head is known
  pub headed : (k : Option ℕ) → k ≡ ends 1 (read_head (meant s) t (drop 1 ds)) → IsSome k
  headed None e =
      let z : read_head (meant s) t (drop 1 ds) ≡ malformed = head_off (meant s) t ds e refl in
      let y : malformed ≡ got acc.exts acc.middle = sym z ∙ acc.head in
      impossible (cc)
  headed (Some b) e = refl

  pub parts_are : {i : Instruction} {e : List ℕ} {ps : List Tree} → i ≡ pieces t e ps → parts i ≡ ps
  unfolding parts
  parts_are e = ap parts e

  module _ {b : ℕ} (hd : Headed (meant s) t ds b) where
    middle_is : acc.middle ≡ drop b ds
    middle_is = let y : got acc.exts acc.middle ≡ got (slice 1 b ds) (drop b ds) = sym acc.head ∙ hd.is in cc

    exts_are : acc.exts ≡ slice 1 b ds
    exts_are = let y : got acc.exts acc.middle ≡ got (slice 1 b ds) (drop b ds) = sym acc.head ∙ hd.is in cc

    items_are : read_items m (items_of s) (drop b ds) ≡ got acc.trees []
    items_are = ap (read_items m (items_of s)) (sym middle_is) ∙ acc.items

    pub known_room : BodyRoom (read_items m (items_of s) (drop b ds)) (length ds) b ops ws row word
    known_room =
        let e : parts q.instruction ≡ acc.trees = parts_are acc.is in
        let r : parts_rows (parts q.instruction) ≡ parts_rows acc.trees = ap parts_rows e in
        let w : length (parts_words (parts q.instruction)) ≡ length (parts_words acc.trees) = ap (λ (l : List Tree). length (parts_words l)) e in
        record {
          room = record {
            trees = acc.trees;
            rest = [];
            is = items_are;
            within = hd.within;
            for_rows = omega (arith, q.for_rows);
            for_words = omega (arith, q.for_words);
            row_fits = omega (arith, q.row_fits);
            word_fits = omega (arith, q.word_fits);
            few = omega (arith, q.at_fits);
          };
          whole = refl;
        }

    module _ {L W L' W' : List ℕ} {a : Sizes} (wr : WroteBody (read_items m (items_of s) (drop b ds)) row word L W a L' W') where
      body_put : Put acc.trees row word L W a.rows a.words L' W'
      body_put = wr acc.trees items_are

      pub row_ready : RowReady s ds b a.words
      row_ready =
          let e : parts q.instruction ≡ acc.trees = parts_are acc.is in
          let w : length (parts_words (parts q.instruction)) ≡ length (parts_words acc.trees) = ap (λ (l : List Tree). length (parts_words l)) e in
          let z = body_put.words_are in
          record {
            sound = la.sound;
            from = hd.begun;
            within = hd.within;
            rises = ap (λ (l : List ℕ). rising 0 (extensions (meant s) l)) (sym exts_are) ∙ exact_rises (meant s) t acc.exts acc.trees acc.exact;
            few = omega (arith, q.at_fits);
            words_fit = omega (arith, q.word_fits);
          }

      pub known_written : (R is is' : List ℕ) → R ≡ row_for (meant s) t (slice 1 b ds) at (length ds) row s.operands word a.words → is' ≡ R ++ drop 16 is
          → Written (judged (layout (code t)) (split m (layout (code t)) ds)) at row word is L W a is' L' W'
      known_written R is is' eR ei i g =
          let v₀ : ok q.instruction ≡ ok i = sym q.is ∙ g in
          let v : q.instruction ≡ i = cc in
          let u : i ≡ pieces t acc.exts acc.trees = sym v ∙ acc.is in
          let dw : dwords i ≡ ds = kept_ok {P = λ j. dwords j ≡ ds} (kept_judged (layout (code t)) (makes_split m (layout (code t)) ds)) g in
          let n : length ds ≡ length (dwords (pieces t acc.exts acc.trees)) = ap length (sym dw ∙ ap dwords u) in
          let tp : s.operands ≡ top_level acc.trees = sym (three m s ds b acc.trees hd.within items_are).top_is in
          let row_is : R ≡ instruction_row at row word (pieces t acc.exts acc.trees) =
          eR ∙ (λ z. row_for (la.meaning z) t (sym exts_are z) at (n z) row (tp z) word (body_put.words_are z)) ∙ as_row at row word t acc.exts acc.trees in
          record {
            row_put = ei ∙ ap (λ (l : List ℕ). l ++ drop 16 is) (row_is ∙ ap (instruction_row at row word) (sym u));
            put = subst (λ (l : List Tree). Put l row word L W a.rows a.words L' W') (sym (parts_are u)) body_put;
          }

-- a code not known
pub read_here : (c : ℕ) (m : Bool) (ds : List ℕ) (t : ℕ) → t ≡ get_or ds 0 0 → code t < c → read c m ds ≡ judged (layout (code t)) (split m (layout (code t)) ds)
unfolding read code_of
read_here c m ds t et k = rw (← et, lt-ltb (code t) c k)

unread_words : (ds : List ℕ) → parts_words (parts (unread ds)) ≡ ds
unfolding parts parts_words tree_words
unread_words ds = append-nil (ds ++ []) ∙ append-nil ds

unread_rows : (ds : List ℕ) → parts_rows (parts (unread ds)) ≡ 0
unfolding parts parts_rows tree_rows
unread_rows ds = refl

unread_table : (r w : ℕ) (ds : List ℕ) → parts_table r w (parts (unread ds)) ≡ []
unfolding parts parts_table tree_table
unread_table r w ds = refl

unread_row_is : (ds : List ℕ) (at row word c : ℕ) → c ≡ code_of ds → plain_row (length ds) c at row word ≡ instruction_row at row word (unread ds)
unfolding instruction_row unread_row
unread_row_is ds at row word c e = ap (λ (k : ℕ). plain_row (length ds) k at row word) e

module _ (c : ℕ) (m : Bool) (ds : List ℕ) (t : ℕ) (et : t ≡ get_or ds 0 0) (h : c ≤ code t) where
  code_is : code t ≡ code_of ds
  unfolding code_of
  code_is = ap code et

  unread_is : read c m ds ≡ ok (unread ds)
  unread_is = read_unknown c m ds (omega (arith, code_is))

  pub unread_room : {rows ops ws at row word : ℕ} → Ready (read c m ds) ds rows ops ws at row word → UnreadRoom (length ds) rows ws
  unread_room q =
      let v₀ : ok (unread ds) ≡ ok q.instruction = sym unread_is ∙ q.is in
      let v : unread ds ≡ q.instruction = cc in
      let w : length (parts_words (parts q.instruction)) ≡ length ds = ap (λ (i : Instruction). length (parts_words (parts i))) (sym v) ∙ ap length (unread_words ds) in
      record { few = omega (arith, q.at_fits); for_row = q.for_row; for_words = omega (arith, q.for_words) }

  pub unread_written : {at row word : ℕ} {is ws is' ws' : List ℕ} {a : Sizes} (ops : List ℕ) → Unread ds (code t) at row word is ws a is' ws' → Written (read c m ds) at row word is ops ws a is' ops ws'
  unread_written {at} {row} {word} {is} {ws} {is'} {ws'} {a} ops u i g =
      let v₀ : ok (unread ds) ≡ ok i = sym unread_is ∙ g in
      let v : unread ds ≡ i = cc in
      subst (λ (j : Instruction). Stored j at row word is ops ws a is' ops ws') v
      (record {
        row_put = u.row_put ∙ ap (λ (l : List ℕ). l ++ drop 16 is) (unread_row_is ds at row word (code t) code_is);
        put = record {
          rows_are = u.rows_are ∙ sym (unread_rows ds);
          words_are = u.words_are ∙ sym (ap length (unread_words ds));
          rows_put = λ z. sym (unread_table row word ds) z ++ drop (16 * sym (unread_rows ds) z) ops;
          words_put = u.words_put ∙ (λ z. sym (unread_words ds) z ++ drop (length (sym (unread_words ds) z)) ws);
        };
      })
