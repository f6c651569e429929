-- The rows and words of an accepted chunk fit the pools that 10 asks for, and every number in them fits 32 bits.
use Prim.Native.Nat.{ℕ, zero, suc, ◌+◌, ◌*◌, ◌-◌, ◌/◌, ◌%◌, ◌^◌, ◌≤◌, ◌<◌}
use mathlib.Core.Path.{◌≡◌, ap, ◌∙◌}
use mathlib.Core.List.{List, [], ◌∷◌, ◌++◌, append-nil}
use mathlib.Core.Bool.{Bool, true, false, cond, ◌&&◌}
use lib.ListN.{length, get_or, drop, length-append, length-drop}
use lib.Dec.{ltb, eqb, lit<, lit≤}
use native.Mathlib.Omega.{arith}
use native.Mathlib.Nat.{mod-le}
use borrow.Author.Tests.{eqb-true}
use Rattle.format.specs.Dwords.{Bytes, dword_of, dwords_of, bits}
use Rattle.format.specs.Framing.{code, code_of, long}
use Rattle.format.specs.Counts.{token_with, extension_type, rising, of_type, type_bits}
use Rattle.format.specs.Declarations.{Layout, layout, chained}
use Rattle.format.specs.Operands as op
use Rattle.format.specs.Operands.{Tree, none, plain, node}
use Rattle.format.specs.Instructions.{Instruction, unread, pieces, fields_of, extensions, dwords}
use Rattle.format.specs.Rows.{placed, word_place, child_row, tree_words, tree_rows, operand_row, tree_table, parts_words, parts_rows, parts_table, top_level, parts, unread_row, instruction_row, instruction_rows, all_parts}
use Rattle.format.specs.Refusals.{Pools, Rows}
use Rattle.format.specs.Encoder.{held, Gives}
use Rattle.format.proofs.Dwords.{impossible, length_dwords}
use Rattle.format.proofs.Rows.{all_fit, rows_length, parts_length, rows_append, words_append, table_append, four_lengths}
use Rattle.format.proofs.Chains.{rose}
use Rattle.format.proofs.Remade.{Sound, not_read, exact_read, every_kind, read_sound}
use Rattle.format.proofs.Instructions.{kept_ok, read_restores}
use Rattle.format.proofs.Refusals.{Reads, nil, cons, reads_dwords, Chunk, chunk_accepted}
use Rattle.format.proofs.Encoder.{rows_of, given}

-- ---- every one of some numbers fits 32 bits
pub data Fit : List ℕ → Type 0 where
  empty : Fit []
  also : (x : ℕ) {l : List ℕ} → x < 2 ^ 32 → Fit l → Fit (x ∷ l)

pub fit_append : {x y : List ℕ} → Fit x → Fit y → Fit (x ++ y)
fit_append empty g = g
fit_append (also x h f) g = also x h (fit_append f g)

pub fit_front : (x y : List ℕ) → Fit (x ++ y) → Fit x
fit_front [] y f = empty
fit_front (a ∷ x) y f = go f (fit_front x y)
  where
    go : Fit (a ∷ (x ++ y)) → (Fit (x ++ y) → Fit x) → Fit (a ∷ x)
    go (also x h f) k = also x h (k f)

pub fit_back : (x y : List ℕ) → Fit (x ++ y) → Fit y
fit_back [] y f = f
fit_back (a ∷ x) y f = fit_back x y (go f)
  where
    go : Fit (a ∷ (x ++ y)) → Fit (x ++ y)
    go (also x h f) = f

pub fit_all : {l : List ℕ} → Fit l → (i : ℕ) → i < length l → get_or l i 0 < 2 ^ 32
fit_all empty i h = impossible (omega arith)
fit_all (also x k f) zero h = k
fit_all (also x k f) (suc i) h = fit_all f i (omega arith)

fit_dwords : (l : List ℕ) → Bytes l → Fit (dwords_of l)
unfolding dwords_of
fit_dwords [] b = empty
fit_dwords (x ∷ []) b = empty
fit_dwords (x ∷ y ∷ []) b = empty
fit_dwords (x ∷ y ∷ z ∷ []) b = empty
fit_dwords (x ∷ y ∷ z ∷ w ∷ l) b =
    let hx : x < 256 = b 0 (omega arith) in
    let hy : y < 256 = b 1 (omega arith) in
    let hz : z < 256 = b 2 (omega arith) in
    let hw : w < 256 = b 3 (omega arith) in
    also (dword_of x y z w) (omega arith) (fit_dwords l (λ i h. b (suc (suc (suc (suc i)))) (omega arith)))

pub fit_drop : (n : ℕ) {l : List ℕ} → Fit l → Fit (drop n l)
fit_drop zero f = f
fit_drop (suc n) empty = empty
fit_drop (suc n) (also x h f) = fit_drop n f

cond_below : (b : Bool) (x y : ℕ) {n : ℕ} → x < n → y < n → cond b x y < n
cond_below true x y h k = h
cond_below false x y h k = k

-- ---- words are dwords
fit_words : (t : Tree) → Fit (op.dwords t) → Fit (tree_words t)
unfolding op.dwords tree_words
fit_words none f = empty
fit_words (plain x c) f = fit_append (fit_front x (op.dwords c) f) (fit_words c (fit_back x (op.dwords c) f))
fit_words (node t e m a b c) f =
    let f₁ = fit_front (t ∷ e ++ m ++ op.dwords a ++ op.dwords b) (op.dwords c) f in
    let f₂ = fit_front (t ∷ e ++ m ++ op.dwords a) (op.dwords b) f₁ in
    let f₃ = fit_front (t ∷ e ++ m) (op.dwords a) f₂ in
    fit_append (fit_append (fit_append (fit_back (t ∷ e) m f₃) (fit_words a (fit_back (t ∷ e ++ m) (op.dwords a) f₂))) (fit_words b (fit_back (t ∷ e ++ m ++ op.dwords a) (op.dwords b) f₁))) (fit_words c (fit_back (t ∷ e ++ m ++ op.dwords a ++ op.dwords b) (op.dwords c) f))

fit_parts_words : (ps : List Tree) → Fit (op.parts_dwords ps) → Fit (parts_words ps)
unfolding op.parts_dwords parts_words
fit_parts_words [] f = empty
fit_parts_words (x ∷ l) f = fit_append (fit_words x (fit_front (op.dwords x) (op.parts_dwords l) f)) (fit_parts_words l (fit_back (op.dwords x) (op.parts_dwords l) f))

-- ---- operand rows, where all rows and words are fewer than 2 ^ 32
modifiers_fit : (e : List ℕ) → op.modifiers e < 2 ^ 32
unfolding op.modifiers
modifiers_fit [] = omega arith
modifiers_fit (x ∷ l) = omega arith

form_fits : (t : ℕ) → op.form t < 2 ^ 32
unfolding op.form
form_fits t = cond_below (eqb (t % 2 ^ 2) 1) 1 _ (omega arith) (cond_below (eqb (t % 2 ^ 2) 2 && ltb (bits 2 3 t) 3) (2 + bits 2 3 t) 0 (omega arith) (omega arith))

below : (a b n t : ℕ) → a ≤ t → t < n → a % b < n
below a b n t h k = omega (arith, mod-le a b)

fields_fit : (t : ℕ) → t < 2 ^ 32 → (op.selection t < 2 ^ 32) × (op.reprs t < 2 ^ 32)
unfolding op.selection op.reprs
fields_fit t h = (below (t / 2 ^ 4) _ (2 ^ 32) t (omega arith) h, below (t / 2 ^ 22) _ (2 ^ 32) t (omega arith) h)

place_fits : (u : Bool) (p : ℕ) → p < 2 ^ 32 → placed u p < 2 ^ 32
place_fits u p h = cond_below u p 0 h (omega arith)

word_fits : (i p : ℕ) → p < 2 ^ 32 → word_place i p < 2 ^ 32
word_fits i p h = place_fits (ltb 0 (op.own i)) p h

child_fits : (i p : ℕ) → p < 2 ^ 32 → child_row i p < 2 ^ 32
child_fits i p h = place_fits (op.nests i) p h

-- what is left of a tree's rows, words and dwords
record Within (r w : ℕ) (x : Tree) : Type 0 where
  rows : r + tree_rows x < 2 ^ 32
  words : w + length (tree_words x) < 2 ^ 32
  dwords : length (op.dwords x) < 2 ^ 32

record Node (r w : ℕ) (m : List ℕ) (a b c : Tree) : Type 0 where
  rows : r + 1 + tree_rows a + tree_rows b + tree_rows c < 2 ^ 32
  words : w + length m + length (tree_words a) + length (tree_words b) + length (tree_words c) < 2 ^ 32

within_node : (r w t : ℕ) (e m : List ℕ) (a b c : Tree) → Within r w (node t e m a b c) → Node r w m a b c
unfolding tree_rows tree_words
within_node r w t e m a b c n = record { rows = omega (arith, n.rows); words = omega (arith, n.words, four_lengths m (tree_words a) (tree_words b) (tree_words c)) }

fit_row : (r w t : ℕ) (e m : List ℕ) (a b c : Tree) → t < 2 ^ 32 → Within r w (node t e m a b c) → Fit (operand_row r w t e m a b c)
unfolding operand_row
fit_row r w t e m a b c ht n =
    let k = within_node r w t e m a b c n in
    let f = fields_fit t ht in
    let w₁ : ℕ = w + length m + length (tree_words a) in
    also (op.type_of t) (omega arith) (also (op.form t) (form_fits t) (also (op.selection t) f.0 (also (op.modifiers e) (modifiers_fit e)
    (also (placed (ltb 0 (length m)) w) (place_fits (ltb 0 (length m)) w (omega (arith, k.words))) (also (length m) (omega (arith, k.words)) (also (op.dimension t) (omega arith) (also (op.reprs t) f.1
    (also (word_place (op.repr 0 t) (w + length m)) (word_fits (op.repr 0 t) (w + length m) (omega (arith, k.words)))
    (also (word_place (op.repr 1 t) w₁) (word_fits (op.repr 1 t) w₁ (omega (arith, k.words)))
    (also (word_place (op.repr 2 t) (w₁ + length (tree_words b))) (word_fits (op.repr 2 t) (w₁ + length (tree_words b)) (omega (arith, k.words)))
    (also (child_row (op.repr 0 t) (r + 1)) (child_fits (op.repr 0 t) (r + 1) (omega (arith, k.rows)))
    (also (child_row (op.repr 1 t) (r + 1 + tree_rows a)) (child_fits (op.repr 1 t) (r + 1 + tree_rows a) (omega (arith, k.rows)))
    (also (child_row (op.repr 2 t) (r + 1 + tree_rows a + tree_rows b)) (child_fits (op.repr 2 t) (r + 1 + tree_rows a + tree_rows b) (omega (arith, k.rows)))
    (also (tree_rows (node t e m a b c)) (omega (arith, n.rows)) (also (length (op.dwords (node t e m a b c))) n.dwords empty)))))))))))))))

record Parts (r w : ℕ) (t : ℕ) (m : List ℕ) (a b c : Tree) : Type 0 where
  token : t < 2 ^ 32
  fit_a : Fit (op.dwords a)
  fit_b : Fit (op.dwords b)
  fit_c : Fit (op.dwords c)
  first : Within (r + 1) (w + length m) a
  second : Within (r + 1 + tree_rows a) (w + length m + length (tree_words a)) b
  third : Within (r + 1 + tree_rows a + tree_rows b) (w + length m + length (tree_words a) + length (tree_words b)) c

head_fits : {t : ℕ} {l : List ℕ} → Fit (t ∷ l) → t < 2 ^ 32
head_fits (also x h f) = h

node_parts : (r w t : ℕ) (e m : List ℕ) (a b c : Tree) → Fit (op.dwords (node t e m a b c)) → Within r w (node t e m a b c) → Parts r w t m a b c
unfolding op.dwords
node_parts r w t e m a b c f n =
    let k = within_node r w t e m a b c n in
    let f₁ = fit_front (t ∷ e ++ m ++ op.dwords a ++ op.dwords b) (op.dwords c) f in
    let f₂ = fit_front (t ∷ e ++ m ++ op.dwords a) (op.dwords b) f₁ in
    let l = four_lengths (t ∷ e ++ m) (op.dwords a) (op.dwords b) (op.dwords c) in
    record {
      token = head_fits f;
      fit_a = fit_back (t ∷ e ++ m) (op.dwords a) f₂;
      fit_b = fit_back (t ∷ e ++ m ++ op.dwords a) (op.dwords b) f₁;
      fit_c = fit_back (t ∷ e ++ m ++ op.dwords a ++ op.dwords b) (op.dwords c) f;
      first = record { rows = omega (arith, k.rows); words = omega (arith, k.words); dwords = omega (arith, n.dwords, l) };
      second = record { rows = omega (arith, k.rows); words = omega (arith, k.words); dwords = omega (arith, n.dwords, l) };
      third = record { rows = omega (arith, k.rows); words = omega (arith, k.words); dwords = omega (arith, n.dwords, l) };
    }

fit_table : (r w : ℕ) (x : Tree) → Fit (op.dwords x) → Within r w x → Fit (tree_table r w x)
unfolding tree_table
fit_table r w none f n = empty
fit_table r w (plain x c) f n = fit_table r (w + length x) c (unfold op.dwords in fit_back x (op.dwords c) f) (unfold tree_rows tree_words op.dwords in record { rows = n.rows; words = omega (arith, n.words, length-append x (tree_words c)); dwords = omega (arith, n.dwords, length-append x (op.dwords c)) })
fit_table r w (node t e m a b c) f n =
    let p = node_parts r w t e m a b c f n in
    fit_append (fit_append (fit_append (fit_row r w t e m a b c p.token n) (fit_table (r + 1) (w + length m) a p.fit_a p.first)) (fit_table (r + 1 + tree_rows a) (w + length m + length (tree_words a)) b p.fit_b p.second)) (fit_table (r + 1 + tree_rows a + tree_rows b) (w + length m + length (tree_words a) + length (tree_words b)) c p.fit_c p.third)

fit_parts : (r w : ℕ) (ps : List Tree) → Fit (op.parts_dwords ps) → r + parts_rows ps < 2 ^ 32 → w + length (parts_words ps) < 2 ^ 32 → length (op.parts_dwords ps) < 2 ^ 32 → Fit (parts_table r w ps)
unfolding op.parts_dwords parts_rows parts_words parts_table
fit_parts r w [] f hr hw hd = empty
fit_parts r w (x ∷ l) f hr hw hd =
    let n = length-append (tree_words x) (parts_words l) in
    let k = length-append (op.dwords x) (op.parts_dwords l) in
    fit_append
    (fit_table r w x (fit_front (op.dwords x) (op.parts_dwords l) f) (record { rows = omega arith; words = omega (arith, n); dwords = omega (arith, k) }))
    (fit_parts (r + tree_rows x) (w + length (tree_words x)) l (fit_back (op.dwords x) (op.parts_dwords l) f) (omega arith) (omega (arith, n)) (omega (arith, k)))

-- ---- instruction rows
power : (n : ℕ) → n < 4 → 2 ^ (n - 1) ≤ 4
power zero h = lit≤ tt
power (suc zero) h = lit≤ tt
power (suc (suc zero)) h = lit≤ tt
power (suc (suc (suc zero))) h = lit≤ tt
power (suc (suc (suc (suc n)))) h = impossible (omega arith)

type_bits_lem : (k : ℕ) (l : List ℕ) → rising k l ≡ true → type_bits l ≤ 4 * length l
unfolding type_bits
type_bits_lem k [] h = omega arith
type_bits_lem k (e ∷ l) h = let r = rose k e l h in omega (arith, power (extension_type e) r.less, type_bits_lem (extension_type e) l r.then)

chain_length : (x : Layout) (e : List ℕ) → length (extensions x e) ≤ length e
unfolding extensions
chain_length x e = go (chained x)
  where
    go : (b : Bool) → length (cond b e []) ≤ length e
    go true = omega arith
    go false = omega arith

top_fits : (ps : List Tree) → top_level ps ≤ parts_rows ps
unfolding top_level parts_rows tree_rows
top_fits [] = omega arith
top_fits (none ∷ l) = omega (arith, top_fits l)
top_fits (plain x c ∷ l) = omega (arith, top_fits l)
top_fits (node t e m a b c ∷ l) = omega (arith, top_fits l)

kind_fits : (c : ℕ) → (layout c).kind < 2 ^ 32
kind_fits c = every_kind (λ k. k < 2 ^ 32) (lit< tt) (lit< tt) (lit< tt) (lit< tt) (lit< tt) c

fit_instruction : {c : ℕ} (at₀ r w : ℕ) {i : Instruction} → Sound c i → Fit (dwords i) → at₀ + 4 * length (dwords i) ≤ 1_048_576 → r + parts_rows (parts i) < 2 ^ 32 → w + length (parts_words (parts i)) < 2 ^ 32 → Fit (instruction_row at₀ r w i)
unfolding instruction_row unread_row dwords parts
fit_instruction at₀ r w (not_read {ds = ds} z) f ha hr hw =
    let n : code_of ds < 2 ^ 32 = unfold code_of in omega arith in
    also at₀ (omega arith) (also (length ds) (omega arith) (also (code_of ds) n (also 0 (omega arith) (also 0 (omega arith) (also 0 (omega arith) (also 0 (omega arith) (also 0 (omega arith)
    (also 0 (omega arith) (also 0 (omega arith) (also 0 (omega arith) (also 0 (omega arith) (also r (omega arith) (also 0 (omega arith) (also w (omega arith) (also (length ds) (omega arith) empty)))))))))))))))
fit_instruction at₀ r w (exact_read {t = t} {e = e} {ps = ps} z x) f ha hr hw =
    let y = layout (code t) in
    let g = fields_of y t in
    let es = extensions y e in
    let h : t ≡ token_with (code t) g = eqb-true t _ x.token in
    let ht : t < 2 ^ 32 = head_fits f in
    let hs : type_bits es ≤ 4 * length es = type_bits_lem 0 es x.chain in
    let hl : length e ≤ length (e ++ op.parts_dwords ps) = omega (arith, length-append e (op.parts_dwords ps)) in
    also at₀ (omega arith) (also (length (dwords (pieces t e ps))) (omega arith) (also (code t) (omega arith) (also y.kind (kind_fits (code t))
    (also g.saturate (omega arith) (also g.test (omega arith) (also g.precise (omega arith) (also g.field (omega arith)
    (also (type_bits es + cond (long t) 8 0) (omega (arith, hs, hl, chain_length y e, cond_below (long t) 8 0 {n = 9} (lit< tt) (lit< tt))) (also (bits 9 20 (of_type 1 es)) (omega arith) (also (of_type 2 es % 2 ^ 31) (omega arith) (also (of_type 3 es % 2 ^ 31) (omega arith)
    (also r (omega arith) (also (top_level ps) (omega (arith, top_fits ps)) (also w (omega arith) (also (length (parts_words ps)) (omega arith) empty)))))))))))))))

-- ---- all rows and words
record Fits (at₀ r w : ℕ) (l : List Instruction) : Type 0 where
  rows : Fit (instruction_rows at₀ r w l)
  operands : Fit (parts_table r w (all_parts l))
  words : Fit (parts_words (all_parts l))

unread_parts : (i : Instruction) → Fit (dwords i) → Fit (op.parts_dwords (parts i)) × (length (op.parts_dwords (parts i)) ≤ length (dwords i))
unfolding dwords parts op.parts_dwords op.dwords
unread_parts (unread ds) f = rw (append-nil, append-nil ds) (f, omega arith)
unread_parts (pieces t e ps) f = (fit_back (t ∷ e) (op.parts_dwords ps) f, omega (arith, length-append e (op.parts_dwords ps)))

reads_fit : {c : ℕ} {m : Bool} {ds : List ℕ} {l : List Instruction} → Reads c m ds l → (at₀ r w : ℕ) → Fit ds → at₀ + 4 * length ds ≤ 1_048_576 → r + parts_rows (all_parts l) ≤ 1_048_576 → w + length (parts_words (all_parts l)) ≤ 1_048_576 → Fits at₀ r w l
unfolding instruction_rows all_parts
reads_fit nil at₀ r w f ha hr hw = record { rows = empty; operands = unfold parts_table in empty; words = unfold parts_words in empty }
reads_fit {c} {m} {ds} (cons t i left {j = j} {l = l} n s e k) at₀ r w f ha hr hw =
    let d : dwords j ≡ t ∷ i = kept_ok (read_restores c m (t ∷ i)) e in
    let x : length (dwords j) + length left ≡ length ds = omega (arith, ap length d, ap length s, length-append (t ∷ i) left) in
    let y : parts_rows (parts j ++ all_parts l) ≡ parts_rows (parts j) + parts_rows (all_parts l) = rows_append (parts j) (all_parts l) in
    let z : length (parts_words (parts j ++ all_parts l)) ≡ length (parts_words (parts j)) + length (parts_words (all_parts l)) = ap length (words_append (parts j) (all_parts l)) ∙ length-append (parts_words (parts j)) (parts_words (all_parts l)) in
    let fj : Fit (dwords j) = rw d (fit_front (t ∷ i) left (rw (← s) at f)) in
    let p = unread_parts j fj in
    let g = reads_fit k (at₀ + 4 * length (dwords j)) (r + parts_rows (parts j)) (w + length (parts_words (parts j))) (fit_back (t ∷ i) left (rw (← s) at f)) (omega arith) (omega arith) (omega arith) in
    record {
      rows = fit_append (fit_instruction at₀ r w (kept_ok (read_sound c m t i) e) fj (omega arith) (omega arith) (omega arith)) g.rows;
      operands = rw (table_append r w (parts j) (all_parts l)) (fit_append (fit_parts r w (parts j) p.0 (omega arith) (omega arith) (omega (arith, p.1))) g.operands);
      words = rw (words_append (parts j) (all_parts l)) (fit_append (fit_parts_words (parts j) p.0) g.words);
    }

pub reads_count : {c : ℕ} {m : Bool} {ds : List ℕ} {l : List Instruction} → Reads c m ds l → length l ≤ length ds
reads_count nil = omega arith
reads_count (cons t i left n s e k) = omega (arith, reads_count k, ap length s, length-append i left)

-- M payload dwords: 16M, 16M and M words are enough, and nothing is above 32 bits
pub record Roomy (chunk : List ℕ) (v : ℕ) (p : Pools) : Type 0 where
  pub instructions : length p.instructions ≤ 16 * (length chunk / 4 - 2)
  pub operands : length p.operands ≤ 16 * (length chunk / 4 - 2)
  pub words : length p.words ≤ length chunk / 4 - 2
  pub version_fits : v < 2 ^ 32
  pub instructions_fit : Fit p.instructions
  pub operands_fit : Fit p.operands
  pub words_fit : Fit p.words

get_or_fits : {l : List ℕ} → Fit l → get_or l 0 0 < 2 ^ 32
get_or_fits empty = omega arith
get_or_fits (also x h f) = h

pub chunk_room : {e four : ℕ} {chunk : List ℕ} {v : ℕ} {l : List Instruction} → Bytes chunk → Chunk e four chunk v l → Roomy chunk v (rows_of l)
chunk_room {chunk = chunk} {v = v} {l = l} y c =
    let ds : List ℕ = dwords_of chunk in
    let k = c.body_read.reads in
    let d = ap length (reads_dwords k) in
    let n : length (drop 2 ds) ≡ length chunk / 4 - 2 = length-drop 2 ds ∙ omega (arith, length_dwords chunk) in
    let a = all_fit l in
    let s = c.passes.short in
    let f = reads_fit k 8 0 0 (fit_drop 2 (fit_dwords chunk y)) (omega arith) (omega arith) (omega arith) in
    record {
      instructions = omega (arith, rows_length 8 0 0 l, reads_count k);
      operands = omega (arith, parts_length 0 0 (all_parts l));
      words = omega arith;
      version_fits = rw (← c.body_read.version) (get_or_fits (fit_dwords chunk y));
      instructions_fit = f.rows;
      operands_fit = f.operands;
      words_fit = f.words;
    }

pub record GivesRoom (chunk : List ℕ) (q : Rows) : Type 0 where
  pub instructions : 16 * q.instructions ≤ 16 * (length chunk / 4 - 2)
  pub operands : 16 * q.operands ≤ 16 * (length chunk / 4 - 2)
  pub words : q.words ≤ length chunk / 4 - 2
  pub version_fits : q.version < 2 ^ 32
  pub instructions_fit : Fit (held q).instructions
  pub operands_fit : Fit (held q).operands
  pub words_fit : Fit (held q).words

pub gives_room : {e : ℕ} {q : Rows} {chunk : List ℕ} → Gives e q chunk → GivesRoom chunk q
gives_room {e} {q} {chunk} g =
    let k = given g in
    let r = chunk_room g.bytes (chunk_accepted e k.four chunk k.read) in
    let l = k.list in
    record {
      instructions = omega (arith, r.instructions, rows_length 8 0 0 l, k.instructions);
      operands = omega (arith, r.operands, parts_length 0 0 (all_parts l), k.operands);
      words = omega (arith, r.words, k.words);
      version_fits = r.version_fits;
      instructions_fit = rw k.rows r.instructions_fit;
      operands_fit = rw k.rows r.operands_fit;
      words_fit = rw k.rows r.words_fit;
    }
