-- What is written of an operand whose rows and words were confirmed: the bytes of its dwords.
use Rattle.std.specs.Prelude.{ℕ, ◌+◌, ◌-◌, ◌*◌, ◌/◌, ◌^◌, ◌<◌, ◌≤◌, ◌≡◌, List, ◌∷◌, length, take, drop}
use Rattle.std.proofs.Math.Option.{Option, none as nothing, some as just}
use Rattle.format.specs.Dwords.{bytes_of}
use Rattle.format.specs.Operands.{Tree, none, dwords}
use Rattle.format.specs.Rows.{tree_rows, tree_words}
use Rattle.format.specs.Encoder.{at, extension_of, operand_dword}
use Rattle.output.specs.Puts.{put}
use Rattle.operand_deep.specs.Confirm.{Confirmer}
use Rattle.operand_emit.specs.declared.Place.{Place}

-- the row from a place on
abbrev pub row_from : ℕ → List ℕ → List ℕ
row_from first rs = take 16 (drop first rs)

-- what stands in two pools from a row that begins at a place, whose number is the 16th part of that place, and from a word on
abbrev pub standing : Confirmer → Confirmer
standing p rs ws first w = p (drop first rs) (drop w ws) (first / 16) w

-- the tree that there is
abbrev pub tree_in : Option Tree → Tree
tree_in nothing = none
tree_in (just x) = x

-- there is a tree, and room for its dwords from a dword on in an output of so many bytes
pub record Ready (o : Option Tree) (place n : ℕ) : Type 0 where
  pub tree : Tree
  pub is : o ≡ just tree
  pub room : 4 * (place + length (dwords tree)) ≤ n

-- its dwords stand there; what is behind it: a place where a row begins, a word, and a dword of the output
pub record Emitted (o : Option Tree) (first word place : ℕ) (out : List ℕ) (ends : Place) (out' : List ℕ) : Type 0 where
  pub output_is : out' ≡ put (4 * place) (bytes_of (dwords (tree_in o))) out
  pub operand_is : ends.operand ≡ first + 16 * tree_rows (tree_in o)
  pub word_is : ends.word ≡ word + length (tree_words (tree_in o))
  pub at_is : ends.at ≡ place + length (dwords (tree_in o))

-- an operand's dword and its extension, from its row
abbrev pub head_of : List ℕ → List ℕ
head_of q = operand_dword q ∷ extension_of (at 3 q)

-- the numbers of a row whose dword was exact
pub record Fits (q : List ℕ) : Type 0 where
  pub form_fits : at 1 q < 5
  pub modifiers_fit : at 3 q < 2 ^ 7
  pub dword_fits : operand_dword q < 2 ^ 32

-- as many words as the row's dwords leave behind its head
abbrev pub words_left : List ℕ → ℕ
words_left q = at 15 q - length (head_of q)

-- a row, words for all of its dwords but the head, and room for them
pub record Lone (q : List ℕ) (ws word place n : ℕ) : Type 0 where
  pub fits : Fits q
  pub head_fits : length (head_of q) ≤ at 15 q
  pub words_there : words_left q ≤ ws - word
  pub room : 4 * (place + at 15 q) ≤ n
