-- What a caller learns from the first pass: what comes of the chunk past its header.
use Prim.Native.Nat.{ℕ}
use mathlib.Core.Path.{◌≡◌, refl, ap, ◌∙◌}
use mathlib.Core.List.{List}
use mathlib.Core.Option.{Option, none, some}
use mathlib.Core.Bool.{Bool}
use lib.ListN.{length, get_or, drop}
use Rattle.format.specs.declared.Refusal.{Refusal}
use Rattle.format.specs.Framing.{Framed, frame}
use Rattle.format.specs.Instructions.{Instruction}
use Rattle.format.specs.Refusals.{Outcome, refused, accepted, unless, first_pass, second_pass, readings, is_model51, body}
use Rattle.format.specs.Rows.{parts_rows, parts_words, all_parts}
use Rattle.format.proofs.Dwords.{impossible}
use Rattle.std.specs.Prelude.{Ok, Err}
use Rattle.stream.specs.declared.Needs.{Needs}
use Rattle.stream.specs.Stream.{passes, measured}

-- an outcome with the version token in it
abbrev pub versioned : ℕ → Outcome → Outcome
versioned v (refused r) = refused r
versioned v (accepted w l) = accepted v l

unless_versioned : (v : ℕ) (a b : Option Refusal) (l : List Instruction) → unless a (unless b (accepted v l)) ≡ versioned v (unless a (unless b (accepted 0 l)))
unless_versioned v (some r) b l = refl
unless_versioned v none (some r) l = refl
unless_versioned v none none l = refl

module _ (c : ℕ) (ds : List ℕ) where
  pub body_passes : body c ds ≡ versioned (get_or ds 0 0) (passes c (is_model51 (get_or ds 0 0)) ds)
  unfolding body passes
  body_passes =
      let m : Bool = is_model51 (get_or ds 0 0) in
      let f : Framed = frame (length ds) (drop 2 ds) in
      unless_versioned (get_or ds 0 0) (first_pass c m 2 f) (second_pass c m 2 f) (readings c m f)

  module _ {m : Bool} (q : m ≡ is_model51 (get_or ds 0 0)) where
    body_is : {a : Outcome} → passes c m ds ≡ a → body c ds ≡ versioned (get_or ds 0 0) a
    body_is e = body_passes ∙ ap (versioned (get_or ds 0 0)) ((rw q at e))

    -- refused
    pub refused_body : {r : Refusal} → Err r ≡ measured (passes c m ds) → body c ds ≡ refused r
    refused_body {r} e = go (passes c m ds) refl e
      where
        go : (a : Outcome) → passes c m ds ≡ a → Err r ≡ measured a → body c ds ≡ refused r
        go (refused p) x y = body_is x ∙ ap (λ (k : Refusal). refused k) ((cc))
        go (accepted v l) x y = impossible (cc)

    -- accepted: what was read, and how much of it there is
    pub record Counted (n : Needs) : Type 0 where
      pub list : List Instruction
      pub is : body c ds ≡ accepted (get_or ds 0 0) list
      pub instructions : n.instructions ≡ length list
      pub operands : n.operands ≡ parts_rows (all_parts list)
      pub words : n.words ≡ length (parts_words (all_parts list))

    pub fine_body : {n : Needs} → Ok n ≡ measured (passes c m ds) → Counted n
    fine_body {n} e = go (passes c m ds) refl e
      where
        go : (a : Outcome) → passes c m ds ≡ a → Ok n ≡ measured a → Counted n
        go (refused p) x y = impossible (cc)
        go (accepted v l) x y = record { list = l; is = body_is x; instructions = (cc); operands = (cc); words = (cc) }
