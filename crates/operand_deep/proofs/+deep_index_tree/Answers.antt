use Rattle.std.proofs.Common.{[], rules, arith, ◌∙◌, sym, ◌-◌, ◌<◌, ◌/◌, length}
use Rattle.std.proofs.lemmas.Grind.{common_steps}
use Rattle.operand_deep.specs.Confirm.{confirm, confirm_index}
use Rattle.operand_deep.proofs.Fields.{its_row}
use Rattle.operand_deep.proofs.Found.{walk_found}
use Rattle.operand_deep.proofs.Walks.{alone, childless, with_child, lost₀, row₁, lost₁, row₂, lost₂, onward, tree_walks, no_row, no_guess, by_guess}
use Rattle.operand_deep.proofs.+deep_index_tree.Goals as goal

pub deep-returns-then-left-eq0 : goal.deep-returns-then-left-eq0
unfolding confirm
deep-returns-then-left-eq0 t c = rw c.if-left-eq0.true (search rules)

pub deep-returns-in_err-numbers : goal.deep-returns-in_err-numbers
deep-returns-in_err-numbers t c =
    let a = c.args in
    c.from_residual.ensures ∙ no_row a.left a.operands.now a.words.now a.row a.word c.if-left-eq0.false (omega (arith, c.as_chunks.ensures.front_len, c.in_err-numbers.ensures.lookup.3))

pub deep-returns-in_err-guess : goal.deep-returns-in_err-guess
deep-returns-in_err-guess t c =
    let a = c.args in
    let l : a.row < length a.operands.now / 16 = omega (arith, c.as_chunks.ensures.front_len, c.in_ok-numbers.ensures.lookup.3.0) in
    c.from_residual-in_err-guess.ensures ∙ no_guess a.left a.operands.now a.words.now a.row a.word c.if-left-eq0.false l (its_row a.operands.now a.row c.as_chunks.ensures.front l (c.in_ok-numbers.ensures.lookup.3.1 [])) c.in_err-guess.ensures

pub deep-leaf-requires : goal.deep-leaf-requires
deep-leaf-requires t c = omega (arith, c.as_chunks.ensures.front_len, c.in_ok-numbers.ensures.lookup.3.0)

pub deep-returns-then-immediate : goal.deep-returns-then-immediate
deep-returns-then-immediate t c =
    let a = c.args in
    let l : a.row < length a.operands.now / 16 = omega (arith, c.as_chunks.ensures.front_len, c.in_ok-numbers.ensures.lookup.3.0) in
    rw (by_guess a.left a.operands.now a.words.now a.row a.word c.if-left-eq0.false l (its_row a.operands.now a.row c.as_chunks.ensures.front l (c.in_ok-numbers.ensures.lookup.3.1 [])) c.in_ok-guess.ensures, sym c.immediate.ensures ∙ c.if-immediate.true) c.leaf.ensures

pub deep-tree-requires : goal.deep-tree-requires
deep-tree-requires t c = (omega arith, (omega (arith, c.if-left-eq0.false), omega (arith, c.as_chunks.ensures.front_len, c.in_ok-numbers.ensures.lookup.3.0)))

pub deep-returns : goal.deep-returns
deep-returns t c =
    let a = c.args in
    let l : a.row < length a.operands.now / 16 = omega (arith, c.as_chunks.ensures.front_len, c.in_ok-numbers.ensures.lookup.3.0) in
    rw (by_guess a.left a.operands.now a.words.now a.row a.word c.if-left-eq0.false l (its_row a.operands.now a.row c.as_chunks.ensures.front l (c.in_ok-numbers.ensures.lookup.3.1 [])) c.in_ok-guess.ensures, sym c.immediate.ensures ∙ c.if-immediate.false) c.tree.ensures

pub index-returns-then-not-known : goal.index-returns-then-not-known
unfolding confirm_index
index-returns-then-not-known t c = search rules

pub index-returns-then-saturating_sub-own : goal.index-returns-then-saturating_sub-own
unfolding confirm_index
index-returns-then-saturating_sub-own t c = grind (arith, common_steps)

pub index-returns-then-not-nests : goal.index-returns-then-not-nests
index-returns-then-not-nests t c =
    let a = c.args in
    rw c.own-own.ensures (alone (confirm (a.left - 1)) a.r a.operands.now a.words.now a.at.row a.at.word (search rules) (omega arith) (search rules))

pub index-returns-in_err-child : goal.index-returns-in_err-child
index-returns-in_err-child t c =
    let a = c.args in
    c.from_residual.ensures ∙ childless (confirm (a.left - 1)) a.r a.operands.now a.words.now a.at.row a.at.word (search rules) (omega arith) (search rules) (rw (← c.own-own.ensures) c.in_err-child.ensures)

pub index-overflow_add-result : goal.index-overflow_add-result
index-overflow_add-result t c = let a = c.args in omega (arith, walk_found (a.left - 1) a.operands.now a.words.now a.at.row _ c.requires.1 c.in_ok-child.ensures)

pub index-overflow_add-result-2 : goal.index-overflow_add-result-2
index-overflow_add-result-2 t c = let a = c.args in omega (arith, walk_found (a.left - 1) a.operands.now a.words.now a.at.row _ c.requires.1 c.in_ok-child.ensures)

pub index-overflow_add-result-3 : goal.index-overflow_add-result-3
index-overflow_add-result-3 t c = let a = c.args in omega (arith, walk_found (a.left - 1) a.operands.now a.words.now a.at.row _ c.requires.1 c.in_ok-child.ensures)

pub index-returns : goal.index-returns
index-returns t c =
    let a = c.args in
    rw c.own-own.ensures (with_child (confirm (a.left - 1)) a.r a.operands.now a.words.now a.at.row a.at.word (search rules) (omega arith) (search rules) (rw (← c.own-own.ensures) c.in_ok-child.ensures))

pub tree-returns-in_err-a : goal.tree-returns-in_err-a
tree-returns-in_err-a t c = let a = c.args in c.from_residual.ensures ∙ lost₀ (a.left - 1) a.operands.now a.words.now a.at.row a.at.word a.guess.token c.requires.1 c.repr.ensures _ _ c.in_err-a.ensures

pub tree-index-requires-2 : goal.tree-index-requires-2
tree-index-requires-2 t c = let a = c.args in (omega (arith, c.requires), (c.requires.0, row₁ (a.left - 1) a.operands.now a.words.now a.at.row a.at.word a.guess.token c.requires.1 c.repr.ensures c.in_ok-a.ensures c.repr-2.ensures))

pub tree-returns-in_err-b : goal.tree-returns-in_err-b
tree-returns-in_err-b t c = let a = c.args in c.from_residual-in_err-b.ensures ∙ lost₁ (a.left - 1) a.operands.now a.words.now a.at.row a.at.word a.guess.token c.requires.1 c.repr.ensures c.in_ok-a.ensures c.repr-2.ensures _ _ c.in_err-b.ensures

pub tree-index-requires-3 : goal.tree-index-requires-3
tree-index-requires-3 t c = let a = c.args in (omega (arith, c.requires), (c.requires.0, row₂ (a.left - 1) a.operands.now a.words.now a.at.row a.at.word a.guess.token c.requires.1 c.repr.ensures c.in_ok-a.ensures c.repr-2.ensures c.in_ok-b.ensures c.repr-3.ensures))

pub tree-returns-in_err-c : goal.tree-returns-in_err-c
tree-returns-in_err-c t c = let a = c.args in c.from_residual-in_err-c.ensures ∙ lost₂ (a.left - 1) a.operands.now a.words.now a.at.row a.at.word a.guess.token c.requires.1 c.repr.ensures c.in_ok-a.ensures c.repr-2.ensures c.in_ok-b.ensures c.repr-3.ensures _ _ c.in_err-c.ensures

pub tree-returns-then-not-same_front : goal.tree-returns-then-not-same_front
tree-returns-then-not-same_front t c = let a = c.args in rw (← tree_walks (a.left - 1) a.operands.now a.words.now a.at.row a.at.word a.guess.token c.requires.1 c.repr.ensures c.in_ok-a.ensures c.repr-2.ensures c.in_ok-b.ensures c.repr-3.ensures c.in_ok-c.ensures a.numbers.now _ (omega arith)) (search rules)

pub tree-overflow_sub-rows : goal.tree-overflow_sub-rows
tree-overflow_sub-rows t c = let a = c.args in omega (arith, onward (a.left - 1) a.operands.now a.words.now a.at.row a.at.word a.guess.token c.requires.1 c.repr.ensures c.in_ok-a.ensures c.repr-2.ensures c.in_ok-b.ensures c.repr-3.ensures c.in_ok-c.ensures)

pub tree-overflow_add-dwords : goal.tree-overflow_add-dwords
tree-overflow_add-dwords t c = let a = c.args in omega (arith, onward (a.left - 1) a.operands.now a.words.now a.at.row a.at.word a.guess.token c.requires.1 c.repr.ensures c.in_ok-a.ensures c.repr-2.ensures c.in_ok-b.ensures c.repr-3.ensures c.in_ok-c.ensures)

pub tree-overflow_add-dwords-2 : goal.tree-overflow_add-dwords-2
tree-overflow_add-dwords-2 t c = let a = c.args in omega (arith, onward (a.left - 1) a.operands.now a.words.now a.at.row a.at.word a.guess.token c.requires.1 c.repr.ensures c.in_ok-a.ensures c.repr-2.ensures c.in_ok-b.ensures c.repr-3.ensures c.in_ok-c.ensures)

pub tree-overflow_add-dwords-3 : goal.tree-overflow_add-dwords-3
tree-overflow_add-dwords-3 t c = let a = c.args in omega (arith, onward (a.left - 1) a.operands.now a.words.now a.at.row a.at.word a.guess.token c.requires.1 c.repr.ensures c.in_ok-a.ensures c.repr-2.ensures c.in_ok-b.ensures c.repr-3.ensures c.in_ok-c.ensures)

pub tree-overflow_sub-result : goal.tree-overflow_sub-result
tree-overflow_sub-result t c = let a = c.args in omega (arith, onward (a.left - 1) a.operands.now a.words.now a.at.row a.at.word a.guess.token c.requires.1 c.repr.ensures c.in_ok-a.ensures c.repr-2.ensures c.in_ok-b.ensures c.repr-3.ensures c.in_ok-c.ensures)

pub tree-returns-then-not-same_back : goal.tree-returns-then-not-same_back
tree-returns-then-not-same_back t c = let a = c.args in rw (← tree_walks (a.left - 1) a.operands.now a.words.now a.at.row a.at.word a.guess.token c.requires.1 c.repr.ensures c.in_ok-a.ensures c.repr-2.ensures c.in_ok-b.ensures c.repr-3.ensures c.in_ok-c.ensures a.numbers.now _ (omega arith)) (search rules)

pub tree-returns : goal.tree-returns
tree-returns t c = let a = c.args in rw (← tree_walks (a.left - 1) a.operands.now a.words.now a.at.row a.at.word a.guess.token c.requires.1 c.repr.ensures c.in_ok-a.ensures c.repr-2.ensures c.in_ok-b.ensures c.repr-3.ensures c.in_ok-c.ensures a.numbers.now _ (omega arith)) (search rules)
