use Rattle.std.proofs.Common.{rules, arith}
use Rattle.std.proofs.lemmas.Grind.{common_steps}
use Rattle.operand_deep.specs.Confirm.{confirm_immediates}
use Rattle.operand_deep.proofs.Walks.{leaf_walks}
use Rattle.operand_deep.proofs.leaf.Goals as goal

pub returns-then-dimension-ne0 : goal.returns-then-dimension-ne0
unfolding confirm_immediates
returns-then-dimension-ne0 c = search rules

pub returns-then-saturating_sub-m : goal.returns-then-saturating_sub-m
unfolding confirm_immediates
returns-then-saturating_sub-m c = grind (arith, common_steps)

pub returns-then-not-same_front : goal.returns-then-not-same_front
returns-then-not-same_front c =
    let a = c.args in
    rw (← leaf_walks a.numbers.now a.words.now a.row a.word a.guess.token _ (omega arith) (search rules) (omega arith)) (search rules)

pub returns-then-not-same_back : goal.returns-then-not-same_back
returns-then-not-same_back c =
    let a = c.args in
    rw (← leaf_walks a.numbers.now a.words.now a.row a.word a.guess.token _ (omega arith) (search rules) (omega arith)) (search rules)

pub returns : goal.returns
returns c =
    let a = c.args in
    rw (← leaf_walks a.numbers.now a.words.now a.row a.word a.guess.token _ (omega arith) (search rules) (omega arith)) (search rules)
