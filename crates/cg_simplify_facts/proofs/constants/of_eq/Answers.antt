use Rattle.cg_simplify_facts.proofs.Values.{apart_eq, equal_eq}
use Rattle.cg_simplify_facts.proofs.constants.of_eq.Goals as goal

pub returns-then-facts : goal.returns-then-facts
returns-then-facts c = λ x y z f. equal_eq x y z (f.equal c.if-facts.true)

pub returns-then-are_apart : goal.returns-then-are_apart
returns-then-are_apart c = λ x y z f. apart_eq x y z (c.are_apart.ensures c.if-are_apart.true x y z f)
