use Rattle.cg_simplify_facts.proofs.Values.{apart_ne, equal_ne}
use Rattle.cg_simplify_facts.proofs.constants.of_ne.Goals as goal

pub returns-then-facts : goal.returns-then-facts
returns-then-facts c = λ x y z f. equal_ne x y z (f.equal c.if-facts.true)

pub returns-then-are_apart : goal.returns-then-are_apart
returns-then-are_apart c = λ x y z f. apart_ne x y z (c.are_apart.ensures c.if-are_apart.true x y z f)
