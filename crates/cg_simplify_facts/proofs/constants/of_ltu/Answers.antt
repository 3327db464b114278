use Rattle.std.proofs.Common.{arith}
use Rattle.cg_simplify_facts.proofs.Values.{below, known, not_below}
use Rattle.cg_simplify_facts.proofs.constants.of_ltu.Goals as goal

pub returns-then-facts : goal.returns-then-facts
returns-then-facts c = λ x y z f. not_below x y z (let e = f.equal c.if-facts.true in omega arith)

pub returns-then-is_known : goal.returns-then-is_known
returns-then-is_known c = λ x y z f. not_below x y z (let e = known c.args.facts.second y 0 f.second (c.is_known.ensures c.if-is_known.true) in omega arith)

pub returns-then-is_above : goal.returns-then-is_above
returns-then-is_above c = λ x y z f. not_below x y z (let h = c.is_above.ensures c.if-is_above.true x f.first in let k = f.second.below in omega arith)

pub returns-then-is_below : goal.returns-then-is_below
returns-then-is_below c = λ x y z f. below x y z (let h = c.is_below.ensures c.if-is_below.true y f.second in let k = f.first.below in omega arith)
