use Rattle.cg_simplify_facts.proofs.Values.{known, shr_known, shr_small}
use Rattle.cg_simplify_facts.proofs.tops.shifted_down.Goals as goal

pub returns-in-Some : goal.returns-in-Some
returns-in-Some c = λ x y z f. shr_known x y z c.args.facts.first.top c.in-Some.bits f.first.below (known c.args.facts.second y c.in-Some.bits f.second c.in-Some.is)

pub returns-in-None : goal.returns-in-None
returns-in-None c = λ x y z f. shr_small x y z c.args.facts.first.top f.first.below
