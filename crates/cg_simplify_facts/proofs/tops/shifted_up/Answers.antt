use Rattle.std.proofs.Common.{ap, arith, ◌*◌}
use Rattle.cg_simplify_facts.proofs.Values.{known, shl_known, value_small}
use Rattle.cg_word.specs.declared.op.Op.TheVariants.{Shl}
use Rattle.cg_simplify_facts.proofs.tops.shifted_up.Goals as goal

pub returns-in-Some : goal.returns-in-Some
returns-in-Some c = λ x y z f. let e = c.saturating_mul.ensures in let p = ap (λ n. c.args.facts.first.top * n) c.power.ensures in let s = shl_known x y z c.args.facts.first.top c.in-Some.bits f.first.below (known c.args.facts.second y c.in-Some.bits f.second c.in-Some.is) in omega arith

pub returns-in-None : goal.returns-in-None
returns-in-None c = λ x y z f. value_small Shl x y z f.first.small f.second.small f.third.small
