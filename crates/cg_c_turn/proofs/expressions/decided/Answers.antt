use Rattle.std.proofs.Common.{nat_lt, ap, ◌∙◌}
use Rattle.cg_c_values.specs.Listed.{listed}
use Rattle.cg_c_turn.proofs.Operating.{const_is, lt_is_true}
use Rattle.cg_c_turn.proofs.expressions.decided.Goals as goal

pub returns-in-Some : goal.returns-in-Some
returns-in-Some c x E fits = ap (nat_lt 0) (const_is (listed c.args.values.now) x E c.args.condition c.in-Some.word c.requires.within c.in-Some.ensures.is fits) ∙ lt_is_true c.in-Some.word
