use Rattle.std.proofs.lemmas.Result.{IfOk-weaker}
use Rattle.cg_c_values.specs.Listed.{listed}
use Rattle.cg_c_turn.proofs.Turning.{counter_is}
use Rattle.cg_c_turn.proofs.turn.counter.Goals as goal

pub returns-clause-counter : goal.returns-clause-counter
returns-clause-counter c = IfOk-weaker c.two-2.result _ _ (λ v sum.
    counter_is (listed c.digit.new.values) (listed c.constant.new.self) (listed c.two.new.self) (listed c.constant-2.new.self) (listed c.two-2.new.self) c.args.range c.args.span c.in_ok-iteration.iteration c.in_ok-step.step c.in_ok-distance.distance c.in_ok-first.first v
    c.in_ok-iteration.ensures.digit c.in_ok-step.ensures.kept c.in_ok-step.ensures.means c.in_ok-distance.ensures.kept c.in_ok-distance.ensures.means c.in_ok-first.ensures.kept c.in_ok-first.ensures.means c.two-2.ensures.kept sum) c.two-2.ensures.means
