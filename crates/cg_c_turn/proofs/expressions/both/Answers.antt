use Rattle.std.proofs.lemmas.Result.{IfOk-weaker}
use Rattle.cg_c_values.specs.Listed.{listed}
use Rattle.cg_c_turn.proofs.Operating.{joins_and}
use Rattle.cg_c_turn.proofs.expressions.both.Goals as goal

pub returns : goal.returns
returns c reading wanted = IfOk-weaker c.two.result _ _ (λ r h.
    joins_and (listed c.args.values.now) (listed c.truth.new.self) (listed c.truth-2.new.self) (listed c.two.new.self) reading wanted c.args.first c.args.second c.in_ok-first.first c.in_ok-second.second r
    c.truth.ensures.kept c.truth-2.ensures.kept c.two.ensures.kept c.in_ok-first.ensures.means c.in_ok-second.ensures.means h) c.two.ensures.means
