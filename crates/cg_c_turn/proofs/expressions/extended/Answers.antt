use Rattle.std.proofs.lemmas.Result.{IfOk-weaker}
use Rattle.cg_c_values.specs.Listed.{listed}
use Rattle.cg_c_turn.proofs.Operating.{means_extended}
use Rattle.cg_c_turn.proofs.expressions.extended.Goals as goal

pub returns-clause-means : goal.returns-clause-means
returns-clause-means c = IfOk-weaker c.two-2.result _ _ (λ r h.
    means_extended (listed c.constant.new.self) (listed c.two.new.self) (listed c.two-2.new.self) c.args.bits c.args.v c.in_ok-count.count c.in_ok-left.left r c.two.ensures.kept c.two-2.ensures.kept c.in_ok-count.ensures.means c.in_ok-left.ensures.means h) c.two-2.ensures.means
