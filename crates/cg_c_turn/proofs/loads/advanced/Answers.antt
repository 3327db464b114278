use Rattle.std.proofs.lemmas.Result.{IfOk-weaker}
use Rattle.cg_c_values.specs.Listed.{listed}
use Rattle.cg_c_turn.proofs.Operating.{means_advanced}
use Rattle.cg_c_turn.proofs.loads.advanced.Goals as goal

pub returns-clause-means : goal.returns-clause-means
returns-clause-means c = IfOk-weaker c.two-2.result _ _ (λ r h.
    means_advanced (listed c.constant.new.self) (listed c.two.new.self) (listed c.two-2.new.self) c.args.place c.args.dimension c.args.index c.in_ok-dimension.dimension c.in_ok-row.row r c.two.ensures.kept c.two-2.ensures.kept c.in_ok-dimension.ensures.means c.in_ok-row.ensures.means h) c.two-2.ensures.means
