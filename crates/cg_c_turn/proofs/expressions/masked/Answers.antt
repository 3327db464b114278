use Rattle.std.proofs.lemmas.Result.{IfOk-weaker}
use Rattle.cg_word.specs.declared.op.Op.TheVariants as ops
use Rattle.cg_c_values.specs.Listed.{listed}
use Rattle.cg_c_turn.proofs.Operating.{means_with}
use Rattle.cg_c_turn.proofs.expressions.masked.Goals as goal

pub returns-clause-means : goal.returns-clause-means
returns-clause-means c = IfOk-weaker c.two.result _ _ (λ r h.
    means_with (listed c.constant.new.self) (listed c.two.new.self) ops.And c.args.v c.args.ones c.in_ok-ones.ones r c.two.ensures.kept c.in_ok-ones.ensures.means h) c.two.ensures.means
