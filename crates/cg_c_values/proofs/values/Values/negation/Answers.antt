use Rattle.cg_c_values.proofs.Done.{negation_done}
use Rattle.cg_c_values.proofs.values.Values.negation.Goals as goal

pub returns-clause-means : goal.returns-clause-means
returns-clause-means c = negation_done c.constant.new.self.values.keys c.two.new.self.values.keys c.args.v c.in_ok-zero.zero c.two.result c.in_ok-zero.ensures.means c.two.ensures.kept c.two.ensures.means
