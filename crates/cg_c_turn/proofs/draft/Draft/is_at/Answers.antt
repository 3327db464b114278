use Rattle.cg_c_values.specs.Listed.{listed}
use Rattle.cg_c_turn.proofs.EdgesGuarded.{equal_is}
use Rattle.cg_c_turn.proofs.draft.Draft.is_at.Goals as goal

pub returns-clause-means : goal.returns-clause-means
returns-clause-means c = equal_is (listed c.constant.new.self) (listed c.two.new.self) c.args.index c.in_ok-word.word c.in_ok-condition.condition c.args.at c.in_ok-word.ensures.means c.in_ok-condition.ensures.kept c.in_ok-condition.ensures.means
