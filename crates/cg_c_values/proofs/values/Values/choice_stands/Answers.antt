use Rattle.cg_c_values.proofs.Known.{added_select}
use Rattle.cg_c_values.proofs.values.Values.choice_stands.Goals as goal

pub returns-clause-means : goal.returns-clause-means
returns-clause-means c = added_select c.add.new.self.values.keys c.add.result c.args.condition c.args.chosen c.args.other c.add.ensures.within c.add.ensures.added
