use Rattle.cg_c_values.proofs.Known.{added_const}
use Rattle.cg_c_values.proofs.values.Values.constant.Goals as goal

pub returns-clause-means : goal.returns-clause-means
returns-clause-means c = added_const c.add.new.self.values.keys c.add.result c.args.word c.add.ensures.within c.add.ensures.added
