use Rattle.cg_c_values.proofs.Known.{added_two, exchanged_means}
use Rattle.cg_c_values.proofs.values.Values.stands.Goals as goal

pub returns-in-Some-clause-means : goal.returns-in-Some-clause-means
returns-in-Some-clause-means c =
    let found = c.in-Some.ensures in
    exchanged_means c.args.self.now.values.keys c.in-Some.v c.args.op c.args.first c.args.second c.requires.first c.requires.second (c.commutes.ensures c.if-commutes.true) found.0 found.1

pub returns-clause-means : goal.returns-clause-means
returns-clause-means c = added_two c.add.new.self.values.keys c.add.result c.args.op c.args.first c.args.second c.add.ensures.within c.add.ensures.added
