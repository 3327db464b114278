use Rattle.cg_c_values.proofs.Truths.{extreme_itself}
use Rattle.cg_c_values.proofs.Planning.{first_if_equal}
use Rattle.cg_c_values.proofs.values.Values.plan_as_given.Goals as goal

pub returns-in-Mins : goal.returns-in-Mins
returns-in-Mins c = first_if_equal c.args.self.now.values.keys c.args.op c.args.first c.args.second c.requires.first c.if-first-second.true (λ y l. extreme_itself c.args.op y c.in-Mins.is)
