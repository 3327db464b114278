use Rattle.std.proofs.Common.{sym, ◌∙◌}
use Rattle.cg_c_values.proofs.Known.{step_back_means, step_means}
use Rattle.cg_c_values.proofs.values.Values.step.Goals as goal

pub returns-then-first-from-clause-means : goal.returns-then-first-from-clause-means
returns-then-first-from-clause-means c = step_means c.args.self.now.values.keys c.args.to c.in-Two.op c.args.from c.in-Two.first c.in-Two.second c.requires.to (sym c.value.ensures.value ∙ c.in-Two.is) c.if-first-from.true

pub returns-then-commutes-clause-means : goal.returns-then-commutes-clause-means
returns-then-commutes-clause-means c =
    let stands = c.in-Two.ensures.may_stand in
    step_back_means c.args.self.now.values.keys c.args.to c.in-Two.op c.args.from c.in-Two.first c.in-Two.second c.requires.to stands.1 stands.2 (sym c.value.ensures.value ∙ c.in-Two.is) c.if-second-from.true (c.commutes.ensures c.if-commutes.true)
