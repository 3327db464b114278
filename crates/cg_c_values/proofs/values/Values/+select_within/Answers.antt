use Rattle.cg_c_values.proofs.Done.{again_chosen, planned_chosen, step_chosen}
use Rattle.cg_c_values.proofs.values.Values.+select_within.Goals as goal

pub returns-in-Planned-clause-means : goal.returns-in-Planned-clause-means
returns-in-Planned-clause-means t c =
    planned_chosen c.args.self.now.values.keys c.planned.new.self.values.keys c.choice.result c.args.condition c.args.chosen c.args.other c.choice.ensures c.planned.result c.in-Planned.plan c.in-Planned.is c.planned.ensures.kept c.planned.ensures.means

pub returns-in-Again-clause-means : goal.returns-in-Again-clause-means
returns-in-Again-clause-means t c =
    let p = c.in-Again in
    again_chosen c.args.self.now.values.keys c.select_within.new.self.values.keys c.choice.result c.args.condition c.args.chosen c.args.other c.choice.ensures c.select_within.result p.condition p.chosen p.other p.is c.select_within.ensures.kept c.select_within.ensures.means

pub returns-in_ok-by-in-Step-clause-means : goal.returns-in_ok-by-in-Step-clause-means
returns-in_ok-by-in-Step-clause-means t c =
    let p = c.in-Step in
    step_chosen c.args.self.now.values.keys c.two_within.new.self.values.keys c.choice.result c.args.condition c.args.chosen c.args.other c.choice.ensures c.two_within.result c.operand.new.self.values.keys c.operand-in-Step.new.self.values.keys c.select_within-in-Step.new.self.values.keys p.op p.first p.condition c.in_ok-chosen-in-Step.chosen
    c.in_ok-other-in-Step.other c.in_ok-by-in-Step.by p.chosen p.other p.is c.in_ok-chosen-in-Step.ensures.kept c.in_ok-chosen-in-Step.ensures.means c.in_ok-other-in-Step.ensures.kept
    c.in_ok-other-in-Step.ensures.means c.in_ok-by-in-Step.ensures.kept c.in_ok-by-in-Step.ensures.means c.two_within.ensures.kept c.two_within.ensures.means
