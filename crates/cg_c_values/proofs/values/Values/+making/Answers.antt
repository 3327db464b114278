use Rattle.cg_c_values.proofs.Done.{again_done, carried_done, outwards_done, planned_done, stands_done}
use Rattle.cg_c_values.proofs.values.Values.+making.Goals as goal

pub planned-returns-in_ok-second-in-Stands-clause-means : goal.planned-returns-in_ok-second-in-Stands-clause-means
planned-returns-in_ok-second-in-Stands-clause-means t c =
    let p = c.in-Stands in
    stands_done c.operand-in-Stands.new.self.values.keys c.stands.new.self.values.keys c.args.plan p.op p.first c.in_ok-second-in-Stands.second p.second c.stands.result p.is c.in_ok-second-in-Stands.ensures.means c.stands.ensures.kept c.stands.ensures.means

pub planned-returns-in_ok-second-in-Again-clause-means : goal.planned-returns-in_ok-second-in-Again-clause-means
planned-returns-in_ok-second-in-Again-clause-means t c =
    let p = c.in-Again in
    again_done c.operand-in-Again.new.self.values.keys c.operand-in-Again-2.new.self.values.keys c.two_within.new.self.values.keys c.args.plan p.op c.in_ok-first-in-Again.first c.in_ok-second-in-Again.second p.first p.second c.two_within.result p.is
    c.in_ok-first-in-Again.ensures.means c.in_ok-second-in-Again.ensures.kept c.in_ok-second-in-Again.ensures.means c.two_within.ensures.kept c.two_within.ensures.means

pub planned-returns-in_ok-number-in-Outwards-clause-means : goal.planned-returns-in_ok-number-in-Outwards-clause-means
planned-returns-in_ok-number-in-Outwards-clause-means t c =
    let p = c.in-Outwards in
    outwards_done c.two_within-in-Outwards.new.self.values.keys c.constant.new.self.values.keys c.two_within-in-Outwards-2.new.self.values.keys c.args.plan p.first p.second p.word c.in_ok-sum-in-Outwards.sum c.in_ok-number-in-Outwards.number
    c.two_within-in-Outwards-2.result p.is c.in_ok-sum-in-Outwards.ensures.means c.in_ok-number-in-Outwards.ensures.kept c.in_ok-number-in-Outwards.ensures.means
    c.two_within-in-Outwards-2.ensures.kept c.two_within-in-Outwards-2.ensures.means

pub planned-returns-in_ok-sum-in-Carried-clause-means : goal.planned-returns-in_ok-sum-in-Carried-clause-means
planned-returns-in_ok-sum-in-Carried-clause-means t c =
    let p = c.in-Carried in
    carried_done c.two_within-in-Carried.new.self.values.keys c.stands-in-Carried.new.self.values.keys c.args.plan p.carried p.first p.second c.in_ok-sum-in-Carried.sum c.stands-in-Carried.result p.is
    c.in_ok-sum-in-Carried.ensures.means c.stands-in-Carried.ensures.kept c.stands-in-Carried.ensures.means

pub two_within-returns-clause-means : goal.two_within-returns-clause-means
two_within-returns-clause-means t c =
    planned_done c.args.self.now.values.keys c.planned.new.self.values.keys c.plan-plan.result _ c.planned.result c.plan-plan.ensures c.planned.ensures.kept c.planned.ensures.means
