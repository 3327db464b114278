use Rattle.cg_c_values.proofs.Planning.{carried_gives, negative_gives}
use Rattle.cg_c_values.proofs.values.Values.plan_sum_of_words.Goals as goal

pub returns-then-not-is_carried : goal.returns-then-not-is_carried
returns-then-not-is_carried c = carried_gives c.args.self.now.values.keys c.args.first c.args.second c.in-Some.carried c.in-Some.x c.requires.second c.in-Some.ensures.carried c.in-Some.ensures.within c.in-Some.ensures.means

pub returns-in-Some-negative : goal.returns-in-Some-negative
returns-in-Some-negative c = negative_gives c.args.self.now.values.keys c.args.first c.args.second c.in-Some-negative.x c.requires.first c.in-Some-negative.ensures.within c.in-Some-negative.ensures.means
