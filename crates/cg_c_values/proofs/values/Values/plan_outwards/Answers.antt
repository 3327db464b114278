use Rattle.cg_c_values.proofs.Planning.{outwards_gives_first, outwards_gives_second}
use Rattle.cg_c_values.proofs.values.Values.plan_outwards.Goals as goal

pub returns-in-Some : goal.returns-in-Some
returns-in-Some c = outwards_gives_first c.args.self.now.values.keys c.args.first c.args.second c.in-Some.x c.in-Some.word c.requires.second c.in-Some.ensures.within c.in-Some.ensures.word c.in-Some.ensures.means

pub returns-in-Some-inner : goal.returns-in-Some-inner
returns-in-Some-inner c = outwards_gives_second c.args.self.now.values.keys c.args.first c.args.second c.in-Some-inner.x c.in-Some-inner.word c.requires.first c.in-Some-inner.ensures.within c.in-Some-inner.ensures.word c.in-Some-inner.ensures.means
