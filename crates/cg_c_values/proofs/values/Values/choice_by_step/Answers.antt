use Rattle.cg_c_values.proofs.Deciding.{step_back, step_forth}
use Rattle.cg_c_values.proofs.values.Values.choice_by_step.Goals as goal

pub returns-then-one : goal.returns-then-one
returns-then-one c = step_forth c.args.self.now.values.keys c.args.condition c.args.chosen c.args.other c.requires.condition c.requires.chosen c.requires.other c.in-Some.op c.in-Some.by c.in-Some.ensures.plain c.in-Some.ensures.step c.in-Some.ensures.within c.in-Some.ensures.means

pub returns-then-is_step_worthwhile-2 : goal.returns-then-is_step_worthwhile-2
returns-then-is_step_worthwhile-2 c = step_back c.args.self.now.values.keys c.args.condition c.args.chosen c.args.other c.requires.condition c.requires.chosen c.requires.other c.in-Some-back.op c.in-Some-back.by c.in-Some-back.ensures.plain c.in-Some-back.ensures.step c.in-Some-back.ensures.within c.in-Some-back.ensures.means
