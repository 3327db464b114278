use Rattle.cg_c_values.proofs.Truths.{steps}
use Rattle.cg_c_values.proofs.choices.is_step.Goals as goal

pub returns-in-Add : goal.returns-in-Add
returns-in-Add c _ = steps c.args.op c.in-Add.is
