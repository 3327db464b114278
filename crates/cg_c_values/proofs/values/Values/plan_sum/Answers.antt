use Rattle.cg_word.specs.declared.op.Op.TheVariants as ops
use Rattle.cg_c_values.proofs.Adding.{add_exchanged}
use Rattle.cg_c_values.proofs.Planning.{exchanged}
use Rattle.cg_c_values.proofs.values.Values.plan_sum.Goals as goal

pub returns-in-None : goal.returns-in-None
returns-in-None c = exchanged c.args.self.now.values.keys ops.Add c.args.first c.args.second c.requires.first c.plan_outwards.result c.requires.second (λ x y l m. add_exchanged x y) c.plan_outwards.ensures
