use Rattle.std.proofs.Common.{subst}
use Rattle.cg_model.specs.Kernel.{IsKernel}
use Rattle.cg_simplify.proofs.joining.Joins.nodes.Goals as goal

pub returns-clause-valid : goal.returns-clause-valid
returns-clause-valid c = subst IsKernel c.self.view_is c.nodes.ensures.valid
