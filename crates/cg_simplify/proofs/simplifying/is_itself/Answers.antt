use Rattle.std.proofs.Common.{subst}
use Rattle.cg_model.specs.Kernel.{IsKernel}
use Rattle.cg_simplify.proofs.simplifying.is_itself.Goals as goal

pub returns : goal.returns
returns c = let K = c.args.given.now in let valid : IsKernel K = subst IsKernel c.kernel.ensures c.nodes.ensures.valid in c.composed.ensures.itself K K.order valid.wired
