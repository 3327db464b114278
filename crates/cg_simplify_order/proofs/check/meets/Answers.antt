use Rattle.std.proofs.Common.{subst}
use Rattle.cg_model.specs.Kernel.{Kernel}
use Rattle.cg_simplify_order.specs.Found.{AreWithin}
use Rattle.cg_simplify_order.proofs.check.meets.Goals as goal

pub returns : goal.returns
returns c = λ t. subst (λ (z : Kernel). AreWithin z c.args.needs.now) c.in_ok-table.ensures (c.are_within.ensures t)
