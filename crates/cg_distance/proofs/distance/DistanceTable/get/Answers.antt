use Rattle.std.proofs.Common.{◌≡◌, ◌<◌, length, arith, ap, sym, subst}
use Rattle.cg_model.specs.Kernel.{Kernel, IsKernel, size}
use Rattle.cg_model.specs.Order.{Chain}
use Rattle.cg_distance.proofs.Chains.{chain_nodes}
use Rattle.cg_distance.proofs.distance.DistanceTable.get.Goals as goal
use Rattle.cg_distance.proofs.distance.DistanceTable.get.Goals.{then-from-size-via-then-from-size, then-from-size-via-else-from-size+then-to-size}

pub returns-then-from-size-clause-none : goal.returns-then-from-size-clause-none
returns-then-from-size-clause-none c d chain =
    let K : Kernel = c.self.inside.kernel.now in
    let chain' : Chain K c.args.from c.args.to d = subst (λ (z : Kernel). Chain z c.args.from c.args.to d) (sym c.self.view_is) chain in
    let good : IsKernel K = c.nodes-size.ensures.valid in
    let nodes = chain_nodes K good c.args.from c.args.to d chain' in
    let a : c.args.from < size K = nodes.0 in
    let b : c.args.to < size K = nodes.1 in
    let long : length c.nodes-size.result.now ≡ size K = ap length c.nodes-size.ensures.nodes in
    elim c.then-from-size.branch [
      | then-from-size-via-then-from-size w ↦ omega arith
      | then-from-size-via-else-from-size+then-to-size w ↦ omega arith
    ]
