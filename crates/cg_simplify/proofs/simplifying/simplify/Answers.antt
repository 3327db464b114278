use Rattle.std.proofs.Common.{◌≡◌, Option, IfSome, subst}
use Rattle.cg_model.specs.Kernel.{Kernel, IsKernel}
use Rattle.cg_simplify_order.specs.Needs.{StaysUnaliased}
use Rattle.cg_simplify.specs.Simplified.{IsSimplified}
use Rattle.cg_simplify.proofs.Simplified.{simplified_by}
use Rattle.cg_simplify.proofs.simplifying.simplify.Goals as goal

pub returns-in-Some : goal.returns-in-Some
returns-in-Some c =
    let K = c.in_ok-given.given in
    let L = c.in_ok-rewritten.rewritten in
    let M = c.in-Some.simplified in
    let valid : IsKernel L = subst IsKernel c.rewritten-2.view_is c.rewritten-2.invariant in
    let e = c.in-Some.is in
    subst (λ (k : Kernel). IsSimplified k M) c.in_ok-given.ensures
    (simplified_by K L M valid.wired c.in_ok-rewritten.ensures.rewritten c.in_ok-rewritten.ensures.few
    (subst (λ (o : Option Kernel). IfSome o (λ m. m.nodes ≡ L.nodes)) e c.in_ok-simplified.ensures.nodes)
    (subst (λ (o : Option Kernel). IfSome o (λ m. StaysUnaliased K m)) e c.in_ok-simplified.ensures.unaliased))
