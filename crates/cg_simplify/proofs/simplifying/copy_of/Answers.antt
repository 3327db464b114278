use Rattle.std.proofs.Common.{◌≡◌, ◌∙◌, ap₂, sym, subst, List}
use Rattle.cg_model.specs.declared.kernel.Node.{Node}
use Rattle.cg_model.specs.declared.kernel.OrderEdge.{OrderEdge}
use Rattle.cg_model.specs.Kernel.{Kernel, IsKernel}
use Rattle.cg_simplify.specs.Simplified.{IsSimplified}
use Rattle.cg_simplify.proofs.Simplified.{simplified_itself}
use Rattle.cg_simplify.proofs.simplifying.copy_of.Goals as goal

same : (K : Kernel) (nodes given : List Node) (order edges : List OrderEdge) → nodes ≡ given → given ≡ K.nodes → order ≡ edges → edges ≡ K.order
    → (let L : Kernel = record { nodes = nodes; order = order } in L ≡ K)
same K nodes given order edges a b c d = ap₂ (λ (ns : List Node) (es : List OrderEdge). let L : Kernel = record { nodes = ns; order = es } in L) (a ∙ b) (c ∙ d)

pub new-requires : goal.new-requires
new-requires c =
    subst IsKernel (sym (same c.args.kernel.now c.in_ok-nodes.nodes.items c.nodes.result.now c.in_ok-order.order.items c.order.result.now c.in_ok-nodes.ensures c.nodes.ensures.nodes c.in_ok-order.ensures.items c.order.ensures.order))
    c.order.ensures.valid

pub returns : goal.returns
returns c =
    subst (IsSimplified c.args.kernel.now)
    (sym (c.new.ensures ∙ same c.args.kernel.now c.in_ok-nodes.nodes.items c.nodes.result.now c.in_ok-order.order.items c.order.result.now c.in_ok-nodes.ensures c.nodes.ensures.nodes c.in_ok-order.ensures.items c.order.ensures.order))
    (simplified_itself c.args.kernel.now c.order.ensures.valid.wired)
