use Rattle.std.proofs.Common.{List, sym, ◌∙◌, subst}
use Rattle.cg_model.specs.declared.kernel.Node.{Node}
use Rattle.cg_model.specs.Kernel.{IsKernel}
use Rattle.cg_simplify_order.proofs.Valid.{reordered_valid}
use Rattle.cg_simplify_order.proofs.edges.with_edges.Goals as goal

pub new-requires : goal.new-requires
new-requires c =
    subst (λ (nodes : List Node). IsKernel (record { nodes = nodes; order = c.args.order.items })) (sym (c.in_ok-nodes.ensures ∙ c.nodes.ensures.nodes))
    (reordered_valid c.args.kernel.now c.args.order.items c.nodes.ensures.valid c.requires)
