use Rattle.std.proofs.Common.{[], List, sym, subst}
use Rattle.cg_model.specs.declared.kernel.Node.{Node}
use Rattle.cg_model.specs.Kernel.{IsKernel}
use Rattle.cg_simplify_draft.proofs.Drafts.{unordered}
use Rattle.cg_simplify_draft.proofs.draft.Draft.of.Goals as goal

pub invariant_of-result : goal.invariant_of-result
invariant_of-result c =
    subst (λ (ns : List Node). IsKernel (record { nodes = ns; order = [] })) (sym c.in_ok-nodes.ensures)
    (subst (λ (ns : List Node). IsKernel (record { nodes = ns; order = [] })) (sym c.nodes.ensures.nodes) (unordered c.args.kernel.now c.nodes.ensures.valid))
