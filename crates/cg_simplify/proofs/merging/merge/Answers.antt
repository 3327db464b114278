use Rattle.std.proofs.Common.{◌≡◌, ℕ, List, map, sym, ap, ◌∙◌, subst}
use Rattle.cg_model.specs.declared.kernel.Node.{Node}
use Rattle.cg_model.specs.declared.kernel.OrderEdge.{OrderEdge}
use Rattle.cg_model.specs.Kernel.{IsKernel}
use Rattle.cg_simplify_draft.specs.Rewritten.{IsRewritten}
use Rattle.cg_simplify.specs.Live.{moved_node}
use Rattle.cg_simplify.proofs.Merged.{exchanges, merged, valid, wired}
use Rattle.cg_simplify.proofs.merging.merge.Goals as goal
use Rattle.cg_simplify.proofs.merging.merge.Goals.{After-new}

-- the new nodes
new_nodes : (c : After-new) → c.in_ok-nodes.nodes.items ≡ map (moved_node c.in_ok-into.into.items) c.args.kernel.now.nodes
new_nodes c =
    c.in_ok-nodes.ensures
    ∙ ap (λ (t : List ℕ). map (moved_node t) c.nodes-2.result.now) c.deref-2.ensures.value
    ∙ ap (λ (xs : List Node). map (moved_node c.in_ok-into.into.items) xs) c.nodes-2.ensures.nodes

same_kernel : (c : After-new) → record { nodes = c.in_ok-nodes.nodes.items; order = c.new.result.items } ≡ merged c.args.kernel.now c.in_ok-into.into.items
same_kernel c =
    ap (λ (xs : List Node). record { nodes = xs; order = c.new.result.items }) (new_nodes c)
    ∙ ap (λ (es : List OrderEdge). record { nodes = map (moved_node c.in_ok-into.into.items) c.args.kernel.now.nodes; order = es }) c.new.ensures.items

pub new-requires-2 : goal.new-requires-2
new-requires-2 c =
    subst IsKernel (sym (same_kernel c)) (valid c.args.kernel.now c.in_ok-into.into.items c.nodes.ensures.valid c.in_ok-into.ensures.0 c.in_ok-into.ensures.1)

pub returns-clause-rewritten : goal.returns-clause-rewritten
returns-clause-rewritten c =
    let K = c.args.kernel.now in
    let into = c.in_ok-into.into.items in
    let good = c.nodes.ensures.valid in
    let long = c.in_ok-into.ensures.0 in
    let all = c.in_ok-into.ensures.1 in
    subst (IsRewritten K) (sym (c.new-2.ensures ∙ same_kernel (goal.at.returns-clause-rewritten c).After-new))
    (c.operands_exchanged.ensures.rewritten K (merged K into) good (wired K into good long all) (exchanges K into good long all))
