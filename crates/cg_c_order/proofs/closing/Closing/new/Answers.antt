use Rattle.std.proofs.Common.{◌≡◌, ◌++◌, ◌∙◌, ap, length, subst, sym}
use Rattle.std.specs.Prelude.{Bool, List}
use Rattle.cg_model.specs.declared.kernel.Node.{Node}
use Rattle.cg_model.specs.declared.kernel.OrderEdge.{OrderEdge}
use Rattle.cg_c_order.specs.Accesses.{kernel_with}
use Rattle.cg_c_order.specs.Chains.{JoinBelow, data_edges, edges_of}
use Rattle.cg_c_order.proofs.Drafts.{closing_join, closing_start}
use Rattle.cg_c_order.proofs.closing.Closing.new.Goals as goal

-- the edges that were gathered are those of the kernel
gathered : (nodes lent_nodes : List Node) (order lent_order edges all lent_all : List OrderEdge) → lent_nodes ≡ nodes → lent_order ≡ order → edges ≡ data_edges lent_nodes → all ≡ edges ++ lent_order → lent_all ≡ all →
    lent_all ≡ edges_of (kernel_with nodes order)
gathered nodes lent_nodes order lent_order edges all lent_all en eo ee ea el = el ∙ ea ∙ ap (λ (z : List OrderEdge). z ++ lent_order) ee ∙ ap (λ (z : List Node). data_edges z ++ lent_order) en ∙ ap (λ (z : List OrderEdge). data_edges nodes ++ z) eo

pub next_rows-requires-clause-edges : goal.next_rows-requires-clause-edges
next_rows-requires-clause-edges c =
    let K = kernel_with c.args.nodes.items c.args.order.items in
    let e = gathered c.args.nodes.items c.deref.result.now c.args.order.items c.deref-2.result.now c.in_ok-edges.edges.items c.extend_from_slice.new.self.items c.deref-4.result.now c.deref.ensures.value c.deref-2.ensures.value c.in_ok-edges.ensures c.in_ok-extend_from_slice.ensures.items c.deref-4.ensures.value in
    subst (λ (z : List (List Bool)). JoinBelow (length z) c.deref-4.result.now) (sym c.deref-3.ensures.value) (closing_join K c.deref-4.result.now c.args.near.items c.requires e)

pub invariant_of-result : goal.invariant_of-result
invariant_of-result c =
    let K = kernel_with c.args.nodes.items c.args.order.items in
    let e = gathered c.args.nodes.items c.deref.result.now c.args.order.items c.deref-2.result.now c.in_ok-edges.edges.items c.extend_from_slice.new.self.items c.deref-4.result.now c.deref.ensures.value c.deref-2.ensures.value c.in_ok-edges.ensures c.in_ok-extend_from_slice.ensures.items c.deref-4.ensures.value in
    closing_start K c.deref-4.result.now c.args.near.items c.in_ok-next.next.items c.requires e (rw c.deref-3.ensures.value at c.in_ok-next.ensures)
