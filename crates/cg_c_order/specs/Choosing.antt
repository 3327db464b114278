-- The state of the code while it chooses the edges.
use Rattle.std.specs.Prelude.{◌≡◌, Bool, List, ◌∷◌, [], ◌++◌}
use Rattle.cg_model.specs.declared.kernel.OrderEdge.{OrderEdge}
use Rattle.cg_model.specs.Kernel.{Kernel, IsKernel, size}
use Rattle.cg_c_order.specs.Accesses.{Chosen, IsExceeded, kernel_with}
use Rattle.cg_c_order.specs.Chains.{Leads, LeadsOver, edges_of}
use Rattle.cg_c_order.specs.Marks.{IsTable}

-- K' is K with the edges that are taken for these further wanted edges
pub record Takes (K : Kernel) (wishes : List OrderEdge) (K' : Kernel) : Type 0 where
  pub same : K'.nodes ≡ K.nodes
  pub chosen : (before : List OrderEdge) → Chosen K.nodes before K.order → Chosen K.nodes (before ++ wishes) K'.order

-- with these further wanted edges K would have too many
abbrev pub Exceeds : Kernel → List OrderEdge → Type 0
Exceeds K wishes = (before : List OrderEdge) → Chosen K.nodes before K.order → IsExceeded K.nodes (before ++ wishes)

-- K with one more order edge
abbrev pub and_edge : Kernel → OrderEdge → Kernel
and_edge K e = kernel_with K.nodes (K.order ++ e ∷ [])

-- `near` has the chains of K within a turn
pub record IsDraft (K : Kernel) (near : List (List Bool)) : Type 0 where
  pub valid : IsKernel K
  pub chains : IsTable (size K) (Leads (edges_of K)) near

-- `near` has the chains of K within a turn, and `next` those over at most one turn
pub record IsClosing (K : Kernel) (near next : List (List Bool)) : Type 0 where
  pub draft : IsDraft K near
  pub chains : IsTable (size K) (LeadsOver (edges_of K) (edges_of K)) next
