-- Chains join nodes, and go on by a link.
use Rattle.std.proofs.Common.{ℕ, ◌+◌, ◌<◌, sym, subst, add_assoc}
use Rattle.cg_model.specs.Kernel.{Kernel, IsKernel, size}
use Rattle.cg_model.specs.Order.{Links, by_data, by_order, Chain, one, more}

pub link_nodes : (K : Kernel) → IsKernel K → (u v d : ℕ) → Links K u v d → (u < size K) × (v < size K)
link_nodes K good u v d (by_data p init l h) = (good.wired.sources v p u d init l h, l)
link_nodes K good u v d (by_order e h) = good.order.known e u v d h

pub chain_nodes : (K : Kernel) → IsKernel K → (u v d : ℕ) → Chain K u v d → (u < size K) × (v < size K)
chain_nodes K good u v d (one l) = link_nodes K good u v d l
chain_nodes K good u w x (more {v = v} {d = d} {e = e} l c) = ((link_nodes K good u v d l).0, (chain_nodes K good v w e c).1)

pub extended : (K : Kernel) (w x f : ℕ) → Links K w x f → (u d : ℕ) → Chain K u w d → Chain K u x (d + f)
extended K w x f k u d (one l) = more l (one k)
extended K w x f k u y (more {v = v} {d = d} {e = e} l c) = subst (λ z. Chain K u x z) (sym (add_assoc d e f)) (more l (extended K w x f k v e c))
