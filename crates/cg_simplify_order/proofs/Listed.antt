-- Order edges in lists.
use Rattle.std.proofs.Common.{ℕ, ◌<◌, ◌≤◌, List, length, get_or, ◌∙◌, subst, arith, ⊎_elim}
use Rattle.std.specs.Prelude.{Contains}
use Rattle.std.proofs.lemmas.List.{get_or_default}
use Rattle.cg_model.specs.declared.kernel.OrderEdge.{OrderEdge}
use Rattle.cg_simplify_order.specs.Found.{AddsAtMost, AreAmong, edge}

-- what holds at each place holds of each
pub at_each : (P : OrderEdge → Type 0) (es : List OrderEdge) (n : ℕ) → length es ≤ n → ((k : ℕ) → k < n → P (get_or es k (edge 0 0 0))) → (e : OrderEdge) → Contains es e → P e
at_each P es n l each e h = let b = h.1 in subst P (get_or_default es h.0 (edge 0 0 0) e b ∙ h.2) (each h.0 (omega arith))

pub among_more : (all old new : List OrderEdge) (e : OrderEdge) → Contains all e → AddsAtMost e old new → AreAmong all old → AreAmong all new
among_more all old new e there adds among f h = ⊎_elim (λ o. among f o) (λ s. subst (Contains all) s there) (adds f h)
