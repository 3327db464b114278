-- Edges that are chosen one after the other.
use Rattle.std.proofs.Common.{◌≤◌, List, [], ◌∷◌, ◌++◌, length, refl, ap, sym, ◌∙◌, subst, arith, append_assoc, length-append}
use Rattle.std.proofs.lemmas.List.{append-nil}
use Rattle.cg_model.specs.declared.kernel.Node.{Node}
use Rattle.cg_model.specs.declared.kernel.OrderEdge.{OrderEdge}
use Rattle.cg_model.specs.Kernel.{Kernel}
use Rattle.cg_model.specs.Limits.{most_order_edges}
use Rattle.cg_depend.specs.Depend.{Within}
use Rattle.cg_c_order.specs.Accesses.{Chosen, IsExceeded, led, taken}
use Rattle.cg_c_order.specs.Choosing.{Exceeds, Takes, and_edge}

pub takes_none : (K : Kernel) → Takes K [] K
takes_none K = record { same = refl; chosen = λ before c. subst (λ z. Chosen K.nodes z K.order) (sym (append-nil before)) c }

pub takes_then : (K L M : Kernel) (a b : List OrderEdge) → Takes K a L → Takes L b M → Takes K (a ++ b) M
takes_then K L M a b s t = record {
  same = t.same ∙ s.same;
  chosen = λ before c.
      let here : Chosen L.nodes (before ++ a) L.order = subst (λ (z : List Node). Chosen z (before ++ a) L.order) (sym s.same) (s.chosen before c) in
      let there : Chosen K.nodes ((before ++ a) ++ b) M.order = subst (λ (z : List Node). Chosen z ((before ++ a) ++ b) M.order) s.same (t.chosen (before ++ a) here) in
      subst (λ z. Chosen K.nodes z M.order) (append_assoc before a b) there;
}

-- a chain leads to the end of the edge
pub takes_led : (K : Kernel) (w : OrderEdge) → Within K w.from w.to w.distance → Takes K (w ∷ []) K
takes_led K w within = record { same = refl; chosen = λ before c. led w c within }

-- none does, and the edge is taken
pub takes_edge : (K : Kernel) (w : OrderEdge) → (Within K w.from w.to w.distance → ⊥) → Takes K (w ∷ []) (and_edge K w)
takes_edge K w apart = record { same = refl; chosen = λ before c. taken w c apart }

-- none does, and there is no room
pub exceeds_edge : (K : Kernel) (w : OrderEdge) → (Within K w.from w.to w.distance → ⊥) → most_order_edges ≤ length K.order → Exceeds K (w ∷ [])
exceeds_edge K w apart full before c = record {
  first = before ++ w ∷ [];
  rest = [];
  edges = K.order ++ w ∷ [];
  parts = append-nil (before ++ w ∷ []);
  chosen = taken w c apart;
  many = omega (arith, length-append K.order (w ∷ []));
}

pub exceeds_then : (K L : Kernel) (a b : List OrderEdge) → Takes K a L → Exceeds L b → Exceeds K (a ++ b)
exceeds_then K L a b s x before c =
    let here : Chosen L.nodes (before ++ a) L.order = subst (λ (z : List Node). Chosen z (before ++ a) L.order) (sym s.same) (s.chosen before c) in
    let there : IsExceeded K.nodes ((before ++ a) ++ b) = subst (λ (z : List Node). IsExceeded z ((before ++ a) ++ b)) s.same (x (before ++ a) here) in
    subst (IsExceeded K.nodes) (append_assoc before a b) there

pub exceeds_part : (K : Kernel) (a b : List OrderEdge) → Exceeds K a → Exceeds K (a ++ b)
exceeds_part K a b x before c =
    let e = x before c in
    record {
      first = e.first;
      rest = e.rest ++ b;
      edges = e.edges;
      parts = sym (append_assoc e.first e.rest b) ∙ ap (λ z. z ++ b) e.parts ∙ append_assoc before a b;
      chosen = e.chosen;
      many = e.many;
    }
