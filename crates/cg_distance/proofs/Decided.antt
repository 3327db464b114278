-- Whether one step is ordered before another is decided.
use Rattle.std.proofs.Common.{◌≡◌, ℕ, zero, suc, ◌+◌, ◌-◌, ◌*◌, ◌<◌, ◌≤◌, ◌⊎◌, inl, inr, List, length, refl, ap, ◌∙◌, subst, arith, ⊎_elim, mul-le-mul_right}
use Rattle.std.specs.Prelude.{Option, Some, None, slice_get}
use Rattle.std.proofs.lemmas.Bool.{cases_eq, cases_lt}
use Rattle.std.proofs.lemmas.Option.{slice_get_within}
use Rattle.cg_model.specs.declared.kernel.Operand.{Operand}
use Rattle.cg_model.specs.declared.kernel.Operand.TheVariants.{Const as Constant, Edge}
use Rattle.cg_model.specs.declared.kernel.OrderEdge.{OrderEdge}
use Rattle.cg_model.specs.Kernel.{Kernel, HasOperand, HasOrder, IsKernel, size, node}
use Rattle.cg_model.specs.Order.{Links, by_data, by_order, Chain, one, more, IsOrdered}
use Rattle.cg_distance.proofs.Chains.{link_nodes}
use Rattle.cg_distance.proofs.Searches.{Decided, less_decided, either_decided, last_below, some_decided}

-- ---- links

-- an operand is an edge from u over d turns, with some first words
abbrev IsEdge : ℕ → ℕ → Option Operand → Type 0
IsEdge u d o = (init : List ℕ) × (o ≡ Some (Edge u d init))

edge_decided : (o : Option Operand) (u d : ℕ) → Decided (IsEdge u d o)
edge_decided None u d = inr (λ h. let bad : None ≡ Some (Edge u d h.0) = h.1 in cc)
edge_decided (Some (Constant w)) u d = inr (λ h. let bad : Some (Constant w) ≡ Some (Edge u d h.0) = h.1 in cc)
edge_decided (Some (Edge x e init)) u d =
    ⊎_elim
    (λ a. ⊎_elim
    (λ b. inl (init, ap (λ z. Some (Edge z e init)) a ∙ ap (λ z. Some (Edge u z init)) b))
    (λ no. inr (λ h. let same : Some (Edge x e init) ≡ Some (Edge u d h.0) = h.1 in let b : e ≡ d = cc in no b))
    (cases_eq e d))
    (λ no. inr (λ h. let same : Some (Edge x e init) ≡ Some (Edge u d h.0) = h.1 in let a : x ≡ u = cc in no a))
    (cases_eq x u)

abbrev order_edge : ℕ → ℕ → ℕ → OrderEdge
order_edge u v d = record { from = u; to = v; distance = d }

order_decided : (o : Option OrderEdge) (u v d : ℕ) → Decided (o ≡ Some (order_edge u v d))
order_decided None u v d = inr (λ h. cc)
order_decided (Some e) u v d =
    ⊎_elim
    (λ a. ⊎_elim
    (λ b. ⊎_elim
    (λ c. inl (ap (λ z. Some (order_edge z e.to e.distance)) a ∙ ap (λ z. Some (order_edge u z e.distance)) b ∙ ap (λ z. Some (order_edge u v z)) c))
    (λ no. inr (λ h. let same : e ≡ order_edge u v d = cc in no (ap (λ (z : OrderEdge). z.distance) same)))
    (cases_eq e.distance d))
    (λ no. inr (λ h. let same : e ≡ order_edge u v d = cc in no (ap (λ (z : OrderEdge). z.to) same)))
    (cases_eq e.to v))
    (λ no. inr (λ h. let same : e ≡ order_edge u v d = cc in no (ap (λ (z : OrderEdge). z.from) same)))
    (cases_eq e.from u)

-- a link is an operand of a node, or an order edge
abbrev ByOperand : Kernel → ℕ → ℕ → ℕ → Type 0
ByOperand K u v d = (p : ℕ) × IsEdge u d (slice_get (node K v).operands p)

abbrev ByOrder : Kernel → ℕ → ℕ → ℕ → Type 0
ByOrder K u v d = (e : ℕ) × HasOrder K e u v d

parts_of : (K : Kernel) (u v d : ℕ) → Links K u v d → ((v < size K) × ByOperand K u v d) ⊎ ByOrder K u v d
parts_of K u v d (by_data p init l h) = inl (l, (p, (init, h)))
parts_of K u v d (by_order e h) = inr (e, h)

link_by : (K : Kernel) (u v d : ℕ) → Decided (v < size K) → Decided (ByOperand K u v d) → Decided (ByOrder K u v d) → Decided (Links K u v d)
link_by K u v d known (inr not_one) (inr none) = inr (λ l. ⊎_elim (λ h. not_one h.1) none (parts_of K u v d l))
link_by K u v d (inl h) (inl a) order = inl (by_data a.0 a.1.0 h a.1.1)
link_by K u v d known operand (inl b) = inl (by_order b.0 b.1)
link_by K u v d (inr far) (inl a) (inr none) = inr (λ l. ⊎_elim (λ h. far h.0) none (parts_of K u v d l))

-- whether there is a link is decided
link_decided : (K : Kernel) (u v d : ℕ) → Decided (Links K u v d)
link_decided K u v d =
    let operands = (node K v).operands in
    link_by K u v d
    (less_decided v (size K))
    (some_decided (λ p. IsEdge u d (slice_get operands p)) (length operands) (λ p h. edge_decided (slice_get operands p) u d) (λ p h. slice_get_within operands p (Edge u d h.0) h.1))
    (some_decided (λ e. HasOrder K e u v d) (length K.order) (λ e h. order_decided (slice_get K.order e) u v d) (λ e h. slice_get_within K.order e (order_edge u v d) h))

-- ---- chains

-- a chain of at most `most` turns
abbrev IsNear : Kernel → ℕ → ℕ → ℕ → Type 0
IsNear K u v most = (d : ℕ) × Chain K u v d × (d ≤ most)

-- it begins with a link to w over d turns
abbrev Begins : Kernel → ℕ → ℕ → ℕ → ℕ → ℕ → Type 0
Begins K u v most w d = Links K u w d × ((w ≡ v) ⊎ IsNear K w v (most - d))

abbrev BeginsTo : Kernel → ℕ → ℕ → ℕ → ℕ → Type 0
BeginsTo K u v most w = (d : ℕ) × (d < most + 1) × Begins K u v most w d

near_from : (K : Kernel) (u v most w d : ℕ) → d ≤ most → Links K u w d → (w ≡ v) ⊎ IsNear K w v (most - d) → IsNear K u v most
near_from K u v most w d h l (inl e) = (d, one (subst (λ z. Links K u z d) e l), h)
near_from K u v most w d h l (inr n) = let few : n.0 ≤ most - d = n.2 in (d + n.0, more l n.1, omega arith)

-- and each chain begins so
begin_chain : (K : Kernel) → IsKernel K → (u v e most : ℕ) → Chain K u v e → e ≤ most → (w : ℕ) × (w < size K) × BeginsTo K u v most w
begin_chain K good u v d most (one l) h = (v, (link_nodes K good u v d l).1, (d, omega arith, (l, inl refl)))
begin_chain K good u x y most (more {v = v} {d = d} {e = e} l c) h = (v, (link_nodes K good u v d l).1, (d, omega arith, (l, inr (e, c, omega arith))))

-- a link without distance leads on to a later node
forward : (K : Kernel) → IsKernel K → (u v d : ℕ) → d ≡ 0 → Links K u v d → u < v
forward K good u v d e (by_data p init l h) = good.wired.forward v p u init l (subst (λ z. HasOperand K v p (Edge u z init)) e h)
forward K good u v d e (by_order n h) = good.order.forward n u v (subst (λ z. HasOrder K n u v z) e h)

fewer_turns : (most d wide a b : ℕ) → d ≤ most → 0 < d → a < wide → (most - d) * wide + a < most * wide + b
fewer_turns most d wide a b h some few =
    let less : suc (most - d) ≤ most = omega arith in
    let p : suc (most - d) * wide ≤ most * wide = mul-le-mul_right wide less in
    omega arith

-- so there is less to look at behind a link
less_left : (K : Kernel) → IsKernel K → (most u w d : ℕ) → d ≤ most → Links K u w d → (most - d) * (size K + 1) + (size K - w) < most * (size K + 1) + (size K - u)
less_left K good most u w d h l =
    let known : w < size K = (link_nodes K good u w d l).1 in
    ⊎_elim
    (λ e.
    let up : u < w = forward K good u w d e l in
    let same : most - d ≡ most = omega arith in
    rw same (omega arith))
    (λ ne. fewer_turns most d (size K + 1) (size K - w) (size K - u) h (omega arith) (omega arith))
    (cases_eq d 0)

near_decided : (K : Kernel) → IsKernel K → (left most u v : ℕ) → most * (size K + 1) + (size K - u) < left → Decided (IsNear K u v most)
near_decided K good zero most u v h = absurd (omega arith)
near_decided K good (suc left) most u v h =
    let behind : (w d : ℕ) → d < most + 1 → Decided (Links K u w d) → Decided (Begins K u v most w d) =
    λ w d few. ⊎_elim
    (λ l.
    let less = less_left K good most u w d (omega arith) l in
    ⊎_elim (λ z. inl (l, z)) (λ no. inr (λ b. no b.1)) (either_decided (w ≡ v) (IsNear K w v (most - d)) (cases_eq w v) (near_decided K good left (most - d) w v (omega arith))))
    (λ no. inr (λ b. no b.0)) in
    let to : (w : ℕ) → w < size K → Decided (BeginsTo K u v most w) =
    λ w known. ⊎_elim (λ f. inl (f.0, f.1.within, f.1.holds)) (λ none. inr (λ b. none b.0 b.1 b.2)) (last_below (Begins K u v most w) (most + 1) (λ d few. behind w d few (link_decided K u w d))) in
    ⊎_elim
    (λ f. let b = f.1.holds in let few : b.0 < most + 1 = b.1 in inl (near_from K u v most f.0 b.0 (omega arith) b.2.0 b.2.1))
    (λ none. inr (λ c. let b = begin_chain K good u v c.0 most c.1 c.2 in none b.0 b.1 b.2))
    (last_below (BeginsTo K u v most) (size K) to)

-- ---- steps

abbrev IsChained : Kernel → ℕ → ℕ → ℕ → ℕ → Type 0
IsChained K u i v j = (d : ℕ) × Chain K u v d × (i + d ≤ j)

chained_decided : (K : Kernel) → IsKernel K → (u i v j : ℕ) → Decided (IsChained K u i v j)
chained_decided K good u i v j =
    ⊎_elim
    (λ lt. inr (λ c. let h : i + c.0 ≤ j = c.2 in omega arith))
    (λ ge. ⊎_elim
    (λ n. let h : n.0 ≤ j - i = n.2 in inl (n.0, n.1, omega arith))
    (λ no. inr (λ c. let h : i + c.0 ≤ j = c.2 in no (c.0, c.1, omega arith)))
    (near_decided K good (suc ((j - i) * (size K + 1) + (size K - u))) (j - i) u v (omega arith)))
    (cases_lt j i)

-- whether a node in a turn is ordered before another in another is decided
pub ordered_decided : (K : Kernel) → IsKernel K → (u i v j : ℕ) → Decided (IsOrdered K u i v j)
ordered_decided K good u i v j =
    ⊎_elim
    (λ e. ⊎_elim
    (λ h. inl (inl (e, h)))
    (λ no. ⊎_elim (λ c. inl (inr c)) (λ none. inr (λ o. ⊎_elim (λ a. no a.1) none o)) (chained_decided K good u i v j))
    (less_decided i j))
    (λ no. ⊎_elim (λ c. inl (inr c)) (λ none. inr (λ o. ⊎_elim (λ a. no a.0) none o)) (chained_decided K good u i v j))
    (cases_eq u v)
