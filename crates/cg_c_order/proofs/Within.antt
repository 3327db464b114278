-- Chains within a turn and over at most one turn are those of the kernel.
use Rattle.std.proofs.Common.{◌≡◌, ℕ, ◌+◌, ◌<◌, ◌≤◌, ◌⊎◌, inl, inr, refl, sym, subst, arith, zero-add, ⊎_elim}
use Rattle.std.proofs.lemmas.Bool.{cases_lt}
use Rattle.cg_model.specs.Kernel.{Kernel}
use Rattle.cg_model.specs.Order.{Chain, Links, more, one}
use Rattle.cg_depend.specs.Depend.{Within}
use Rattle.cg_c_order.specs.Chains.{HasEdge, IsAhead, Leads, LeadsOver, at_once, by, edges_of}
use Rattle.cg_c_order.proofs.Data.{link_from, link_has}
use Rattle.cg_c_order.proofs.Paths.{leads_ahead}

leads_chain : (K : Kernel) (u v d : ℕ) → Chain K u v d → d ≡ 0 → Leads (edges_of K) u v
leads_chain K u v d (one l) z = at_once (subst (λ x. HasEdge (edges_of K) u v x) z (link_has K u v d l))
leads_chain K u w x (more {v = v} {d = d} {e = e} l c) z =
    let zd : d ≡ 0 = omega arith in
    let ze : e ≡ 0 = omega arith in
    by v (subst (λ x. HasEdge (edges_of K) u v x) zd (link_has K u v d l)) (leads_chain K v w e c ze)

pub leads_from : (K : Kernel) (u v : ℕ) → Within K u v 0 → Leads (edges_of K) u v
leads_from K u v h = let l : h.0 ≤ 0 = h.2 in leads_chain K u v h.0 h.1 (omega arith)

chain_leads : (K : Kernel) (u v : ℕ) → Leads (edges_of K) u v → Chain K u v 0
chain_leads K u v (at_once h) = one (link_from K u v 0 h)
chain_leads K u w (by v h c) = let e : 0 + 0 ≡ 0 = omega arith in subst (λ z. Chain K u w z) e (more (link_from K u v 0 h) (chain_leads K v w c))

pub leads_within : (K : Kernel) (u v : ℕ) → Leads (edges_of K) u v → Within K u v 0
leads_within K u v c = (0, chain_leads K u v c, omega arith)

-- ---- over at most one turn

zero_or_one : (d : ℕ) → d ≤ 1 → (d ≡ 0) ⊎ (d ≡ 1)
zero_or_one d l = ⊎_elim (λ h. inl (let z : d < 1 = h in omega arith)) (λ h. inr (let z : 1 ≤ d = h in omega arith)) (cases_lt d 1)

over_link : (K : Kernel) (u v d : ℕ) → Links K u v d → (d ≡ 0) ⊎ (d ≡ 1) → LeadsOver (edges_of K) (edges_of K) u v
over_link K u v d l (inl z) = inl (at_once (subst (λ x. HasEdge (edges_of K) u v x) z (link_has K u v d l)))
over_link K u v d l (inr z) = inr (record { last = u; first = v; turn = subst (λ x. HasEdge (edges_of K) u v x) z (link_has K u v d l); before = inl refl; after = inl refl })

step_over : (K : Kernel) (u v w : ℕ) → HasEdge (edges_of K) u v 0 → LeadsOver (edges_of K) (edges_of K) v w → LeadsOver (edges_of K) (edges_of K) u w
step_over K u v w h (inl c) = inl (by v h c)
step_over K u v w h (inr t) =
    inr (record { last = t.last; first = t.first; turn = t.turn; before = inr (leads_ahead (edges_of K) u v t.last (at_once h) t.before); after = t.after })

over_chain : (K : Kernel) (u v d : ℕ) → Chain K u v d → d ≤ 1 → LeadsOver (edges_of K) (edges_of K) u v
over_chain K u v d (one l) few = over_link K u v d l (zero_or_one d few)
over_chain K u w x (more {v = v} {d = d} {e = e} l c) few =
    ⊎_elim
    (λ z. step_over K u v w (subst (λ x. HasEdge (edges_of K) u v x) z (link_has K u v d l)) (over_chain K v w e c (omega arith)))
    (λ z. let ze : e ≡ 0 = omega arith in
    inr (record { last = u; first = v; turn = subst (λ x. HasEdge (edges_of K) u v x) z (link_has K u v d l); before = inl refl; after = inr (leads_chain K v w e c ze) }))
    (zero_or_one d (omega arith))

pub over_from : (K : Kernel) (u v : ℕ) → Within K u v 1 → LeadsOver (edges_of K) (edges_of K) u v
over_from K u v h = over_chain K u v h.0 h.1 h.2

chain_before : (K : Kernel) (u v w d : ℕ) → IsAhead (edges_of K) u v → Chain K v w d → Chain K u w d
chain_before K u v w d (inl e) c = subst (λ z. Chain K z w d) (sym e) c
chain_before K u v w d (inr l) c = chain_leads_on K u v w d l c where
  chain_leads_on : (K : Kernel) (u v w d : ℕ) → Leads (edges_of K) u v → Chain K v w d → Chain K u w d
  chain_leads_on K u v w d (at_once h) c = subst (λ z. Chain K u w z) (zero-add d) (more (link_from K u v 0 h) c)
  chain_leads_on K u x w d (by v h l) c = subst (λ z. Chain K u w z) (zero-add d) (more (link_from K u v 0 h) (chain_leads_on K v x w d l c))

turn_chain : (K : Kernel) (a b y : ℕ) → HasEdge (edges_of K) a b 1 → IsAhead (edges_of K) b y → Chain K a y 1
turn_chain K a b y h (inl e) = subst (λ z. Chain K a z 1) e (one (link_from K a b 1 h))
turn_chain K a b y h (inr l) = let e : 1 + 0 ≡ 1 = omega arith in subst (λ z. Chain K a y z) e (more (link_from K a b 1 h) (chain_leads K b y l))

pub over_within : (K : Kernel) (u v : ℕ) → LeadsOver (edges_of K) (edges_of K) u v → Within K u v 1
over_within K u v (inl c) = (0, chain_leads K u v c, omega arith)
over_within K u v (inr t) = (1, chain_before K u t.last v 1 t.before (turn_chain K t.last t.first v t.turn t.after), omega arith)
