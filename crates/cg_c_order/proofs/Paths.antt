-- Chains that go on, and those by one edge more.
use Rattle.std.proofs.Common.{◌≡◌, ℕ, ◌⊎◌, inl, inr, List, [], ◌∷◌, ◌++◌, ap, sym, subst, ⊎_elim}
use Rattle.cg_model.specs.declared.kernel.OrderEdge.{OrderEdge}
use Rattle.cg_c_order.specs.Accesses.{edge}
use Rattle.cg_c_order.specs.Chains.{HasEdge, IsAhead, Leads, LeadsOver, Turns, at_once, by}
use Rattle.cg_c_order.proofs.Data.{has_last, has_left, has_push_cases, has_push_other}

pub leads_kept : (E F : List OrderEdge) → ((u v : ℕ) → HasEdge E u v 0 → HasEdge F u v 0) → (x y : ℕ) → Leads E x y → Leads F x y
leads_kept E F h u v (at_once e) = at_once (h u v e)
leads_kept E F h u w (by v e c) = by v (h u v e) (leads_kept E F h v w c)

ahead_kept : (E F : List OrderEdge) → ((u v : ℕ) → HasEdge E u v 0 → HasEdge F u v 0) → (x y : ℕ) → IsAhead E x y → IsAhead F x y
ahead_kept E F h x y (inl e) = inl e
ahead_kept E F h x y (inr c) = inr (leads_kept E F h x y c)

leads_on : (E : List OrderEdge) (x y z : ℕ) → Leads E x y → Leads E y z → Leads E x z
leads_on E u v z (at_once e) d = by v e d
leads_on E u w z (by v e c) d = by v e (leads_on E v w z c d)

pub leads_ahead : (E : List OrderEdge) (x y z : ℕ) → Leads E x y → IsAhead E y z → Leads E x z
leads_ahead E x y z c (inl e) = subst (λ w. Leads E x w) e c
leads_ahead E x y z c (inr d) = leads_on E x y z c d

ahead_leads : (E : List OrderEdge) (x y z : ℕ) → IsAhead E x y → Leads E y z → Leads E x z
ahead_leads E x y z (inl e) d = subst (λ w. Leads E w z) (sym e) d
ahead_leads E x y z (inr c) d = leads_on E x y z c d

ahead_ahead : (E : List OrderEdge) (x y z : ℕ) → IsAhead E x y → IsAhead E y z → IsAhead E x z
ahead_ahead E x y z (inl e) d = subst (λ w. IsAhead E w z) (sym e) d
ahead_ahead E x y z (inr c) d = inr (leads_ahead E x y z c d)

-- ---- an edge within the turn

-- a chain with one edge more is one without it, or goes by way of it
abbrev pub ByWay : List OrderEdge → ℕ → ℕ → ℕ → ℕ → Type 0
ByWay E a b x y = IsAhead E x a × IsAhead E b y

split_by : (E : List OrderEdge) (a b u v w : ℕ) → HasEdge E u v 0 ⊎ (edge a b 0 ≡ edge u v 0) → Leads E v w ⊎ ByWay E a b v w → Leads E u w ⊎ ByWay E a b u w
split_by E a b u v w (inl h) (inl c) = inl (by v h c)
split_by E a b u v w (inl h) (inr c) = inr (inr (leads_ahead E u v a (at_once h) c.0), c.1)
split_by E a b u v w (inr e) (inl c) =
    let eu : u ≡ a = sym (ap (λ (z : OrderEdge). z.from) e) in
    let ev : b ≡ v = ap (λ (z : OrderEdge). z.to) e in
    inr (inl eu, inr (subst (λ z. Leads E z w) (sym ev) c))
split_by E a b u v w (inr e) (inr c) = let eu : u ≡ a = sym (ap (λ (z : OrderEdge). z.from) e) in inr (inl eu, c.1)

pub leads_split : (E : List OrderEdge) (a b x y : ℕ) → Leads (E ++ edge a b 0 ∷ []) x y → Leads E x y ⊎ ByWay E a b x y
leads_split E a b u v (at_once h) =
    ⊎_elim (λ i. inl (at_once i))
    (λ e. let eu : u ≡ a = sym (ap (λ (z : OrderEdge). z.from) e) in let ev : b ≡ v = ap (λ (z : OrderEdge). z.to) e in inr (inl eu, inl ev))
    (has_push_cases E (edge a b 0) u v 0 h)
leads_split E a b u w (by v h c) = split_by E a b u v w (has_push_cases E (edge a b 0) u v 0 h) (leads_split E a b v w c)

pub leads_join : (E : List OrderEdge) (a b x y : ℕ) → Leads E x y ⊎ ByWay E a b x y → Leads (E ++ edge a b 0 ∷ []) x y
leads_join E a b x y (inl c) = leads_kept E (E ++ edge a b 0 ∷ []) (λ u v. has_left E (edge a b 0 ∷ []) u v 0) x y c
leads_join E a b x y (inr c) =
    let F = E ++ edge a b 0 ∷ [] in
    let kept : (u v : ℕ) → HasEdge E u v 0 → HasEdge F u v 0 = λ u v. has_left E (edge a b 0 ∷ []) u v 0 in
    ahead_leads F x a y (ahead_kept E F kept x a c.0) (leads_ahead F a b y (at_once (has_last E a b 0)) (ahead_kept E F kept b y c.1))

-- an edge to a later turn adds no chain within a turn
pub leads_more : (E : List OrderEdge) (w : OrderEdge) (x y : ℕ) → Leads E x y → Leads (E ++ w ∷ []) x y
leads_more E w x y c = leads_kept E (E ++ w ∷ []) (λ u v. has_left E (w ∷ []) u v 0) x y c

pub leads_less : (E : List OrderEdge) (w : OrderEdge) → (w.distance ≡ 0 → ⊥) → (x y : ℕ) → Leads (E ++ w ∷ []) x y → Leads E x y
leads_less E w differs x y c = leads_kept (E ++ w ∷ []) E (λ u v. has_push_other E w u v 0 differs) x y c

-- ---- an edge to the next turn

pub over_ahead : (E M : List OrderEdge) (x y z : ℕ) → LeadsOver E M x y → IsAhead E y z → LeadsOver E M x z
over_ahead E M x y z (inl c) d = inl (leads_ahead E x y z c d)
over_ahead E M x y z (inr t) d = inr (record { last = t.last; first = t.first; turn = t.turn; before = t.before; after = ahead_ahead E t.first y z t.after d })

turns_kept : (E M F N : List OrderEdge) → ((u v : ℕ) → HasEdge E u v 0 → HasEdge F u v 0) → ((u v : ℕ) → HasEdge M u v 1 → HasEdge N u v 1) → (x y : ℕ) → Turns E M x y → Turns F N x y
turns_kept E M F N h k x y t = record {
  last = t.last;
  first = t.first;
  turn = k t.last t.first t.turn;
  before = ahead_kept E F h x t.last t.before;
  after = ahead_kept E F h t.first y t.after;
}

pub over_kept : (E M F N : List OrderEdge) → ((u v : ℕ) → HasEdge E u v 0 → HasEdge F u v 0) → ((u v : ℕ) → HasEdge M u v 1 → HasEdge N u v 1) → (x y : ℕ) → LeadsOver E M x y → LeadsOver F N x y
over_kept E M F N h k x y (inl c) = inl (leads_kept E F h x y c)
over_kept E M F N h k x y (inr t) = inr (turns_kept E M F N h k x y t)

pub over_split : (E M : List OrderEdge) (a b x y : ℕ) → LeadsOver E (M ++ edge a b 1 ∷ []) x y → LeadsOver E M x y ⊎ ByWay E a b x y
over_split E M a b x y (inl c) = inl (inl c)
over_split E M a b x y (inr t) =
    ⊎_elim (λ i. inl (inr (record { last = t.last; first = t.first; turn = i; before = t.before; after = t.after })))
    (λ e.
    let ea : t.last ≡ a = sym (ap (λ (z : OrderEdge). z.from) e) in
    let eb : t.first ≡ b = sym (ap (λ (z : OrderEdge). z.to) e) in
    inr (subst (λ z. IsAhead E x z) ea t.before, subst (λ z. IsAhead E z y) eb t.after))
    (has_push_cases M (edge a b 1) t.last t.first 1 t.turn)

pub over_join : (E M : List OrderEdge) (a b x y : ℕ) → LeadsOver E M x y ⊎ ByWay E a b x y → LeadsOver E (M ++ edge a b 1 ∷ []) x y
over_join E M a b x y (inl c) = over_kept E M E (M ++ edge a b 1 ∷ []) (λ u v h. h) (λ u v. has_left M (edge a b 1 ∷ []) u v 1) x y c
over_join E M a b x y (inr c) = inr (record { last = a; first = b; turn = has_last M a b 1; before = c.0; after = c.1 })

-- an edge over another number of turns
pub over_more : (E M : List OrderEdge) (w : OrderEdge) (x y : ℕ) → LeadsOver E M x y → LeadsOver E (M ++ w ∷ []) x y
over_more E M w x y c = over_kept E M E (M ++ w ∷ []) (λ u v h. h) (λ u v. has_left M (w ∷ []) u v 1) x y c

pub over_less : (E M : List OrderEdge) (w : OrderEdge) → (w.distance ≡ 1 → ⊥) → (x y : ℕ) → LeadsOver E (M ++ w ∷ []) x y → LeadsOver E M x y
over_less E M w differs x y c = over_kept E (M ++ w ∷ []) E M (λ u v h. h) (λ u v. has_push_other M w u v 1 differs) x y c
