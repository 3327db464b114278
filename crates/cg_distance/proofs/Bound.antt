-- A least distance fits: a chain that passes through each node at most once is short.
use Rattle.std.proofs.Common.{◌≡◌, ◌≢◌, ℕ, zero, suc, ◌+◌, ◌*◌, ◌^◌, ◌<◌, ◌≤◌, ◌⊎◌, inl, inr, List, [], ◌∷◌, length, sym, subst, arith, ⊎_elim, refl}
use Rattle.std.specs.Prelude.{eqb, if◌then◌else◌}
use Rattle.std.proofs.lemmas.Bool.{cases_eq, ne_eqb, eq-eqb}
use Rattle.cg_model.specs.Kernel.{Kernel, IsKernel, size}
use Rattle.cg_model.specs.Order.{Links, by_data, by_order, Chain, one, more}
use Rattle.cg_distance.proofs.Chains.{link_nodes}

-- a non-empty chain of edges whose inner nodes are all in P, with its total distance
data Through (K : Kernel) (P : ℕ → Type 0) : ℕ → ℕ → ℕ → Type 0 where
  link : {u v d : ℕ} → Links K u v d → Through K P u v d
  onward : {u v w d e : ℕ} → Links K u v d → P v → Through K P v w e → Through K P u w (d + e)

widened : (K : Kernel) (P Q : ℕ → Type 0) → ((y : ℕ) → P y → Q y) → (u v d : ℕ) → Through K P u v d → Through K Q u v d
widened K P Q h u v d (link l) = link l
widened K P Q h u w x (onward {v = v} {d = d} {e = e} l p c) = onward l (h v p) (widened K P Q h v w e c)

-- a chain that stays in P, and is no longer
abbrev Stays : Kernel → (ℕ → Type 0) → ℕ → ℕ → ℕ → Type 0
Stays K P u v e = (f : ℕ) × Through K P u v f × (f ≤ e)

-- a chain stays in P, or does so from where it last passes k
last_pass : (K : Kernel) (P Q : ℕ → Type 0) (k : ℕ) → ((y : ℕ) → Q y → P y ⊎ (y ≡ k)) → (u v e : ℕ) → Through K Q u v e → Stays K P u v e ⊎ Stays K P k v e
last_pass K P Q k split u v e (link l) = inl (e, link l, omega arith)
last_pass K P Q k split u w x (onward {v = v} {d = d} {e = e} l q c) =
    let longer : Stays K P k w e → Stays K P u w (d + e) ⊎ Stays K P k w (d + e) = λ s. let h : s.0 ≤ e = s.2 in inr (s.0, s.1, omega arith) in
    ⊎_elim
    (λ p. ⊎_elim (λ s. let h : s.0 ≤ e = s.2 in inl (d + s.0, onward l p s.1, omega arith)) longer (last_pass K P Q k split v w e c))
    (λ z. ⊎_elim (λ s. let h : s.0 ≤ e = s.2 in inr (s.0, subst (λ y. Through K P y w s.0) z s.1, omega arith)) longer (last_pass K P Q k split v w e c))
    (split v q)

-- the list holds y
abbrev Has : List ℕ → ℕ → Type 0
Has [] y = ⊥
Has (x ∷ xs) y = (y ≡ x) ⊎ Has xs y

-- the list without w
abbrev without : ℕ → List ℕ → List ℕ
without w [] = []
without w (x ∷ xs) = if eqb x w then without w xs else x ∷ without w xs

-- the numbers below k
abbrev below : ℕ → List ℕ
below zero = []
below (suc k) = k ∷ below k

has_below : (k y : ℕ) → y < k → Has (below k) y
has_below zero y h = absurd (omega arith)
has_below (suc k) y h = ⊎_elim (λ e. inl e) (λ no. inr (has_below k y (omega arith))) (cases_eq y k)

length_below : (k : ℕ) → length (below k) ≡ k
length_below zero = refl
length_below (suc k) = let h = length_below k in omega arith

no_longer : (w : ℕ) (xs : List ℕ) → length (without w xs) ≤ length xs
no_longer w [] = omega arith
no_longer w (x ∷ xs) =
    let h = no_longer w xs in
    ⊎_elim (λ e. rw (eq-eqb x w e) (omega arith)) (λ ne. rw (ne_eqb x w ne) (omega arith)) (cases_eq x w)

shorter : (w : ℕ) (xs : List ℕ) → Has xs w → length (without w xs) < length xs
shorter w [] h = absurd h
shorter w (x ∷ xs) h =
    ⊎_elim (λ e. let k : length (without w xs) ≤ length xs = no_longer w xs in rw (eq-eqb x w e) (omega arith))
    (λ ne. let k : length (without w xs) < length xs = shorter w xs (⊎_elim {C = Has xs w} (λ e. absurd (ne (sym e))) (λ z. z) h) in rw (ne_eqb x w ne) (omega arith))
    (cases_eq x w)

others : (w y : ℕ) (xs : List ℕ) → y ≢ w → Has xs y → Has (without w xs) y
others w y [] ne h = absurd h
others w y (x ∷ xs) ne h =
    ⊎_elim (λ e. rw (eq-eqb x w e) (⊎_elim (λ q. absurd (ne (let z : y ≡ w = omega arith in z))) (λ z. others w y xs ne z) h))
    (λ no. rw (ne_eqb x w no) (⊎_elim (λ q. inl q) (λ z. inr (others w y xs ne z)) h))
    (cases_eq x w)

near : (K : Kernel) → IsKernel K → (u v d : ℕ) → Links K u v d → d ≤ 255
near K good u v d (by_data p init l h) = let n : d ≤ 4 = good.near v p u d init l h in omega arith
near K good u v d (by_order e h) = good.order.near e u v d h

-- as many nodes as the list has may be passed through
bounded : (K : Kernel) → IsKernel K → (n : ℕ) (xs : List ℕ) (P : ℕ → Type 0) → length xs ≤ n → ((y : ℕ) → P y → Has xs y) → (u v d : ℕ) → Through K P u v d →
    (f : ℕ) × Through K P u v f × (f ≤ d) × (f ≤ 255 * (n + 1))
bounded K good n xs P short all u v d (link l) = let h = near K good u v d l in (d, link l, omega arith, omega arith)
bounded K good zero xs P short all u w x (onward {v = v} {d = d} {e = e} l p c) =
    absurd (let h : length (without v xs) < length xs = shorter v xs (all v p) in omega arith)
bounded K good (suc n) xs P short all u w x (onward {v = v} {d = d} {e = e} l p c) =
    let P' : ℕ → Type 0 = λ y. P y × (y ≢ v) in
    let s : Stays K P' v w e =
    ⊎_elim (λ z. z) (λ z. z) (last_pass K P' P v (λ y q. ⊎_elim (λ e. inr e) (λ ne. inl (q, ne)) (cases_eq y v)) v w e c) in
    let h : length (without v xs) < length xs = shorter v xs (all v p) in
    let b = bounded K good n (without v xs) P' (omega arith) (λ y q. others v y xs q.1 (all y q.0)) v w s.0 s.1 in
    let near_by : d ≤ 255 = near K good u v d l in
    let less : b.0 ≤ s.0 = b.2 in
    let few : b.0 ≤ 255 * (n + 1) = b.3 in
    let most : s.0 ≤ e = s.2 in
    (d + b.0, onward l p (widened K P' P (λ y q. q.0) v w b.0 b.1), omega arith, omega arith)

abbrev Before : ℕ → ℕ → Type 0
Before k v = v < k

through_chain : (K : Kernel) → IsKernel K → (u v d : ℕ) → Chain K u v d → Through K (Before (size K)) u v d
through_chain K good u v d (one l) = link l
through_chain K good u w x (more {v = v} {d = d} {e = e} l c) = onward l (link_nodes K good u v d l).1 (through_chain K good v w e c)

chain_through : (K : Kernel) (P : ℕ → Type 0) (u v d : ℕ) → Through K P u v d → Chain K u v d
chain_through K P u v d (link l) = one l
chain_through K P u w x (onward {v = v} {d = d} {e = e} l p c) = more l (chain_through K P v w e c)

-- a chain that is no longer, whose total is a 32-bit number
abbrev pub IsShort : Kernel → ℕ → ℕ → ℕ → Type 0
IsShort K u v e = (f : ℕ) × Chain K u v f × (f ≤ e) × (f < 2 ^ 32)

pub shortened : (K : Kernel) → IsKernel K → (u v e : ℕ) → Chain K u v e → IsShort K u v e
shortened K good u v e c =
    let k = size K in
    let long = length_below k in
    let few : k ≤ 1024 = good.few in
    let b = bounded K good k (below k) (Before k) (omega arith) (λ y h. has_below k y h) u v e (through_chain K good u v e c) in
    let least : b.0 ≤ e = b.2 in
    let short : b.0 ≤ 255 * (k + 1) = b.3 in
    (b.0, chain_through K (Before k) u v b.0 b.1, least, omega arith)
