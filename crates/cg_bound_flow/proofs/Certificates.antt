-- The lists of a certificate, edge by edge.
use Rattle.std.proofs.Common.{◌≡◌, ℕ, suc, ◌+◌, ◌*◌, ◌^◌, ◌<◌, ◌≤◌, length, add-one, List, [], ◌∷◌, ◌++◌, Option, Some, None, refl, sym, ap, ◌∙◌, subst, arith}
use Rattle.std.specs.Prelude.{slice_index}
use Rattle.cg_bound_registers.specs.declared.dependence.Dependence.{Dependence}
use Rattle.cg_bound_registers.specs.declared.certificate.Stay.{Stay as StayEdge}
use Rattle.cg_bound_registers.specs.declared.certificate.Pull.{Pull as PullEdge}
use Rattle.cg_bound_registers.specs.declared.certificate.Tie.{Tie as TieEdge}
use Rattle.cg_model.specs.Kernel.{Kernel}
use Rattle.cg_bound_registers.specs.Pressure.{data_edge, order_edge, on_edge, weigh, total}
use Rattle.cg_bound_flow.specs.declared.network.Link.{Link}
use Rattle.cg_bound_flow.specs.declared.network.Part.{Part}
use Rattle.cg_bound_flow.specs.declared.network.Part.TheVariants.{Stay, Pull, Tie}
use Rattle.cg_bound_flow.specs.Network.{link}
use Rattle.cg_bound_registers.specs.declared.certificate.Pressure.{Pressure}
use Rattle.cg_bound_registers.specs.Sums.{IsShort}
use Rattle.cg_bound_flow.specs.Taken.{on_stay, on_pull, on_tie, taken, HasAtMost}

pub weigh_more : {X : Type 0} (weight : X → ℕ) (edge : X → Option Dependence) (f : Dependence → ℕ) (xs : List X) (x : X) →
    weigh weight edge f (xs ++ (x ∷ [])) ≡ weigh weight edge f xs + weight x * on_edge f (edge x)
weigh_more weight edge f [] x = omega arith
weigh_more weight edge f (y ∷ ys) x = let h = weigh_more weight edge f ys x in omega arith

pub weigh_added : {X : Type 0} (weight : X → ℕ) (edge : X → Option Dependence) (f : Dependence → ℕ) (xs xs' : List X) (x : X) → xs' ≡ xs ++ (x ∷ []) →
    weigh weight edge f xs' ≡ weigh weight edge f xs + weight x * on_edge f (edge x)
weigh_added weight edge f xs xs' x e = ap (weigh weight edge f) e ∙ weigh_more weight edge f xs x

-- a constant factor
pub weigh_times : {X : Type 0} (weight : X → ℕ) (edge : X → Option Dependence) (f : Dependence → ℕ) (c : ℕ) (xs : List X) → weigh weight edge (λ a. c * f a) xs ≡ c * weigh weight edge f xs
weigh_times weight edge f c [] = omega arith
weigh_times weight edge f c (x ∷ xs) =
    let h = weigh_times weight edge f c xs in
    let g : on_edge (λ a. c * f a) (edge x) ≡ c * on_edge f (edge x) = one (edge x) in
    let g' = ap (λ z. weight x * z) g in
    omega arith
  where
    one : (o : Option Dependence) → on_edge (λ a. c * f a) o ≡ c * on_edge f o
    one None = omega arith
    one (Some a) = refl

-- ---- as the code adds edges

pub stay_added : (K : Kernel) (f : Dependence → ℕ) (xs xs' : List StayEdge) (part : Part) (v p w : ℕ) → 0 < w → w ≤ 1 → xs' ≡ xs ++ (record { node = v; arg = p } ∷ []) → part ≡ Stay v p →
    weigh (λ (s : StayEdge). 1) (λ s. data_edge K s.node s.arg) f xs' ≡ weigh (λ (s : StayEdge). 1) (λ s. data_edge K s.node s.arg) f xs + w * on_stay K f part
stay_added K f xs xs' part v p w l m e q =
    let one : 1 ≡ w = omega arith in
    subst (λ z. weigh (λ (s : StayEdge). 1) (λ s. data_edge K s.node s.arg) f xs' ≡ weigh (λ (s : StayEdge). 1) (λ s. data_edge K s.node s.arg) f xs + z * on_stay K f part) one
    (weigh_added (λ (s : StayEdge). 1) (λ s. data_edge K s.node s.arg) f xs xs' (record { node = v; arg = p }) e
    ∙ ap (λ z. weigh (λ (s : StayEdge). 1) (λ s. data_edge K s.node s.arg) f xs + 1 * on_stay K f z) (sym q))

pub pull_added : (K : Kernel) (f : Dependence → ℕ) (xs xs' : List PullEdge) (part : Part) (v p w : ℕ) → xs' ≡ xs ++ (record { node = v; arg = p; weight = w } ∷ []) → part ≡ Pull v p →
    weigh (λ (x : PullEdge). x.weight) (λ x. data_edge K x.node x.arg) f xs' ≡ weigh (λ (x : PullEdge). x.weight) (λ x. data_edge K x.node x.arg) f xs + w * on_pull K f part
pull_added K f xs xs' part v p w e q =
    weigh_added (λ (x : PullEdge). x.weight) (λ x. data_edge K x.node x.arg) f xs xs' (record { node = v; arg = p; weight = w }) e
    ∙ ap (λ z. weigh (λ (x : PullEdge). x.weight) (λ x. data_edge K x.node x.arg) f xs + w * on_pull K f z) (sym q)

pub tie_added : (K : Kernel) (f : Dependence → ℕ) (xs xs' : List TieEdge) (part : Part) (k w : ℕ) → xs' ≡ xs ++ (record { edge = k; weight = w } ∷ []) → part ≡ Tie k →
    weigh (λ (x : TieEdge). x.weight) (λ x. order_edge K x.edge) f xs' ≡ weigh (λ (x : TieEdge). x.weight) (λ x. order_edge K x.edge) f xs + w * on_tie K f part
tie_added K f xs xs' part k w e q =
    weigh_added (λ (x : TieEdge). x.weight) (λ x. order_edge K x.edge) f xs xs' (record { edge = k; weight = w }) e
    ∙ ap (λ z. weigh (λ (x : TieEdge). x.weight) (λ x. order_edge K x.edge) f xs + w * on_tie K f z) (sym q)

module _ (links : List Link) (flow : List ℕ) (k : ℕ) (f : Part → ℕ) where
  pub next_suc : (s s' : ℕ) → s ≡ taken links flow k f → s' ≡ s + slice_index flow k * f (link links k).part → s' ≡ taken links flow (suc k) f
  next_suc s s' a b = b ∙ ap (λ z. z + slice_index flow k * f (link links k).part) a

  pub next : (s s' : ℕ) → s ≡ taken links flow k f → s' ≡ s + slice_index flow k * f (link links k).part → s' ≡ taken links flow (k + 1) f
  next s s' a b = rw add-one (next_suc s s' a b)

  pub whole : (s : ℕ) → k ≡ length links → s ≡ taken links flow k f → s ≡ taken links flow (length links) f
  whole s e a = a ∙ ap (λ j. taken links flow j f) e

-- a list that grew by at most one
pub one_more : (k n m : ℕ) → n ≤ k → m ≤ n + 1 → m ≤ k + 1
one_more k n m a b = omega arith

-- lists with at most an edge for each link are short
pub short : (n : ℕ) (P : Pressure) → n ≤ 2 ^ 14 → HasAtMost n P → IsShort P
short n P few (a, b, c) = (omega arith, omega arith, omega arith)
