-- The part of the flows on links that a certificate takes.
use Rattle.std.specs.Prelude.{◌≡◌, ℕ, ◌+◌, ◌*◌, ◌≤◌, eqb, List, length, slice_index}
use Rattle.cg_model.specs.Kernel.{Kernel}
use Rattle.cg_bound_registers.specs.declared.certificate.Pressure.{Pressure}
use Rattle.cg_bound_registers.specs.declared.dependence.Dependence.{Dependence}
use Rattle.cg_bound_registers.specs.Pressure.{data_edge, order_edge, on_edge, one_if, stays, pulls, ties, total}
use Rattle.cg_bound_flow.specs.declared.network.Link.{Link}
use Rattle.cg_bound_flow.specs.declared.network.Part.{Part}
use Rattle.cg_bound_flow.specs.declared.network.Part.TheVariants.{Least, Most, Pull, Stay, Tie}
use Rattle.cg_bound_flow.specs.Network.{link}

-- f of the edge of a part, if the part is of the given kind; 0 if it isn't
abbrev pub on_stay : Kernel → (Dependence → ℕ) → Part → ℕ
on_stay K f (Stay v p) = on_edge f (data_edge K v p)
on_stay K f (Least w) = 0
on_stay K f (Most w) = 0
on_stay K f (Pull v p) = 0
on_stay K f (Tie e) = 0

abbrev pub on_pull : Kernel → (Dependence → ℕ) → Part → ℕ
on_pull K f (Pull v p) = on_edge f (data_edge K v p)
on_pull K f (Least w) = 0
on_pull K f (Most w) = 0
on_pull K f (Stay v p) = 0
on_pull K f (Tie e) = 0

abbrev pub on_tie : Kernel → (Dependence → ℕ) → Part → ℕ
on_tie K f (Tie e) = on_edge f (order_edge K e)
on_tie K f (Least w) = 0
on_tie K f (Most w) = 0
on_tie K f (Pull v p) = 0
on_tie K f (Stay v p) = 0

-- 1 if the part is one of node w
abbrev pub on_least : ℕ → Part → ℕ
on_least w (Least x) = one_if (eqb x w)
on_least w (Most x) = 0
on_least w (Pull v p) = 0
on_least w (Stay v p) = 0
on_least w (Tie e) = 0

abbrev pub on_most : ℕ → Part → ℕ
on_most w (Most x) = one_if (eqb x w)
on_most w (Least x) = 0
on_most w (Pull v p) = 0
on_most w (Stay v p) = 0
on_most w (Tie e) = 0

-- the sum over the first k links of f of their parts, each times its flow
abbrev pub taken : List Link → List ℕ → ℕ → (Part → ℕ) → ℕ
taken links flow k f = total k (λ j. slice_index flow j * f (link links j).part)

-- the edges of a certificate are the links with flow
pub record IsTaken (K : Kernel) (links : List Link) (flow : List ℕ) (P : Pressure) : Type 0 where
  pub on_stays : (f : Dependence → ℕ) → stays K P f ≡ taken links flow (length links) (on_stay K f)
  pub on_pulls : (f : Dependence → ℕ) → pulls K P f ≡ taken links flow (length links) (on_pull K f)
  pub on_ties : (f : Dependence → ℕ) → ties K P f ≡ taken links flow (length links) (on_tie K f)

-- the lists of a certificate have at most n edges each
abbrev pub HasAtMost : ℕ → Pressure → Type 0
HasAtMost n P = (length P.stays.items ≤ n) × (length P.pulls.items ≤ n) × (length P.ties.items ≤ n)
