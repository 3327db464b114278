-- Where and when the hub's mapping begins each node.
use Rattle.std.proofs.Common.{Contains, ◌≡◌, ℕ, zero, suc, ◌+◌, ◌-◌, ◌*◌, ◌/◌, ◌<◌, ◌≤◌, true, Bool, false, cond, List, length, Some, None, refl, arith, ⊎_elim}
use Rattle.std.specs.List.{list_all}
use Rattle.std.proofs.lemmas.Bool.{cases_order, cases_eq, ltb-true}
use Rattle.std.proofs.lemmas.Nat.{div_below}
use Rattle.std.proofs.lemmas.Option.{slice_get_within, slice_get-get_or}
use Rattle.cg_word.specs.Sets.{among}
use Rattle.cg_word.proofs.Marks.{among_from}
use Rattle.cg_model.specs.declared.kernel.Operand.{Operand}
use Rattle.cg_model.specs.declared.kernel.Operand.TheVariants.{Edge}
use Rattle.cg_model.specs.Kernel.{Kernel, IsKernel, HasOperand, no_node, size, node}
use Rattle.cg_model.specs.Array.{Arch, IsArch, unit}
use Rattle.cg_model.proofs.Elements.{all_true}
use Rattle.cg_place.specs.Placed.{offering, IsOffered}
use Rattle.cg_place.proofs.Offering.{member}
use Rattle.cg_hub.specs.Hub.{HubEnough, registers, registers_before, host, start, is_served, serial, hub_leaves}
use Rattle.cg_hub.proofs.Owned.{registers_rise, far_enough}
use Rattle.cg_model.proofs.Mappings.{operand_within}

-- ---- units

some_total : (b : Bool) (t s : ℕ) → cond b (Some t) None ≡ Some s → (s ≡ t) × (b ≡ true)
some_total true t s e = (cc, refl)
some_total false t s e = let bad : None ≡ Some s = e in absurd (cc)

-- all nodes are served, and take as long as they take one after another
pub served : (A : Arch) (K : Kernel) (s : ℕ) → serial A K ≡ Some s → (s ≡ start A K (size K)) × IsOffered A K
unfolding serial
served A K s e =
    let (a, b) = some_total (list_all (is_served A) K.nodes) (start A K (size K)) s e in
    (a, λ v l. ltb-true 0 _ (all_true (is_served A) K.nodes v (node K v) (slice_get-get_or K.nodes v no_node l) b))

pub start_rises : (A : Arch) (K : Kernel) (u m : ℕ) → u < m → start A K u + ((unit A (host A K u)).latency + 1) ≤ start A K m
start_rises A K u zero l = absurd (omega arith)
start_rises A K u (suc m) l =
    ⊎_elim (λ (e : u ≡ m). rw e (omega arith)) (λ e. let h = start_rises A K u m (omega arith) in omega arith) (cases_eq u m)

pub start_once : (A : Arch) (K : Kernel) (u v : ℕ) → start A K u ≡ start A K v → u ≡ v
start_once A K u v e =
    ⊎_elim (λ g. g) (λ h. ⊎_elim (λ l. absurd (let g = start_rises A K u v l in omega arith)) (λ l. absurd (let g = start_rises A K v u l in omega arith)) h) (cases_order u v)

pub hosted : (A : Arch) (K : Kernel) (v : ℕ) → 0 < length (offering A (node K v).op) →
    (host A K v < length A.units) × (among (unit A (host A K v)).ops (node K v).op ≡ true)
unfolding host
hosted A K v l = member A (node K v).op 0 l

module _ (A : Arch) (K : Kernel) (ii : ℕ) (enough : HubEnough A K ii) where
  pub offered : IsOffered A K
  offered = (served A K enough.total enough.total_is).1

  pub host_within : (v : ℕ) → v < size K → host A K v < length A.units
  host_within v l = (hosted A K v (offered v l)).0

  pub host_offers : (v : ℕ) → v < size K → Contains (unit A (host A K v)).ops (node K v).op
  host_offers v l = among_from (unit A (host A K v)).ops (node K v).op (hosted A K v (offered v l)).1

  -- each node is through before the interval is
  pub soon : (v : ℕ) → v < size K → hub_leaves A K v < ii
  soon v l = omega (arith, (served A K enough.total enough.total_is).0, start_rises A K v (size K) l, enough.short)

  pub register_within : (u j : ℕ) → u < size K → j < registers K u → registers_before K u + j < length A.hub
  register_within u j l h = omega (arith, registers_rise K u (size K) l, enough.enough)

module _ (A : Arch) (K : Kernel) (ii : ℕ) (is : IsArch A) (good : IsKernel K) (enough : HubEnough A K ii) where
  pub source_within : (v p u d : ℕ) (init : List ℕ) → HasOperand K v p (Edge u d init) → u < size K
  source_within v p u d init o = good.wired.sources v p u d init (operand_within K v p (Edge u d init) o) o

  -- the value leaves before it is wanted
  pub in_time : (v p u d : ℕ) (init : List ℕ) → HasOperand K v p (Edge u d init) → hub_leaves A K u < start A K v + ii * d
  in_time v p u zero init o =
      omega (arith, start_rises A K u v (good.wired.forward v p u init (operand_within K v p (Edge u 0 init) o) o))
  in_time v p u (suc d) init o = omega (arith, soon A K ii enough u (source_within v p u (suc d) init o))

  -- and stays in its registers until then
  pub held : (v p u d : ℕ) (init : List ℕ) (j : ℕ) → HasOperand K v p (Edge u d init) → j < start A K v + ii * d - hub_leaves A K u → j / ii < registers K u
  held v p u d init j o l =
      let h : start A K v < ii = omega (arith, soon A K ii enough v (operand_within K v p (Edge u d init) o)) in
      let g : j / ii < suc d = div_below j ii (suc d) enough.interval (omega arith) in
      omega (arith, far_enough K v p u d init o)

  -- operands have ports
  pub has_port : (v p : ℕ) (o : Operand) → HasOperand K v p o → p < length (unit A (host A K v)).ports
  has_port v p o h =
      let l = operand_within K v p o h in
      omega (arith, slice_get_within (node K v).operands p o h, good.arities v l, is.enough_ports (host A K v) (node K v).op (host_within A K ii enough v l) (host_offers A K ii enough v l))
