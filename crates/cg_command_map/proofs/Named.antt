-- A legal mapping names units and resources of its architecture.
use Rattle.std.proofs.Common.{◌≡◌, ℕ, zero, suc, ◌+◌, ◌*◌, ◌<◌, List, [], ◌∷◌, length, map, Contains, true, false, Option, Some, None, option_map, refl, ap, subst, ◌∙◌, arith}
use Rattle.std.specs.Prelude.{slice_get}
use Rattle.std.specs.Option.{option_map_or}
use Rattle.std.proofs.lemmas.Option.{slice_get-map, slice_get_within, slice_get-get_or, get_or_from_slice_get}
use Rattle.cg_model.specs.Array.{Arch, IsArch, unit, delay}
use Rattle.cg_model.specs.Kernel.{Kernel, IsKernel, HasOperand, size, node, no_node}
use Rattle.cg_model.specs.declared.kernel.Node.{Node}
use Rattle.cg_model.specs.declared.kernel.Operand.{Operand}
use Rattle.cg_model.specs.declared.kernel.Operand.TheVariants.{Const as Constant, Edge}
use Rattle.cg_model.specs.declared.mapping.Place.{Place}
use Rattle.cg_model.specs.declared.mapping.Route.{Route}
use Rattle.cg_model.specs.Mapping.{Mapping, Goes, IsLegal, place, leaves, end_of, ends_from}
use Rattle.cg_mapping.specs.Names.{is_edge, takes_edge}
use Rattle.cg_mapping.specs.Sound.{NamesParts}
use Rattle.cg_mapping.proofs.Answered.{edge_few}
use Rattle.cg_mapping.proofs.Once.{edge_from}
use Rattle.cg_overlap.proofs.Wires.{driven_within, out_within}
use Rattle.cg_model.proofs.Mappings.{operand_within}

-- an operand that is an edge
edge_there : (o : Option Operand) → option_map_or is_edge o false ≡ true → (u : ℕ) × (d : ℕ) × (init : List ℕ) × (o ≡ Some (Edge u d init))
edge_there None h = absurd (cc)
edge_there (Some (Constant c)) h = absurd (cc)
edge_there (Some (Edge u d init)) h = (u, d, init, refl)

-- a path along links stays among the resources
goes_within : (A : Arch) (q t : ℕ) (path : List ℕ) (r s k x : ℕ) → Goes A q t path r s → slice_get path k ≡ Some x → x < length A.resources
goes_within A q t [] r s k x g e = absurd (cc)
goes_within A q t (y ∷ path) r s zero x g e = let same : y ≡ x = cc in subst (λ z. z < length A.resources) same (driven_within A q y g.0)
goes_within A q t (y ∷ path) r s (suc k) x g e = goes_within A y (t + delay A y) path r s k x g.1 e

along : (A : Arch) (out : ℕ) (path rest : List ℕ) (k x t r s : ℕ) → out < length A.resources → path ≡ out ∷ rest → Goes A out t rest r s → slice_get path k ≡ Some x → x < length A.resources
along A out path rest zero x t r s l is g e =
    let f : slice_get (out ∷ rest) zero ≡ Some x = subst (λ p. slice_get p zero ≡ Some x) is e in
    let same : out ≡ x = cc in
    subst (λ z. z < length A.resources) same l
along A out path rest (suc k) x t r s l is g e =
    let f : slice_get (out ∷ rest) (suc k) ≡ Some x = subst (λ p. slice_get p (suc k) ≡ Some x) is e in
    goes_within A out t rest r s k x g f

module _ (A : Arch) (K : Kernel) (M : Mapping) (arch : IsArch A) (kernel : IsKernel K) (legal : IsLegal A K M) where
  units : (v : ℕ) (p : Place) → slice_get M.places v ≡ Some p → p.unit < length A.units
  units v p e =
      let l = slice_get_within M.places v p e in
      let many = legal.shape.places in
      let is : place M v ≡ p = get_or_from_slice_get M.places v p (record { unit = 0; time = 0 }) e in
      subst (λ (z : Place). z.unit < length A.units) is (legal.units v (omega (arith, l, many)))

  -- the operand that a route is for
  operand : (i : ℕ) (route : Route) → slice_get M.routes i ≡ Some route → (u : ℕ) × (d : ℕ) × (init : List ℕ) × HasOperand K route.node route.arg (Edge u d init)
  operand i route e =
      let ended : slice_get (map end_of M.routes) i ≡ Some (end_of route) = slice_get-map end_of M.routes i ∙ ap (option_map end_of) e in
      let listed : slice_get (ends_from 0 K.nodes) i ≡ Some (end_of route) = subst (λ es. slice_get es i ≡ Some (end_of route)) legal.shape.routes ended in
      let (j, found) = edge_from 0 K.nodes i (end_of route) listed in
      let (n, facts) = found in
      let (at, has, edge) = facts in
      let here : route.node ≡ j = at ∙ omega arith in
      let is : node K j ≡ n = get_or_from_slice_get K.nodes j n no_node has in
      let (u, d, init, o) = edge_there (slice_get n.operands route.arg) edge in
      (u, d, init, ap (λ v. slice_get (node K v).operands route.arg) here ∙ ap (λ z. slice_get z.operands route.arg) is ∙ o)

  -- it is one of the node's three at most
  pub node_known : (i : ℕ) (route : Route) → slice_get M.routes i ≡ Some route → route.node < size K
  node_known i route e =
      let (u, d, init, has) = operand i route e in
      operand_within K route.node route.arg (Edge u d init) has

  pub few_args : (i : ℕ) (route : Route) → slice_get M.routes i ≡ Some route → route.arg < 3
  unfolding takes_edge
  few_args i route e =
      let (u, d, init, has) = operand i route e in
      let there = slice_get-get_or K.nodes route.node no_node (operand_within K route.node route.arg (Edge u d init) has) in
      edge_few K kernel route.node route.arg
      (ap (λ o. option_map_or (λ (n : Node). option_map_or is_edge (slice_get n.operands route.arg) false) o false) there ∙ ap (λ o. option_map_or is_edge o false) has)

  paths : (i k r : ℕ) (route : Route) → slice_get M.routes i ≡ Some route → slice_get route.path k ≡ Some r → r < length A.resources
  paths i k r route e f =
      let (u, d, init, has) = operand i route e in
      let listed : Contains M.routes route = (i, slice_get_within M.routes i route e, get_or_from_slice_get M.routes i route route e) in
      let (port, there, brought) = legal.brings route u d init listed has in
      let (rest, is, goes) = brought in
      let source : u < size K = kernel.wired.sources route.node route.arg u d init (operand_within K route.node route.arg (Edge u d init) has) has in
      let out = (unit A (place M u).unit).out in
      along A out route.path rest k r (leaves A M u) port ((place M route.node).time + M.ii * d) (out_within A out (arch.outs (place M u).unit (legal.units u source))) is goes f

  pub names_parts : NamesParts A M
  names_parts = record { units = units; paths = paths }
