-- The routes of a legal mapping, each of an edge of the kernel.
use Rattle.std.proofs.Common.{◌≡◌, ℕ, suc, ◌+◌, ◌*◌, ◌<◌, ◌≤◌, ◌^◌, List, [], ◌∷◌, length, map, drop, get_or, Option, Some, Contains, refl, sym, ap, subst, ◌∙◌, arith, ⊎_elim}
use Rattle.std.specs.Prelude.{slice_get, slice_index_or}
use Rattle.std.proofs.lemmas.List.Elements.{Contains-append_cases}
use Rattle.std.proofs.lemmas.Option.{slice_get_within, slice_get-get_or}
use Rattle.std.proofs.Math.Nat.{mul-le-mul}
use Rattle.cg_model.specs.declared.kernel.Node.{Node}
use Rattle.cg_model.specs.declared.kernel.Operand.{Operand}
use Rattle.cg_model.specs.declared.kernel.Operand.TheVariants.{Const as Constant, Edge}
use Rattle.cg_model.specs.declared.mapping.Route.{Route}
use Rattle.cg_model.specs.declared.mapping.Place.{Place}
use Rattle.cg_model.specs.declared.array.Unit.{Unit}
use Rattle.cg_flat.proofs.Lists.{item_at}
use Rattle.cg_model.specs.Kernel.{Kernel, IsKernel, no_node, node, size}
use Rattle.cg_model.specs.Array.{Arch, IsArch, unit}
use Rattle.cg_model.specs.Mapping.{Mapping, End, IsLegal, IsShaped, Brings, Goes, end_of, ends_of, ends_from, leaves, place, of_route, of_operand, positions_on, positions_after}
use Rattle.cg_model.specs.Config.{Config}
use Rattle.cg_overlap.proofs.Facts.{Contains-first, Contains-later, Contains-cases}
use Rattle.cg_emit.specs.Building.{GoesInTime, IsSource, with_positions}
use Rattle.cg_model.proofs.Lookups.{Contains-nil}

-- operand p of the list is an edge
pub record IsEdge (os : List Operand) (p : ℕ) : Type 0 where
  pub source : ℕ
  pub distance : ℕ
  pub init : List ℕ
  pub is : slice_get os p ≡ Some (Edge source distance init)

record EndsOperand (v p : ℕ) (os : List Operand) (e : End) : Type 0 where
  node : e.node ≡ v
  number : ℕ
  arg : e.arg ≡ p + number
  edge : IsEdge os number

ends_operand : (v p : ℕ) (os : List Operand) (e : End) → Contains (ends_of v p os) e → EndsOperand v p os e
ends_operand v p [] e h = absurd (Contains-nil e h)
ends_operand v p (Constant w ∷ os) e h =
    let r = ends_operand v (suc p) os e h in
    record { node = r.node; number = suc r.number; arg = (let a = r.arg in omega arith); edge = record { source = r.edge.source; distance = r.edge.distance; init = r.edge.init; is = r.edge.is } }
ends_operand v p (Edge u d init ∷ os) e h =
    ⊎_elim (λ (same : record { node = v; arg = p } ≡ e).
    record { node = sym (ap (λ (z : End). z.node) same); number = 0; arg = (let a = ap (λ (z : End). z.arg) same in omega arith); edge = record { source = u; distance = d; init = init; is = refl } })
    (λ l. let r = ends_operand v (suc p) os e l in
    record { node = r.node; number = suc r.number; arg = (let a = r.arg in omega arith); edge = record { source = r.edge.source; distance = r.edge.distance; init = r.edge.init; is = r.edge.is } })
    (Contains-cases e (record { node = v; arg = p }) (ends_of v (suc p) os) h)

record EndsNode (k : ℕ) (ns : List Node) (e : End) : Type 0 where
  number : ℕ
  node : e.node ≡ k + number
  within : number < length ns
  edge : IsEdge (slice_index_or ns number no_node).operands e.arg

ends_node : (k : ℕ) (ns : List Node) (e : End) → Contains (ends_from k ns) e → EndsNode k ns e
ends_node k [] e h = absurd (Contains-nil e h)
ends_node k (n ∷ ns) e h =
    ⊎_elim (λ l. let r = ends_operand k 0 n.operands e l in
    record { number = 0; node = (let a = r.node in omega arith); within = omega arith; edge = subst (λ z. IsEdge n.operands z) (let a = r.arg in omega arith) r.edge })
    (λ l. let r = ends_node (suc k) ns e l in
    record { number = suc r.number; node = (let a = r.node in omega arith); within = (let a = r.within in omega arith); edge = r.edge })
    (Contains-append_cases (ends_of k 0 n.operands) (ends_from (suc k) ns) e h)

Contains-map_to : {X Y : Type 0} (f : X → Y) (xs : List X) (x : X) → Contains xs x → Contains (map f xs) (f x)
Contains-map_to f [] x h = absurd (Contains-nil x h)
Contains-map_to f (y ∷ xs) x h =
    ⊎_elim (λ e. subst (λ z. Contains (f y ∷ map f xs) (f z)) e (Contains-first (f y) (map f xs))) (λ l. Contains-later (f x) (f y) (map f xs) (Contains-map_to f xs x l)) (Contains-cases x y xs h)

-- a route ends at an edge operand of a node
pub record IsRouted (K : Kernel) (route : Route) : Type 0 where
  pub within : route.node < size K
  pub edge : IsEdge (node K route.node).operands route.arg

pub routed : (K : Kernel) (M : Mapping) → IsShaped K M → (route : Route) → Contains M.routes route → IsRouted K route
routed K M shaped route m =
    let there : Contains (ends_from 0 K.nodes) (end_of route) = subst (λ es. Contains es (end_of route)) shaped.routes (Contains-map_to end_of M.routes route m) in
    let r = ends_node 0 K.nodes (end_of route) there in
    let same : r.number ≡ route.node = (let a = r.node in omega arith) in
    record { within = (let l = r.within in omega arith); edge = subst (λ z. IsEdge (node K z).operands route.arg) same r.edge }

pub source_is : (K : Kernel) (route : Route) (o : Operand) (u d : ℕ) (init : List ℕ) → route.node < size K → slice_get (node K route.node).operands route.arg ≡ Some o → o ≡ Edge u d init → IsSource K route u
source_is K route o u d init lt e is = (lt, d, init, e ∙ ap Some is)

-- and the kernel has that node
pub source_known : (K : Kernel) → IsKernel K → (route : Route) (u : ℕ) → IsSource K route u → u < size K
source_known K good route u is = good.wired.sources route.node route.arg u is.1 is.2 is.0 is.3

edge_only : (o : Option Operand) (w u d : ℕ) (init : List ℕ) → o ≡ Some (Constant w) → o ≡ Some (Edge u d init) → ⊥
edge_only o w u d init a b = cc

pub no_constant : (K : Kernel) (route : Route) (w : ℕ) → IsRouted K route → slice_get (node K route.node).operands route.arg ≡ Some (Constant w) → ⊥
no_constant K route w r e = edge_only (slice_get (node K route.node).operands route.arg) w r.edge.source r.edge.distance r.edge.init e r.edge.is

pub arg_within : (os : List Operand) (p : ℕ) → IsEdge os p → p < length os
arg_within os p e = slice_get_within os p (Edge e.source e.distance e.init) e.is

-- ---- where and when a route begins

module _ (A : Arch) (K : Kernel) (M : Mapping) (valid : IsArch A) (good : IsKernel K) (legal : IsLegal A K M) (route : Route) (known : Contains M.routes route) (u : ℕ) (is : IsSource K route u) where
  pub unit_known : (place M u).unit < length A.units
  unit_known = legal.units u (source_known K good route u is)

  pub leaves_soon : leaves A M u < 2 ^ 32
  leaves_soon =
      let soon = legal.soon u (source_known K good route u is) in
      let quick = (valid.latencies (place M u).unit unit_known).1 in
      omega arith

  brought : (port : ℕ) × (slice_get (unit A (place M route.node).unit).ports route.arg ≡ Some port) × Brings A M u route.path port ((place M route.node).time + M.ii * is.1)
  brought = legal.brings route u is.1 is.2 known is.3

  pub some_path : 1 ≤ length route.path
  some_path = let e = ap (λ (z : List ℕ). length z) brought.2.1 in omega arith

  path_is : route.path ≡ (unit A (place M u).unit).out ∷ drop 1 route.path
  path_is = brought.2.1 ∙ ap (λ (z : List ℕ). (unit A (place M u).unit).out ∷ z) (sym (ap (λ (z : List ℕ). drop 1 z) brought.2.1))

  ends_in_time : (place M route.node).time + M.ii * is.1 < 2 ^ 32
  ends_in_time =
      let soon = legal.soon route.node is.0 in
      let few = legal.contexts in
      let most = valid.small.contexts.1 in
      let near = good.near route.node route.arg u is.1 is.2 is.0 is.3 in
      let ii-few : M.ii ≤ 64 = omega arith in
      let product : M.ii * is.1 ≤ 64 * 4 = mul-le-mul ii-few near in
      omega arith

  pub goes : GoesInTime A (unit A (place M u).unit).out (leaves A M u) (drop 1 route.path)
  goes =
      let rest : brought.2.0 ≡ drop 1 route.path = sym (ap (λ (z : List ℕ). drop 1 z) brought.2.1) in
      (brought.0, (place M route.node).time + M.ii * is.1, ends_in_time, subst (λ z. Goes A (unit A (place M u).unit).out (leaves A M u) z brought.0 ((place M route.node).time + M.ii * is.1)) rest brought.2.2)

  pub set_along : (C : Config) → with_positions A (of_route A K M route) C ≡ with_positions A (positions_after A u (unit A (place M u).unit).out (leaves A M u) (drop 1 route.path)) C
  set_along C =
      ap (λ (o : Option Operand). with_positions A (of_operand A M route.path o) C) is.3
      ∙ ap (λ z. with_positions A (positions_on A u (leaves A M u) z) C) path_is

-- what the code holds is what the mapping says
module _ (A : Arch) (K : Kernel) (M : Mapping) (valid : IsArch A) (good : IsKernel K) (legal : IsLegal A K M) (route : Route) (known : Contains M.routes route) (u : ℕ) (is : IsSource K route u)
    (p : Place) (x : Unit) (p-is : p ≡ place M u) (x-is : x ≡ unit A (place M u).unit) where
  leaves_is : p.time + x.latency ≡ leaves A M u
  leaves_is = ap (λ (q : Place). q.time + x.latency) p-is ∙ ap (λ (y : Unit). (place M u).time + y.latency) x-is

  pub told_leaves : p.time + x.latency < 2 ^ 32
  told_leaves = let e = leaves_is in let soon = leaves_soon A K M valid good legal route known u is in omega arith

  pub told_path : (links : List ℕ) → links ≡ drop 1 route.path → GoesInTime A x.out (p.time + x.latency) links
  told_path links e =
      subst (λ (y : Unit). GoesInTime A y.out (p.time + x.latency) links) (sym x-is)
      (subst (λ t. GoesInTime A (unit A (place M u).unit).out t links) (sym leaves_is)
      (subst (λ z. GoesInTime A (unit A (place M u).unit).out (leaves A M u) z) (sym e) (goes A K M valid good legal route known u is)))

  pub told_set : (links : List ℕ) (C D : Config) → links ≡ drop 1 route.path → D ≡ with_positions A (positions_after A u x.out (p.time + x.latency) links) C → D ≡ with_positions A (of_route A K M route) C
  told_set links C D e set =
      set ∙ ap (λ (y : Unit). with_positions A (positions_after A u y.out (p.time + x.latency) links) C) x-is
      ∙ ap (λ t. with_positions A (positions_after A u (unit A (place M u).unit).out t links) C) leaves_is
      ∙ ap (λ z. with_positions A (positions_after A u (unit A (place M u).unit).out (leaves A M u) z) C) e
      ∙ sym (set_along A K M valid good legal route known u is C)

-- the unit that was read
pub unit_read : (A : Arch) (us : List Unit) (k j : ℕ) (x : Unit) → x ≡ get_or us k x → us ≡ A.units → k ≡ j → j < length A.units → x ≡ unit A j
unit_read A us k j x is same at lt =
    item_at us A.units k x (record { name = []; ops = []; latency = 1; ports = []; out = 0 }) is same (let e = ap (λ (z : List Unit). length z) same in omega arith) ∙ ap (unit A) at

-- the operand that was read
pub operand_read : (xs os : List Operand) (k : ℕ) (o : Operand) → o ≡ get_or xs k o → xs ≡ os → k < length os → slice_get os k ≡ Some o
operand_read xs os k o is same lt =
    slice_get-get_or os k o lt ∙ ap (λ z. Some z) (sym (is ∙ ap (λ (z : List Operand). get_or z k o) same))
