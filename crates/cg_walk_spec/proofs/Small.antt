-- How great the numbers of a good state can be.
use Rattle.std.proofs.Common.{◌≡◌, ℕ, suc, ◌+◌, ◌*◌, ◌^◌, ◌<◌, ◌≤◌, ◌⊎◌, inl, inr, List, [], ◌∷◌, length, Option, Some, None, refl, sym, ap, ◌∙◌, subst, arith, ⊎_elim, mul-le-mul_right}
use Rattle.std.specs.Prelude.{All, slice_get}
use Rattle.std.proofs.Math.Nat.{mul_comm, mul-le-mul}
use Rattle.std.proofs.lemmas.Option.{slice_get_within, get_or_from_slice_get}
use Rattle.std.proofs.lemmas.List.{length-append}
use Rattle.std.proofs.lemmas.List.Elements.{All-nil, All-cons, All-head, All-tail, All-from_get_or}
use Rattle.cg_word.specs.declared.op.Op.{Op}
use Rattle.cg_word.specs.declared.op.Op.TheVariants.{Const, Iter, Input, Add, Sub, Mul, And, Or, Xor, Shl, Shr, Sar, Eq, Ne, Lts, Ltu, Mins, Maxs, Select, Load, Store, Output, LoadIf, StoreIf, OutputIf}
use Rattle.cg_word.specs.Word.{arity}
use Rattle.cg_model.specs.Limits.{most_contexts, most_nodes}
use Rattle.cg_model.specs.declared.array.Kind.{Kind}
use Rattle.cg_model.specs.declared.array.Kind.TheVariants.{Wire, Register, Port, Out}
use Rattle.cg_model.specs.declared.kernel.Node.{Node}
use Rattle.cg_model.specs.declared.kernel.Operand.{Operand}
use Rattle.cg_model.specs.declared.kernel.Operand.TheVariants.{Const as Constant, Edge}
use Rattle.cg_model.specs.declared.mapping.Place.{Place}
use Rattle.cg_model.specs.Kernel.{Kernel, IsKernel, size, node, no_node}
use Rattle.cg_model.specs.Array.{Arch, IsArch, resource, delay, delay_by}
use Rattle.cg_model.specs.Mapping.{Goes}
use Rattle.cg_congestion.proofs.Along.{length_on}
use Rattle.cg_route.specs.Least.{Ends, IsTimedPath}
use Rattle.cg_place.specs.Placed.{place_in}
use Rattle.cg_walk_spec.specs.State.{State, EdgeOperand, edges_among, edges_from, edges, ends_of, positions_of_all, positions_by, state_positions}
use Rattle.cg_walk_spec.specs.Walk.{edge}
use Rattle.cg_walk_spec.specs.Good.{IsGood}
use Rattle.cg_walk_spec.specs.Ranges.{AreInRange, most_steps}
use Rattle.cg_walk_spec.proofs.Edges.{IsEdge, edges_are}
use Rattle.cg_walk_spec.proofs.Rules.{out_known}
use Rattle.cg_model.proofs.Mappings.{driven_known}
use Rattle.cg_word.proofs.Arity.{arity_few}
use Rattle.cg_route.proofs.Begins.{kind_delay}

one_more : (a b : ℕ) → (a + 1) * b ≡ a * b + b
one_more a b = mul_comm (a + 1) b ∙ omega arith

-- ---- the ends

module _ (A : Arch) (K : Kernel) (ii : ℕ) (S : State) (arch : IsArch A) (kernel : IsKernel K) (good : IsGood A K ii S) where
  edge_ends : (e : EdgeOperand) → IsEdge K e → AreInRange A (ends_of A ii S.places e)
  edge_ends e is =
      let u = e.source in
      let v = e.node in
      let known : u < size K = kernel.wired.sources v e.arg u e.distance is.0 is.2 is.1 in
      let x = (place_in S.places u).unit in
      let y = (place_in S.places v).unit in
      let many = kernel.arities v is.2 in
      let within = slice_get_within (node K v).operands e.arg (Edge u e.distance is.0) is.1 in
      let enough = arch.enough_ports y (node K v).op (good.units v is.2) (good.offered v is.2) in
      let few = arch.latencies x (good.units u known) in
      let early = good.soon u known in
      let soon = good.soon v is.2 in
      let near : e.distance ≤ 4 = kernel.near v e.arg u e.distance is.0 is.2 is.1 in
      let contexts = good.contexts in
      let small = arch.small.contexts in
      let long : ii * e.distance ≤ 4 * most_contexts = let a : ii * e.distance ≤ 64 * 4 = mul-le-mul {n₁ = ii} {m₁ = e.distance} {n₂ = 64} {m₂ = 4} (omega (arith, contexts, small)) near in omega (arith, a) in
      record {
        from = out_known A arch x (good.units u known);
        to = arch.ports_known y e.arg (good.units v is.2) (omega (arith, many, within, enough));
        start = omega (arith, few, early);
        end = omega (arith, soon, long);
      }

  pub ends_in_range : (i : ℕ) → i < length (edges K) → AreInRange A (ends_of A ii S.places (edge K i))
  ends_in_range i l = edge_ends (edge K i) (edges_are K i (record { node = 0; arg = 0; source = 0; distance = 0 }) l)

-- ---- paths

module _ (A : Arch) (arch : IsArch A) where
  goes_within : (q t : ℕ) (path : List ℕ) (r s : ℕ) → Goes A q t path r s → All (λ x. x < length A.resources) path
  goes_within q t [] r s h = All-nil (λ x. x < length A.resources)
  goes_within q t (x ∷ path) r s h = All-cons (λ y. y < length A.resources) x path (driven_known A x q h.0) (goes_within x (t + delay A x) path r s h.1)

  -- the resources of a path are of the architecture
  pub path_within : (ends : Ends) (path : List ℕ) → ends.from < length A.resources → IsTimedPath A ends path → All (λ x. x < length A.resources) path
  path_within ends [] l h = absurd h
  path_within ends (q ∷ path) l h =
      All-cons (λ y. y < length A.resources) q path (subst (λ x. x < length A.resources) (sym h.0) l) (goes_within ends.from ends.start path ends.to ends.end h.1)

  -- in a cycle a path goes up the levels
  goes_short : (q t : ℕ) (path : List ℕ) (r s : ℕ) → q < length A.resources → Goes A q t path r s → length path + arch.level q + t * length A.resources < (s + 1) * length A.resources
  goes_short q t [] r s l h =
      let n = length A.resources in
      let low : arch.level q < n = arch.levels q l in
      let same : t * n ≡ s * n = ap (λ z. z * n) h.1 in
      let next : (s + 1) * n ≡ s * n + n = one_more s n in
      omega (arith, low, same, next)
  goes_short q t (x ∷ path) r s l h =
      let n = length A.resources in
      let known : x < n = driven_known A x q h.0 in
      let rest = goes_short x (t + delay A x) path r s known h.1 in
      let low : arch.level q < n = arch.levels q l in
      ⊎_elim
      (λ (none : delay A x ≡ 0).
      let up = arch.rising q x h.0 none in
      let now : t + delay A x ≡ t = omega (arith, none) in
      let same : (t + delay A x) * n ≡ t * n = ap (λ z. z * n) now in
      omega (arith, rest, up, same))
      (λ (one : delay A x ≡ 1).
      let later : t + delay A x ≡ t + 1 = omega (arith, one) in
      let same : (t + delay A x) * n ≡ t * n + n = ap (λ z. z * n) later ∙ one_more t n in
      omega (arith, rest, low, same))
      (kind_delay (resource A x).kind)

  pub path_short : (ends : Ends) (path : List ℕ) → AreInRange A ends → IsTimedPath A ends path → length path ≤ most_steps
  path_short ends [] fits h = absurd h
  path_short ends (q ∷ path) fits h =
      let n = length A.resources in
      let short = goes_short ends.from ends.start path ends.to ends.end fits.from h.1 in
      let many : n ≤ 4096 = arch.small.resources in
      let last = fits.end in
      let whole : (ends.end + 1) * n ≤ 65791 * 4096 = mul-le-mul {n₁ = ends.end + 1} {m₁ = n} {n₂ = 65791} {m₂ = 4096} (omega (arith, last)) many in
      omega (arith, short, whole)

-- ---- all positions

operands_few : (v p : ℕ) (os : List Operand) → length (edges_among v p os) ≤ length os
operands_few v p [] = omega arith
operands_few v p (Constant w ∷ os) = let h = operands_few v (suc p) os in omega (arith, h)
operands_few v p (Edge u d init ∷ os) = let h = operands_few v (suc p) os in omega (arith, h)

nodes_few : (v : ℕ) (ns : List Node) → All (λ (n : Node). length n.operands ≤ 3) ns → length (edges_from v ns) ≤ 3 * length ns
nodes_few v [] h = omega arith
nodes_few v (n ∷ ns) h =
    let a = operands_few v 0 n.operands in
    let b = All-head (λ (n : Node). length n.operands ≤ 3) n ns h in
    let c = nodes_few (suc v) ns (All-tail (λ (n : Node). length n.operands ≤ 3) n ns h) in
    let d = length-append (edges_among v 0 n.operands) (edges_from (suc v) ns) in
    omega (arith, a, b, c, d)

-- a kernel has at most three edge operands a node
pub edges_few : (K : Kernel) → IsKernel K → length (edges K) ≤ 3 * most_nodes
unfolding edges
edges_few K kernel =
    let a = nodes_few 0 K.nodes (All-from_get_or (λ (n : Node). length n.operands ≤ 3) K.nodes no_node (λ v l. let b = kernel.arities v l in let c = arity_few (node K v).op in omega (arith, b, c))) in
    let d = kernel.few in
    omega (arith, a, d)

positions_few : (A : Arch) (ii : ℕ) (places : List Place) (m : ℕ) (es : List EdgeOperand) (rs : List (Option (List ℕ))) →
    ((i : ℕ) (e : EdgeOperand) (path : List ℕ) → slice_get es i ≡ Some e → slice_get rs i ≡ Some (Some path) → length path ≤ m) →
    length (positions_of_all A ii places es rs) ≤ length es * m
positions_few A ii places m [] rs h = omega arith
positions_few A ii places m (e ∷ es) [] h = omega arith
positions_few A ii places m (e ∷ es) (None ∷ rs) h =
    let rest = positions_few A ii places m es rs (λ i x path a b. h (suc i) x path a b) in
    let next = one_more (length es) m in
    let same : (length es + 1) * m ≡ length (e ∷ es) * m = ap (λ z. z * m) (omega arith) in
    omega (arith, rest, next, same)
positions_few A ii places m (e ∷ es) (Some path ∷ rs) h =
    let rest = positions_few A ii places m es rs (λ i x path a b. h (suc i) x path a b) in
    let here = h 0 e path refl refl in
    let long = length_on A e.source (ends_of A ii places e).start path in
    let both = length-append (positions_by A ii places e (Some path)) (positions_of_all A ii places es rs) in
    let next = one_more (length es) m in
    let same : (length es + 1) * m ≡ length (e ∷ es) * m = ap (λ z. z * m) (omega arith) in
    omega (arith, rest, here, long, both, next, same)

-- a table has room for the positions of a good state, and of one path more
pub room : (A : Arch) (K : Kernel) (ii : ℕ) (S : State) → IsArch A → IsKernel K → IsGood A K ii S → length (state_positions A K ii S) + most_steps ≤ 2 ^ 48
unfolding state_positions
room A K ii S arch kernel good =
    let few = edges_few K kernel in
    let all = positions_few A ii S.places most_steps (edges K) S.routes (λ i e path a b.
    let l = slice_get_within (edges K) i e a in
    let is : IsEdge K e = subst (λ (x : EdgeOperand). IsEdge K x) (get_or_from_slice_get (edges K) i e e a) (edges_are K i e l) in
    path_short A arch (ends_of A ii S.places e) path (edge_ends A K ii S arch kernel good e is) (good.paths i e path a b)) in
    let most : length (edges K) * most_steps ≤ 3072 * most_steps = mul-le-mul_right most_steps few in
    omega (arith, all, most)
