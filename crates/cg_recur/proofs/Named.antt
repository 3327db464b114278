-- From the edges by number to the edges by name.
use Rattle.std.proofs.Common.{◌≡◌, ℕ, ◌<◌, ◌≤◌, List, length, get_or, map, Option, Some, None, refl, sym, ap, ◌∙◌, subst, arith, ⊎_elim}
use Rattle.std.specs.Prelude.{slice_get, slice_index}
use Rattle.std.proofs.lemmas.Bool.{cases_lt}
use Rattle.std.proofs.lemmas.List.{get_or_past}
use Rattle.std.proofs.lemmas.Option.{slice_get-get_or, slice_get_within}
use Rattle.cg_word.specs.declared.op.Op.{Op}
use Rattle.cg_model.specs.declared.kernel.Node.{Node}
use Rattle.cg_model.specs.declared.kernel.Operand.{Operand}
use Rattle.cg_model.specs.declared.kernel.Operand.TheVariants.{Const as Constant, Edge as DataEdge}
use Rattle.cg_model.specs.declared.kernel.OrderEdge.{OrderEdge}
use Rattle.cg_model.specs.Kernel.{Kernel, IsKernel, size, node, no_node}
use Rattle.cg_model.specs.Array.{Arch}
use Rattle.cg_recur.specs.declared.edge.Edge.{Edge}
use Rattle.cg_recur.specs.declared.edge.EdgeId.{EdgeId}
use Rattle.cg_recur.specs.declared.edge.EdgeId.TheVariants.{Arg, Order}
use Rattle.cg_recur.specs.Chain.{IsCycle, IsShown, IsEarly}
use Rattle.cg_recur.specs.Edges.{edge_of, of_operand, of_order, latency, AreEdges}
use Rattle.cg_recur.specs.Log.{IsWithin}
use Rattle.cg_recur.specs.Numbered.{IsShownCycle}
use Rattle.cg_recur.specs.Recurrences.{IsRecurrence, HasNoRecurrence, name_at}
use Rattle.cg_recur.proofs.Names.{named, IsCycle-map, IsShown-map, IsEarly-names}

-- an edge of a valid kernel joins nodes, and its latency is small
abbrev IsSmall : Kernel → Edge → Type 0
IsSmall K e = (e.source < size K) × (e.target < size K) × (e.latency ≤ 4)

module _ (A : Arch) (K : Kernel) (arch : (op : Op) → latency A op ≤ 4) (kernel : IsKernel K) where
  operand_small : (v p : ℕ) (o : Option Operand) (e : Edge) → v < size K → slice_get (node K v).operands p ≡ o → of_operand A K v o ≡ Some e → IsSmall K e
  operand_small v p None e l at is = absurd (cc)
  operand_small v p (Some (Constant c)) e l at is = absurd (cc)
  operand_small v p (Some (DataEdge u d init)) e l at is =
      let u_in = kernel.wired.sources v p u d init l at in
      let small = arch (node K u).op in
      subst (λ (z : Edge). IsSmall K z) {y = e} (let q : record { source = u; target = v; latency = latency A (node K u).op; distance = d } ≡ e = cc in q) (u_in, l, small)

  order_small : (k : ℕ) (o : Option OrderEdge) (e : Edge) → slice_get K.order k ≡ o → of_order o ≡ Some e → IsSmall K e
  order_small k None e at is = absurd (cc)
  order_small k (Some o) e at is =
      let ends = kernel.order.known k o.from o.to o.distance at in
      let one : 1 ≤ 4 = omega arith in
      subst (λ (z : Edge). IsSmall K z) {y = e} (let q : record { source = o.from; target = o.to; latency = 1; distance = o.distance } ≡ e = cc in q) (ends.0, ends.1, one)

  edge_small : (x : EdgeId) (e : Edge) → edge_of A K x ≡ Some e → IsSmall K e
  edge_small (Order k) e is = order_small k (slice_get K.order k) e refl is
  edge_small (Arg v p) e is =
      ⊎_elim (λ l. operand_small v p (slice_get (node K v).operands p) e l refl is)
      (λ l. absurd (let b : node K v ≡ no_node = get_or_past K.nodes v no_node (omega arith) in let c = ap (λ (z : Node). of_operand A K v (slice_get z.operands p)) b in cc))
      (cases_lt v (size K))

  pub within : (names : List EdgeId) (es es' : List Edge) (nodes : List Node) → AreEdges A K names es → es' ≡ es → nodes ≡ K.nodes → IsWithin es' (length nodes)
  within names es es' nodes good e en =
      subst (λ z. IsWithin z (length nodes)) (sym e)
      (λ k f is.
      let m = slice_get_within es k f is in
      let each = good.each in
      let s = edge_small (name_at names k) f (good.right k (name_at names k) f (slice_get-get_or names k (Order 0) (omega arith)) is) in
      let n = ap (λ (z : List Node). length z) en in
      let (a, b, c) = s in
      (omega arith, omega arith, omega arith))

pub listed : (A : Arch) (K : Kernel) (names names' : List EdgeId) (es es' : List Edge) → AreEdges A K names es → names' ≡ names → es' ≡ es → AreEdges A K names' es'
listed A K names names' es es' good en ee = subst (λ z. AreEdges A K z es') (sym en) (subst (λ z. AreEdges A K names z) (sym ee) good)

abbrev no_edge : Edge
no_edge = record { source = 0; target = 0; latency = 0; distance = 0 }

module _ (A : Arch) (K : Kernel) (names : List EdgeId) (es : List Edge) (good : AreEdges A K names es) where
  -- the name of a number names its edge
  same : (k : ℕ) (e : Edge) → slice_get es k ≡ Some e → edge_of A K (name_at names k) ≡ Some e
  same k e is = good.right k (name_at names k) e (slice_get-get_or names k (Order 0) (let m = slice_get_within es k e is in let each = good.each in omega arith)) is

  -- the number of a name
  abbrev place : (y : EdgeId) (o : Option Edge) → edge_of A K y ≡ o → ℕ
  place y None h = 0
  place y (Some e) h = (good.whole y e h).0

  place_is : (y : EdgeId) (o : Option Edge) (h : edge_of A K y ≡ o) (e : Edge) → o ≡ Some e → slice_get es (place y o h) ≡ Some e
  place_is y None h e is = absurd (cc)
  place_is y (Some f) h e is =
      let k = (good.whole y f h).0 in
      let m = (good.whole y f h).1 in
      let l = slice_get_within names k y m in
      let each = good.each in
      let at : slice_get es k ≡ Some (get_or es k no_edge) = slice_get-get_or es k no_edge (omega arith) in
      at ∙ sym (good.right k y (get_or es k no_edge) m at) ∙ h ∙ is

  abbrev number : EdgeId → ℕ
  number y = place y (edge_of A K y) refl

  back : (y : EdgeId) (e : Edge) → edge_of A K y ≡ Some e → slice_get es (number y) ≡ Some e
  back y e is = place_is y (edge_of A K y) refl e is

  pub numbers_within : (ii : ℕ) (numbers numbers' : List ℕ) → numbers' ≡ numbers → IsShownCycle es ii numbers → (i : ℕ) → i < length numbers' → slice_index numbers' i < length names
  numbers_within ii numbers numbers' e c =
      subst (λ z. (i : ℕ) → i < length z → slice_index z i < length names) (sym e)
      (λ i l.
      let (f, is) = named (slice_get es) (edge_of A K) (name_at names) same c.0.closed.0 c.0.closed.0 numbers i (slice_index numbers i) c.0.closed.1 (slice_get-get_or numbers i 0 l) in
      let m = slice_get_within es (slice_index numbers i) f is in
      let each = good.each in
      omega arith)

  pub cycle_named : (ii : ℕ) (numbers numbers' : List ℕ) (ids : List EdgeId) → numbers' ≡ numbers → IsShownCycle es ii numbers → ids ≡ map (name_at names) numbers' → IsRecurrence A K ii ids × IsShown (edge_of A K) ids
  cycle_named ii numbers numbers' ids e c is =
      subst (λ z. IsRecurrence A K ii z × IsShown (edge_of A K) z) (sym (is ∙ ap (map (name_at names)) e)) (
        IsCycle-map (slice_get es) (edge_of A K) (name_at names) same ii numbers c.0,
        IsShown-map (slice_get es) (edge_of A K) (name_at names) same c.0.closed.0 c.0.closed.0 numbers c.0.closed.1 c.1,
      )

  -- no chain by number is too long where none by name is
  pub none_numbered : (ii : ℕ) → HasNoRecurrence A K ii → (xs : List ℕ) → IsCycle (slice_get es) ii xs → ⊥
  none_numbered ii none xs c = none (map (name_at names) xs) (IsCycle-map (slice_get es) (edge_of A K) (name_at names) same ii xs c)

  pub times_named : (ii n : ℕ) (ts : List ℕ) → n ≡ size K → length ts ≡ n → ((v : ℕ) → v < n → IsEarly (slice_get es) ii v (slice_index ts v)) → ((xs : List ℕ) → IsCycle (slice_get es) ii xs → ⊥) →
      (length ts ≡ size K) × ((v : ℕ) → v < size K → IsEarly (edge_of A K) ii v (slice_index ts v)) × ((ids : List EdgeId) → IsRecurrence A K ii ids → ⊥)
  times_named ii n ts e long early none = (
    long ∙ e,
    λ v l. IsEarly-names (slice_get es) (edge_of A K) (name_at names) number same back ii v (slice_index ts v) (early v (omega arith)),
    λ ids c. none (map number ids) (IsCycle-map (edge_of A K) (slice_get es) number back ii ids c),
  )
