-- From the longer edges by number to those by name, and back.
use Rattle.std.proofs.Common.{◌≡◌, ℕ, ◌+◌, ◌<◌, ◌≤◌, ◌^◌, List, length, get_or, map, Option, Some, None, refl, sym, ap, ◌∙◌, subst, arith}
use Rattle.std.specs.Prelude.{slice_get, slice_index}
use Rattle.std.proofs.lemmas.Option.{slice_get-get_or, slice_get_within, get_or_from_slice_get}
use Rattle.cg_word.specs.declared.op.Op.{Op}
use Rattle.cg_model.specs.declared.kernel.Node.{Node}
use Rattle.cg_model.specs.declared.kernel.Operand.{Operand}
use Rattle.cg_model.specs.declared.kernel.Operand.TheVariants.{Const as Constant, Edge as DataEdge}
use Rattle.cg_model.specs.declared.kernel.OrderEdge.{OrderEdge}
use Rattle.cg_model.specs.Kernel.{Kernel, IsKernel, node}
use Rattle.cg_model.specs.Array.{Arch}
use Rattle.cg_recur.specs.declared.edge.Edge.{Edge}
use Rattle.cg_recur.specs.declared.edge.EdgeId.{EdgeId}
use Rattle.cg_recur.specs.declared.edge.EdgeId.TheVariants.{Arg, Order}
use Rattle.cg_recur.specs.Chain.{IsCycle, IsShown}
use Rattle.cg_recur.specs.Edges.{edge_of, of_operand, of_order, latency, AreEdges}
use Rattle.cg_recur.specs.Log.{IsWithin}
use Rattle.cg_recur.specs.Numbered.{IsShownCycle}
use Rattle.cg_recur.specs.Recurrences.{name_at}
use Rattle.cg_recur.proofs.Names.{named, IsCycle-map, IsShown-map}
use Rattle.cg_recur.proofs.Named.{within}
use Rattle.cg_bound_recurrence.specs.WayCycles.{registers_of, longer, edge_with, IsWayCycle, HasNoWayCycle}
use Rattle.cg_bound_recurrence.specs.Lengthened.{AreLonger}

abbrev no_edge : Edge
no_edge = record { source = 0; target = 0; latency = 0; distance = 0 }

-- ---- latencies

-- the latencies of a kernel's edges are small
module _ (A : Arch) (K : Kernel) (arch : (op : Op) → latency A op ≤ 4) where
  operand_quick : (v : ℕ) (o : Option Operand) (e : Edge) → of_operand A K v o ≡ Some e → e.latency ≤ 4
  operand_quick v None e is = let bad : None ≡ Some e = is in absurd (cc)
  operand_quick v (Some (Constant c)) e is = let bad : None ≡ Some e = is in absurd (cc)
  operand_quick v (Some (DataEdge u d init)) e is =
      let q : record { source = u; target = v; latency = latency A (node K u).op; distance = d } ≡ e = cc in
      subst (λ (z : Edge). z.latency ≤ 4) q (arch (node K u).op)

  order_quick : (o : Option OrderEdge) (e : Edge) → of_order o ≡ Some e → e.latency ≤ 4
  order_quick None e is = let bad : None ≡ Some e = is in absurd (cc)
  order_quick (Some o) e is =
      let q : record { source = o.from; target = o.to; latency = 1; distance = o.distance } ≡ e = cc in
      subst (λ (z : Edge). z.latency ≤ 4) q (omega arith)

  quick : (x : EdgeId) (e : Edge) → edge_of A K x ≡ Some e → e.latency ≤ 4
  quick (Arg v p) e is = operand_quick v (slice_get (node K v).operands p) e is
  quick (Order k) e is = order_quick (slice_get K.order k) e is

-- registers of an edge, where no value crosses many
registers_small : (hops : ℕ → ℕ → ℕ) → ((v p : ℕ) → hops v p ≤ 4096) → (x : EdgeId) → registers_of hops x ≤ 4096
registers_small hops small (Arg v p) = small v p
registers_small hops small (Order k) = omega arith

longer_within : (n m : ℕ) (o : Option Edge) (f : Edge) → longer n o ≡ Some f → n ≤ 4096 →
    ((e : Edge) → o ≡ Some e → (e.source < m) × (e.target < m) × (e.latency ≤ 4)) → (f.source < m) × (f.target < m) × (f.latency < 2 ^ 16)
longer_within n m None f is l h = let bad : None ≡ Some f = is in absurd (cc)
longer_within n m (Some e) f is l h =
    let q : record { source = e.source; target = e.target; latency = e.latency + n; distance = e.distance } ≡ f = cc in
    let (a, b, c) = h e refl in
    subst (λ (z : Edge). (z.source < m) × (z.target < m) × (z.latency < 2 ^ 16)) q (a, b, omega arith)

-- ---- names

pub lengthened : (hops : ℕ → ℕ → ℕ) (names names' : List EdgeId) (es es' long long' : List Edge) → names' ≡ names → es' ≡ es → long' ≡ long → AreLonger hops names' es' long → AreLonger hops names es long'
lengthened hops names names' es es' long long' en ee el h =
    subst (λ (ns : List EdgeId). AreLonger hops ns es long') en (subst (λ (z : List Edge). AreLonger hops names' z long') ee (subst (λ (z : List Edge). AreLonger hops names' es' z) (sym el) h))

module _ (A : Arch) (K : Kernel) (names : List EdgeId) (es : List Edge) (good : AreEdges A K names es) where
  -- the name of a number names its edge
  pub edge_at : (k : ℕ) (e : Edge) → slice_get es k ≡ Some e → edge_of A K (name_at names k) ≡ Some e
  edge_at k e is = good.right k (name_at names k) e (slice_get-get_or names k (Order 0) (let m = slice_get_within es k e is in let each = good.each in omega arith)) is

  pub quick_at : ((op : Op) → latency A op ≤ 4) → (k : ℕ) (e : Edge) → slice_get es k ≡ Some e → e.latency ≤ 4
  quick_at arch k e is = quick A K arch (name_at names k) e (edge_at k e is)

  module _ (hops : ℕ → ℕ → ℕ) (long : List Edge) (longs : AreLonger hops names es long) where
    pub all_within : ((op : Op) → latency A op ≤ 4) → IsKernel K → ((v p : ℕ) → hops v p ≤ 4096) → (nodes : List Node) → nodes ≡ K.nodes → IsWithin long (length nodes)
    all_within arch kernel small nodes en k f is =
        longer_within (registers_of hops (name_at names k)) (length nodes) (slice_get es k) f (sym (longs k) ∙ is) (registers_small hops small (name_at names k))
        (λ e at. let (a, b, c) = within A K arch kernel names es es nodes good refl en k e at in (a, b, quick_at arch k e at))

    same_by : (k : ℕ) (o : Option Edge) (f : Edge) → slice_get es k ≡ o → longer (registers_of hops (name_at names k)) o ≡ Some f → edge_with A K hops (name_at names k) ≡ Some f
    same_by k None f at is = let bad : None ≡ Some f = is in absurd (cc)
    same_by k (Some e) f at is = ap (longer (registers_of hops (name_at names k))) (edge_at k e at) ∙ is

    -- the name of a number names its longer edge
    same : (k : ℕ) (f : Edge) → slice_get long k ≡ Some f → edge_with A K hops (name_at names k) ≡ Some f
    same k f is = same_by k (slice_get es k) f refl (sym (longs k) ∙ is)

    -- the number of a name
    abbrev place : (y : EdgeId) (o : Option Edge) → edge_of A K y ≡ o → ℕ
    place y None h = 0
    place y (Some e) h = (good.whole y e h).0

    place_is : (y : EdgeId) (o : Option Edge) (h : edge_of A K y ≡ o) (f : Edge) → longer (registers_of hops y) o ≡ Some f → slice_get long (place y o h) ≡ Some f
    place_is y None h f is = let bad : None ≡ Some f = is in absurd (cc)
    place_is y (Some e) h f is =
        let k = (good.whole y e h).0 in
        let m = (good.whole y e h).1 in
        let l = slice_get_within names k y m in
        let each = good.each in
        let at : slice_get es k ≡ Some (get_or es k no_edge) = slice_get-get_or es k no_edge (omega arith) in
        let has : slice_get es k ≡ Some e = at ∙ sym (good.right k y (get_or es k no_edge) m at) ∙ h in
        let name : name_at names k ≡ y = get_or_from_slice_get names k y (Order 0) m in
        longs k ∙ ap (λ x. longer (registers_of hops x) (slice_get es k)) name ∙ ap (longer (registers_of hops y)) has ∙ is

    abbrev number : EdgeId → ℕ
    number y = place y (edge_of A K y) refl

    pub back : (y : EdgeId) (f : Edge) → edge_with A K hops y ≡ Some f → slice_get long (number y) ≡ Some f
    back y f is = place_is y (edge_of A K y) refl f is

    inside : (k : ℕ) (o : Option Edge) (f : Edge) → slice_get es k ≡ o → longer (registers_of hops (name_at names k)) o ≡ Some f → k < length names
    inside k None f at is = let bad : None ≡ Some f = is in absurd (cc)
    inside k (Some e) f at is = let m = slice_get_within es k e at in let each = good.each in omega arith

    number_within : (ii : ℕ) (numbers : List ℕ) → IsShownCycle long ii numbers → (i : ℕ) → i < length numbers → slice_index numbers i < length names
    number_within ii numbers c i l =
        let k = slice_index numbers i in
        let (f, is) = named (slice_get long) (edge_with A K hops) (name_at names) same c.0.closed.0 c.0.closed.0 numbers i k c.0.closed.1 (slice_get-get_or numbers i 0 l) in
        inside k (slice_get es k) f refl (sym (longs k) ∙ is)

    pub numbers_within : (ii : ℕ) (names' : List EdgeId) (numbers numbers' : List ℕ) → names' ≡ names → numbers' ≡ numbers → IsShownCycle long ii numbers → (i : ℕ) → i < length numbers' → slice_index numbers' i < length names'
    numbers_within ii names' numbers numbers' en e c =
        subst (λ (ns : List EdgeId). (i : ℕ) → i < length numbers' → slice_index numbers' i < length ns) (sym en)
        (subst (λ (z : List ℕ). (i : ℕ) → i < length z → slice_index z i < length names) (sym e) (number_within ii numbers c))

    pub cycle_named : (ii : ℕ) (names' : List EdgeId) (numbers numbers' : List ℕ) (ids : List EdgeId) → names' ≡ names → numbers' ≡ numbers → IsShownCycle long ii numbers → ids ≡ map (name_at names') numbers' →
        IsWayCycle A K hops ii ids × IsShown (edge_with A K hops) ids
    cycle_named ii names' numbers numbers' ids en e c is =
        subst (λ (z : List EdgeId). IsWayCycle A K hops ii z × IsShown (edge_with A K hops) z) (sym (is ∙ ap (λ (ns : List EdgeId). map (name_at ns) numbers') en ∙ ap (map (name_at names)) e)) (
          IsCycle-map (slice_get long) (edge_with A K hops) (name_at names) same ii numbers c.0,
          IsShown-map (slice_get long) (edge_with A K hops) (name_at names) same c.0.closed.0 c.0.closed.0 numbers c.0.closed.1 c.1,
        )

    -- no chain by name is too long where none by number is
    pub none_named : (ii : ℕ) → ((xs : List ℕ) → IsCycle (slice_get long) ii xs → ⊥) → HasNoWayCycle A K hops ii
    none_named ii none ids c = none (map number ids) (IsCycle-map (edge_with A K hops) (slice_get long) number back ii ids c)
