use Rattle.std.proofs.Common.{◌≡◌, ◌++◌, ◌∷◌, ◌∙◌, ℕ, List, [], length, take, drop, ap, sym, refl, subst, arith, reverse}
use Rattle.cg_model.specs.declared.array.Resource.{Resource}
use Rattle.cg_levelize.specs.Topological.{AreKnown, IsCombinationalLoop}
use Rattle.cg_levelize.specs.Fault.{IsFaultOf}
use Rattle.cg_levelize.specs.declared.fault.OrderFault.TheVariants.{CombinationalLoop}
use Rattle.cg_gates.specs.declared.fault.GateFault.TheVariants as fault
use Rattle.cg_gates.specs.Accepts.{names_of}
use Rattle.cg_gates.specs.Order.{mux_graph}
use Rattle.cg_gates.proofs.Rings.{turned}
use Rattle.cg_gates.proofs.Graph.{graph_long, are_known, loop_rings}
use Rattle.cg_gates_run.proofs.order.order_of.Goals as goal

pub topological_order-requires-clause-few : goal.topological_order-requires-clause-few
topological_order-requires-clause-few c =
    let same = ap length (c.deref.ensures.value ∙ c.in_ok-graph.ensures.graph) in
    let long = graph_long c.args.nets.now in
    let few = c.mux_graph.ensures.few in
    omega (arith, same, long, few)

pub topological_order-requires-clause-known : goal.topological_order-requires-clause-known
topological_order-requires-clause-known c =
    subst AreKnown (sym (c.deref.ensures.value ∙ c.in_ok-graph.ensures.graph)) (are_known c.args.nets.now c.requires c.mux_graph.ensures.valid)

turned_is : (ring : List ℕ) → take 1 ring ++ reverse (drop 1 ring) ≡ turned ring
turned_is [] = refl
turned_is (x ∷ xs) = refl

pub returns-in-Err-CombinationalLoop-clause-ring : goal.returns-in-Err-CombinationalLoop-clause-ring
returns-in-Err-CombinationalLoop-clause-ring c = λ other.
    let N = c.args.nets.now in
    let ring = c.in-Err-CombinationalLoop.ring in
    let resources : c.deref.result.now ≡ mux_graph N = c.deref.ensures.value ∙ c.in_ok-graph.ensures.graph in
    let shown : IsFaultOf c.deref.result.now (CombinationalLoop ring) = subst (IsFaultOf c.deref.result.now) c.in-Err-CombinationalLoop.field-0-is c.in-Err-CombinationalLoop.ensures.ring in
    let P : List Resource → Type 0 = λ rs. IsCombinationalLoop rs ring in (
      turned ring,
      loop_rings N c.requires c.mux_graph.ensures.valid ring (subst P resources shown),
      c.ring_fault.ensures other ∙ ap (λ (xs : List ℕ). fault.MuxLoop (names_of N (take 1 xs ++ reverse (drop 1 xs)))) (c.as_slice.ensures ∙ c.in-Err-CombinationalLoop.ring-is) ∙ ap (λ xs. fault.MuxLoop (names_of N xs)) (turned_is ring),
    )
