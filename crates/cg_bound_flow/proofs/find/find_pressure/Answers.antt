use Rattle.std.proofs.Common.{◌≡◌, ℕ, ◌+◌, ◌-◌, ◌<◌, List, Bool, Option, None, length, true, false, ap, sym, ◌∙◌, subst, refl, arith}
use Rattle.std.specs.Prelude.{slice_index, slice_index_or}
use Rattle.std.proofs.lemmas.List.{length-replicate}
use Rattle.cg_model.specs.Kernel.{size}
use Rattle.cg_bound_flow.specs.declared.settle.Blocked.{Blocked}
use Rattle.cg_bound_flow.specs.Network.{link}
use Rattle.cg_bound_flow.specs.Route.{IsSettled, IsSettling, AreRouted, HasSpans}
use Rattle.cg_bound_flow.proofs.Finished.{spans_as, routing_begins, all_zeros}
use Rattle.cg_bound_flow.proofs.find.find_pressure.Goals as goal

pub route_all-requires-clause-routing : goal.route_all-requires-clause-routing
route_all-requires-clause-routing c =
    let e = ap length c.nodes-n.ensures.nodes in
    let links = c.as_slice-links.result.now in
    let settled : IsSettled links c.deref.result.now (length c.in_ok-potentials.potentials.items) c.keep_all.new.potentials.items c.in_ok-blocked.field-0 = c.in_ok-blocked.ensures in
    let none : IsSettled links c.deref.result.now (length c.in_ok-potentials.potentials.items) c.keep_all.new.potentials.items None =
    subst (λ (o : Option Blocked). IsSettled links c.deref.result.now (length c.in_ok-potentials.potentials.items) c.keep_all.new.potentials.items o) c.in_default.is settled in
    let here : IsSettling links c.in_ok-flow.flow.items (length c.in_ok-potentials.potentials.items) (length links) c.keep_all.new.potentials.items =
    subst (λ (z : List ℕ). IsSettling links z (length c.in_ok-potentials.potentials.items) (length links) c.keep_all.new.potentials.items) c.deref.ensures.value none in
    let g = c.in_ok-list.ensures.graph.short in
    let f = ap length c.as_slice-links.ensures.value in
    let a = c.in_ok-potentials.ensures.items_if_clones_equal (λ y e. e) in
    let b = c.in_ok-flow.ensures.items_if_clones_equal (λ y e. e) in
    let d = c.in_ok-routed.ensures.items_if_clones_equal (λ y e. e) in
    routing_begins (length c.nodes-n.result.now) (length c.in_ok-potentials.potentials.items) links c.in_ok-flow.flow.items c.keep_all.new.potentials.items c.in_ok-routed.routed.items here (ap length a ∙ length-replicate _ _) (omega arith)
    (ap length b ∙ length-replicate _ _) (λ k. ap (λ (z : List ℕ). slice_index z k) b ∙ all_zeros _ k 0) (ap length d ∙ length-replicate _ _) (λ w. ap (λ (z : List Bool). slice_index_or z w false) d ∙ all_zeros _ w false)

pub route_all-requires-clause-spans : goal.route_all-requires-clause-spans
route_all-requires-clause-spans c =
    spans_as (size c.args.kernel.now) (length c.nodes-n.result.now) c.in_ok-list.list.items c.as_slice-links.result.now c.in_ok-list.ensures.spans (sym (ap length c.nodes-n.ensures.nodes)) (sym c.as_slice-links.ensures.value)

pub decide-requires-clause-all : goal.decide-requires-clause-all
decide-requires-clause-all c =
    let links = c.as_slice-links.result.now in
    let h : AreRouted (length c.nodes-n.result.now) links (length links) c.route_all.new.routing.routed.items = c.in_ok-route_all.ensures.all in
    subst (λ z. AreRouted z links (length links) c.route_all.new.routing.routed.items) (ap length c.nodes-n.ensures.nodes) h
