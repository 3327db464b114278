use Rattle.std.proofs.Common.{ℕ, ◌+◌, ◌-◌, sym, subst, arith}
use Rattle.cg_bound_flow.specs.declared.route.Routing.{Routing}
use Rattle.cg_bound_flow.specs.Route.{IsRouting, AreRouted}
use Rattle.cg_bound_flow.proofs.Circulations.{routing_more, all_more}
use Rattle.cg_bound_flow.proofs.route.route_all.Goals as goal
use Rattle.cg_bound_flow.proofs.route.route_all.Goals.{in-Stay+in_ok-route_node, in_default}

pub overflow_sub-u : goal.overflow_sub-u
overflow_sub-u c = let s = (c.requires.spans c.loop-k.k c.in-Stay.field-0 c.in-Stay.field-1 c.loop-k-test.true c.in-Stay.is).0 in omega arith

pub route_node-requires-clause-span : goal.route_node-requires-clause-span
route_node-requires-clause-span c = (c.requires.spans c.loop-k.k c.in-Stay.field-0 c.in-Stay.field-1 c.loop-k-test.true c.in-Stay.is).1

pub loop-k-preserved : goal.loop-k-preserved
loop-k-preserved c =
    let n = c.args.network.n in
    let links = c.args.network.links.now in
    elim c.match-links-k.branch [
      | in-Stay+in_ok-route_node w ↦
          let too = w.in_ok-route_node.ensures in (
            subst (λ (r : Routing). IsRouting n links (c.loop-k.k + 1) r.flow.items r.potentials.items r.routed.items) (sym w.routing-is) too.routing,
            subst (λ (r : Routing). AreRouted n links (c.loop-k.k + 1) r.routed.items) (sym w.routing-is)
                (all_more n links c.loop-k.k c.loop-k.routing.routed.items w.route_node.new.routing.routed.items c.loop-k.invariant.1 too.still (λ v p e. too.here)),
          )
      | in_default w ↦ (
        subst (λ (r : Routing). IsRouting n links (c.loop-k.k + 1) r.flow.items r.potentials.items r.routed.items) (sym w.routing-is)
            (routing_more n links c.loop-k.k c.loop-k.routing.flow.items c.loop-k.routing.potentials.items c.loop-k.routing.routed.items c.loop-k.invariant.0),
        subst (λ (r : Routing). AreRouted n links (c.loop-k.k + 1) r.routed.items) (sym w.routing-is)
            (all_more n links c.loop-k.k c.loop-k.routing.routed.items c.loop-k.routing.routed.items c.loop-k.invariant.1 (λ x h. h) (λ v p e. absurd (w.in_default.not-Stay v p e))),
      )
    ]

pub returns-clause-all : goal.returns-clause-all
returns-clause-all c = λ k v p l e. let a = c.loop-k-test.false in c.loop-k.invariant.1 k v p (omega arith) e
