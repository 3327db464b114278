use Rattle.cg_bound_flow.specs.Route.{IsRouting, AreRouted}
use Rattle.cg_bound_flow.proofs.route.route_all.Given as goal

abbrev pub invariant-loop-k : goal.invariant-loop-k
invariant-loop-k l = IsRouting l.network.n l.network.links.now l.k l.routing.flow.items l.routing.potentials.items l.routing.routed.items × AreRouted l.network.n l.network.links.now l.k l.routing.routed.items
