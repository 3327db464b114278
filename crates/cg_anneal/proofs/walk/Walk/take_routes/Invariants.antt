use Rattle.std.proofs.Common.{◌≡◌, take}
use Rattle.cg_walk_spec.specs.State.{edges, routes_by}
use Rattle.cg_walk_spec.specs.Walk.{all_edges, unrouted}
use Rattle.cg_anneal.specs.Walking.{at_state}
use Rattle.cg_anneal.proofs.walk.Walk.take_routes.Given as goal

abbrev pub invariant-loop-i : goal.invariant-loop-i
invariant-loop-i l = record {
  now : l.self ≡ at_state l.fn.self (unrouted (take l.i (all_edges l.fn.self.kernel)) l.fn.self.state);
  routes : l.routes.items ≡ routes_by (take l.i (edges l.fn.self.kernel)) (take l.i l.fn.self.state.routes);
}
