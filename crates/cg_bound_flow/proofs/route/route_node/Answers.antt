use Rattle.std.proofs.Common.{◌≡◌, false, sym, ◌∙◌, ◌<◌, length, arith}
use Rattle.std.specs.Prelude.{slice_index_or}
use Rattle.cg_bound_flow.proofs.Logs.{read}
use Rattle.cg_bound_flow.proofs.Circulations.{routed_too}
use Rattle.cg_bound_flow.proofs.route.route_node.Goals as goal

pub returns-in_ok-route : goal.returns-in_ok-route
returns-in_ok-route c =
    let m = c.requires.routing.marks in
    let s = c.requires.span.0 in
    let inside : c.args.u < length c.args.routing.now.routed.items = omega arith in
    let fresh : slice_index_or c.args.routing.now.routed.items c.args.u false ≡ false = sym (read c.args.routing.now.routed.items c.args.u c.index.result.now false inside c.index.ensures) ∙ c.if-not-index.true in
    routed_too c.args.network.n c.args.network.links.now c.args.count c.args.u c.args.routing.now.flow.items c.args.routing.now.potentials.items c.route.new.flow.items c.route.new.potentials.items c.args.routing.now.routed.items fresh c.in_ok-route.ensures c.requires.span c.requires.routing
