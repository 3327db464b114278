use Rattle.std.proofs.Common.{◌≡◌, length, ap, ◌∙◌, subst, arith}
use Rattle.cg_model.specs.Kernel.{size}
use Rattle.cg_hub.specs.Hub.{hub_routes}
use Rattle.cg_hub.specs.Scheduled.{Scheduled, IsKept}
use Rattle.cg_hub.proofs.Made.{joined, map_is}
use Rattle.cg_hub.proofs.schedule.Schedule.into_mapping.Goals as goal

pub loop-node-preserved : goal.loop-node-preserved
loop-node-preserved c =
    let S = c.args.self in
    joined (hub_routes S.arch S.kernel S.ii) c.loop-node.routes.items c.add_routes.new.routes.items c.loop-node.node c.loop-node.invariant c.in_ok-add_routes.ensures

pub returns : goal.returns
returns c =
    let S = c.args.self in
    let places = c.self.inside.places.items in
    let kept = subst (λ (z : Scheduled). IsKept z places) c.self.view_is c.self.invariant in
    let all = c.nodes-node-end.ensures.nodes ∙ ap (λ (z : Scheduled). z.kernel.nodes) c.self.view_is in
    let e : c.loop-node.node ≡ size S.kernel = omega (arith, ap length all) in
    c.new.ensures ∙ map_is S places c.loop-node.routes.items c.self.inside.ii c.loop-node.node kept (ap (λ (z : Scheduled). z.ii) c.self.view_is) e c.loop-node.invariant
