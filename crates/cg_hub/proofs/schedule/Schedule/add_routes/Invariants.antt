use Rattle.std.proofs.Common.{◌≡◌, ◌++◌, drop}
use Rattle.cg_hub.specs.Hub.{hub_routes, hub_routes_to}
use Rattle.cg_hub.proofs.schedule.Schedule.add_routes.Given as goal

abbrev pub invariant-loop-arg : goal.invariant-loop-arg
invariant-loop-arg l =
    l.routes.items ++ hub_routes_to l.self.arch l.self.kernel l.self.ii l.node l.arg (drop l.arg l.operands) ≡
    l.initial.routes.items ++ hub_routes l.self.arch l.self.kernel l.self.ii l.node
