use Rattle.std.proofs.Common.{◌≡◌, ◌++◌, take}
use Rattle.std.specs.Prelude.{flat_map}
use Rattle.cg_violations.specs.Violations.{route_violation}
use Rattle.cg_violations.proofs.placing.push_routes.Given as goal

abbrev pub invariant-loop-route : goal.invariant-loop-route
invariant-loop-route l = l.found.items ≡ l.fn.found.items ++ flat_map (route_violation l.arch l.kernel l.mapping) (take l.route-index l.mapping.routes)
