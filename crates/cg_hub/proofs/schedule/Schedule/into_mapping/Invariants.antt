use Rattle.std.proofs.Common.{◌≡◌}
use Rattle.std.specs.Prelude.{flat_map}
use Rattle.std.specs.List.{range_with_len}
use Rattle.cg_hub.specs.Hub.{hub_routes}
use Rattle.cg_hub.proofs.schedule.Schedule.into_mapping.Given as goal

abbrev pub invariant-loop-node : goal.invariant-loop-node
invariant-loop-node l = l.routes.items ≡ flat_map (hub_routes l.fn.self.arch l.fn.self.kernel l.fn.self.ii) (range_with_len 0 l.node)
