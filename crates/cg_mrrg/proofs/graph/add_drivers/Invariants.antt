use Rattle.std.proofs.Common.{◌≡◌, ◌++◌, map}
use Rattle.std.specs.Prelude.{take}
use Rattle.cg_mrrg.specs.Graph.{link_from}
use Rattle.cg_mrrg.proofs.graph.add_drivers.Given as goal

abbrev pub invariant-loop-driver : goal.invariant-loop-driver
invariant-loop-driver l = (l.lists.links.items ≡ l.initial.lists.links.items ++ map (link_from l.delay l.slot l.interval) (take l.driver-index l.driver-items)) × (l.lists.starts.items ≡ l.initial.lists.starts.items)
