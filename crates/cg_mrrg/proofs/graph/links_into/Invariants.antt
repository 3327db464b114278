use Rattle.std.proofs.Common.{◌+◌, ◌*◌}
use Rattle.cg_mrrg.specs.Lists.{AreParts}
use Rattle.cg_mrrg.specs.Nodes.{into}
use Rattle.cg_mrrg.proofs.graph.links_into.Given as goal

abbrev pub invariant-loop-resource : goal.invariant-loop-resource
invariant-loop-resource l = AreParts (into l.arch l.interval) (l.resource * l.interval) l.lists.links.items l.lists.starts.items

abbrev pub invariant-loop-slot : goal.invariant-loop-slot
invariant-loop-slot l = AreParts (into l.arch l.interval) (l.resource * l.interval + l.slot) l.lists.links.items l.lists.starts.items
