use Rattle.std.proofs.Common.{◌+◌, ◌*◌}
use Rattle.cg_mrrg.specs.Lists.{AreParts}
use Rattle.cg_mrrg.specs.Nodes.{out_of}
use Rattle.cg_mrrg.proofs.graph.links_out.Given as goal

abbrev pub invariant-loop-resource : goal.invariant-loop-resource
invariant-loop-resource l = AreParts (out_of l.arch l.interval) (l.resource * l.interval) l.lists.links.items l.lists.starts.items

abbrev pub invariant-loop-slot : goal.invariant-loop-slot
invariant-loop-slot l = AreParts (out_of l.arch l.interval) (l.resource * l.interval + l.slot) l.lists.links.items l.lists.starts.items
