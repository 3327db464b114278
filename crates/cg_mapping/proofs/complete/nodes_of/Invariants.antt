use Rattle.std.proofs.Common.{◌≡◌, map, take}
use Rattle.cg_mapping.specs.Ends.{node_of}
use Rattle.cg_mapping.proofs.complete.nodes_of.Given as goal

abbrev pub invariant-loop-found : goal.invariant-loop-found
invariant-loop-found l = l.keys.items ≡ map node_of (take l.found-index l.named)
