use Rattle.std.proofs.Common.{◌≡◌, drop, map}
use Rattle.cg_reading.proofs.Lists.{before}
use Rattle.cg_mapping.specs.Ends.{as_end}
use Rattle.cg_mapping.specs.Complete.{each_route}
use Rattle.cg_mapping.proofs.complete.each_route.Given as goal

abbrev pub invariant-loop-end : goal.invariant-loop-end
invariant-loop-end l =
    before l.routes.items (each_route l.nodes l.named (map as_end (drop l.end-index l.ends))) ≡ each_route l.nodes l.named (map as_end l.ends)
