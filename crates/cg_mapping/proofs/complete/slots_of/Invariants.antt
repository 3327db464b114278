use Rattle.std.proofs.Common.{◌≡◌, map, take}
use Rattle.cg_mapping.specs.Ends.{slot_of}
use Rattle.cg_mapping.proofs.complete.slots_of.Given as goal

abbrev pub invariant-loop-route : goal.invariant-loop-route
invariant-loop-route l = l.keys.items ≡ map slot_of (take l.route-index l.named)
