use Rattle.std.proofs.Common.{◌≡◌, take}
use Rattle.cg_anneal.proofs.walk.Walk.places.Given as goal

abbrev pub invariant-loop-node : goal.invariant-loop-node
invariant-loop-node l = l.places.items ≡ take l.node l.self.state.places
