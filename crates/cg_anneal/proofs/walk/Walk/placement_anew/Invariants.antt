use Rattle.cg_anneal.proofs.Anew.{IsPlacedTo}
use Rattle.cg_anneal.proofs.walk.Walk.placement_anew.Given as goal

abbrev pub invariant-loop-node : goal.invariant-loop-node
invariant-loop-node l = IsPlacedTo l.self l.node l.placement
