use Rattle.std.proofs.Common.{◌≡◌, take}
use Rattle.cg_walk_spec.specs.Walk.{unrouted}
use Rattle.cg_anneal.specs.Walking.{at_state}
use Rattle.cg_anneal.proofs.walk.Walk.drop_all.Given as goal

abbrev pub invariant-loop-i : goal.invariant-loop-i
invariant-loop-i l = l.self ≡ at_state l.fn.self (unrouted (take l.i-index l.list) l.fn.self.state)
