use Rattle.std.proofs.Common.{◌≡◌, length}
use Rattle.cg_place.proofs.Offering.{offering_below}
use Rattle.cg_hub.proofs.hosts.host.Given as goal

abbrev pub invariant-loop-x : goal.invariant-loop-x
invariant-loop-x l = 0 ≡ length (offering_below l.arch l.op l.x)
