use Rattle.std.proofs.Common.{◌≡◌, length}
use Rattle.cg_class.specs.Search.{IsPlaced}
use Rattle.cg_class.proofs.class.assign.Given as goal

abbrev pub invariant-loop : goal.invariant-loop
invariant-loop l = IsPlaced l.nodes l.units l.ii l.places.items × (length l.places.items ≡ l.counter)
