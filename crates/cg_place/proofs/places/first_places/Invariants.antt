use Rattle.std.proofs.Common.{◌≡◌, map}
use Rattle.std.specs.List.{range_with_len}
use Rattle.cg_place.specs.Placed.{first_place}
use Rattle.cg_place.proofs.places.first_places.Given as goal

abbrev pub invariant-loop-node : goal.invariant-loop-node
invariant-loop-node l = l.places.items ≡ map (first_place l.arch l.kernel l.early) (range_with_len 0 l.node)
