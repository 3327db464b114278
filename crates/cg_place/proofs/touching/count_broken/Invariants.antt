use Rattle.std.proofs.Common.{◌≡◌, ◌≤◌, take}
use Rattle.std.specs.Prelude.{count_by}
use Rattle.cg_place.specs.Counts.{is_broken}
use Rattle.cg_place.proofs.touching.count_broken.Given as goal

abbrev pub invariant-loop-edge : goal.invariant-loop-edge
invariant-loop-edge l = (l.count ≡ count_by (is_broken l.ii l.places) (take l.edge-index l.edges)) × (l.count ≤ l.edge-index)
