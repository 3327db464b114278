use Rattle.std.proofs.Common.{◌≡◌, ◌≤◌, eqb}
use Rattle.cg_list_laws.specs.Below.{count_below}
use Rattle.cg_layout.specs.Tiles.{unit_tile}
use Rattle.cg_layout.proofs.tiled.Tiled.unit_rank.Given as goal

abbrev pub invariant-loop-other : goal.invariant-loop-other
invariant-loop-other l = (l.count ≡ count_below (λ y. eqb (unit_tile l.self y) (unit_tile l.self l.unit)) l.other) × (l.count ≤ l.other)
