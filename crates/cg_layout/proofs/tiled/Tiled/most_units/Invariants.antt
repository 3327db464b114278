use Rattle.std.proofs.Common.{◌≡◌, ◌+◌, ◌≤◌}
use Rattle.cg_list_laws.specs.Below.{greatest_below}
use Rattle.cg_layout.specs.Layout.{unit_rank}
use Rattle.cg_layout.proofs.tiled.Tiled.most_units.Given as goal

abbrev pub invariant-loop-unit : goal.invariant-loop-unit
invariant-loop-unit l = (l.most ≡ greatest_below (λ x. unit_rank l.self x + 1) l.unit) × (l.most ≤ 1024)
