use Rattle.std.proofs.Common.{◌≡◌, ◌≤◌}
use Rattle.cg_list_laws.specs.Below.{count_below}
use Rattle.cg_layout.specs.Layout.{is_beside}
use Rattle.cg_layout.proofs.tiled.Tiled.rank.Given as goal

abbrev pub invariant-loop-other : goal.invariant-loop-other
invariant-loop-other l = (l.count ≡ count_below (is_beside l.self l.resource) l.other) × (l.count ≤ l.other)
