use Rattle.std.proofs.Common.{◌≡◌, ◌+◌, ◌≤◌, ◌∷◌, drop}
use Rattle.cg_model.specs.Mapping.{positions_after}
use Rattle.cg_occupancy.specs.Marks.{position_of}
use Rattle.cg_occupancy.specs.Tables.{with_positions}
use Rattle.cg_occupancy.proofs.tables.note_path.Given as goal

abbrev pub invariant-loop-resource : goal.invariant-loop-resource
invariant-loop-resource l =
    (with_positions l.ii l.table (positions_after l.arch l.stay.source l.stay.resource l.stay.time (drop l.resource-index l.links))
    ≡ with_positions l.ii l.fn.table (position_of l.fn.first ∷ positions_after l.arch l.fn.first.source l.fn.first.resource l.fn.first.time l.links))
    × (l.stay.time ≤ l.fn.first.time + l.resource-index)
