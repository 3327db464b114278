use Rattle.std.proofs.Common.{◌≡◌, drop}
use Rattle.cg_occupancy.specs.Tables.{with_places}
use Rattle.cg_occupancy.proofs.tables.note_nodes.Given as goal

abbrev pub invariant-loop-node : goal.invariant-loop-node
invariant-loop-node l =
    with_places l.legal.mapping.ii l.table l.node (drop l.node l.legal.mapping.places)
    ≡ with_places l.legal.mapping.ii l.fn.table 0 l.legal.mapping.places
