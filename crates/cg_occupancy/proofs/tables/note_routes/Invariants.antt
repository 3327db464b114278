use Rattle.std.proofs.Common.{◌≡◌, drop}
use Rattle.std.specs.Prelude.{flat_map}
use Rattle.cg_model.specs.Mapping.{of_route}
use Rattle.cg_occupancy.specs.Tables.{with_positions}
use Rattle.cg_occupancy.proofs.tables.note_routes.Given as goal

abbrev pub invariant-loop-route : goal.invariant-loop-route
invariant-loop-route l =
    with_positions l.legal.mapping.ii l.table (flat_map (of_route l.legal.arch l.legal.kernel l.legal.mapping) (drop l.route-index l.legal.mapping.routes))
    ≡ with_positions l.legal.mapping.ii l.fn.table (flat_map (of_route l.legal.arch l.legal.kernel l.legal.mapping) l.legal.mapping.routes)
