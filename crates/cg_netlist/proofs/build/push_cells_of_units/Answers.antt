use Rattle.cg_netlist.proofs.Valid.{placed_item}
use Rattle.cg_netlist.proofs.build.push_cells_of_units.Goals as goal

pub unit_cell-requires : goal.unit_cell-requires
unit_cell-requires c =
    placed_item c.args.arch.now c.units-units.ensures.valid c.units-units.result.now c.loop-unit.unit-index c.unit-item.result
    c.unit-item.is c.units-units.ensures.units c.loop-unit-test.true
