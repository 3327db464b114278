use Rattle.cg_netlist.specs.Built.{HasPins}
use Rattle.cg_netlist.proofs.Lines.{of_item}
use Rattle.cg_netlist.proofs.print.push_cells.Goals as goal

pub push_cell-requires : goal.push_cell-requires
push_cell-requires c = of_item HasPins c.args.cells.now c.loop-cell.cell-index c.cell-item.result c.requires c.cell-item.is c.loop-cell-test.true
