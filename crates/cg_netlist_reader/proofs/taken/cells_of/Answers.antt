use Rattle.cg_verilog.specs.Module as texts
use Rattle.cg_verilog.specs.Read as modules
use Rattle.cg_netlist_reader.proofs.Found.{of_mapped}
use Rattle.cg_netlist_reader.proofs.taken.cells_of.Goals as goal

pub cell_of-requires : goal.cell_of-requires
cell_of-requires c =
    of_mapped texts.IsCell modules.cell_of c.args.cells.now c.loop-cell.cell-index c.cell-item.result c.requires c.cell-item.is c.loop-cell-test.true
