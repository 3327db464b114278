use Rattle.std.proofs.Common.{◌∙◌, ap, sym}
use Rattle.std.specs.List.{flat_map}
use Rattle.cg_netlist_reader.specs.Reading.{pin_net, pin_nets}
use Rattle.cg_netlist_reader.specs.Looked.{unknown_by}
use Rattle.cg_netlist_reader.proofs.Looks.{item_more}
use Rattle.cg_netlist_reader.proofs.joining.check_cells.Goals as goal

pub loop-cell-preserved : goal.loop-cell-preserved
loop-cell-preserved c =
    item_more c.args.numbers.now pin_nets c.args.cells.now c.loop-cell.cell-index c.cell-item.result c.cell-item.is c.loop-cell-test.true c.loop-cell.invariant
    (ap (λ ps. unknown_by c.args.numbers.now (flat_map pin_net ps)) (sym c.as_slice.ensures) ∙ c.in-Ok.ensures.ok)
