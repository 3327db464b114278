use Rattle.std.proofs.Common.{◌∙◌}
use Rattle.cg_netlist.proofs.Named.{named_apart}
use Rattle.cg_netlist.proofs.Whole.{built, built_is, is_graph}
use Rattle.cg_netlist.proofs.build.netlist.Goals as goal

pub new-requires : goal.new-requires
new-requires c =
    built_is c.args.arch.now _ c.nets_of.ensures.valid
    (built c.args.arch.now c.in_ok-nets.nets.items c.new-cells.result.items c.push_cells_of_resources.new.cells.items c.push_cells_of_units.new.cells.items
    c.in_ok-nets.ensures.nets c.new-cells.ensures.items c.in_ok-push_cells_of_resources.ensures c.in_ok-push_cells_of_units.ensures)

pub returns-clause-graph : goal.returns-clause-graph
returns-clause-graph c =
    c.new.ensures
    ∙ built c.args.arch.now c.in_ok-nets.nets.items c.new-cells.result.items c.push_cells_of_resources.new.cells.items c.push_cells_of_units.new.cells.items
    c.in_ok-nets.ensures.nets c.new-cells.ensures.items c.in_ok-push_cells_of_resources.ensures c.in_ok-push_cells_of_units.ensures

pub returns-clause-valid : goal.returns-clause-valid
returns-clause-valid c = is_graph c.args.arch.now c.nets_of.ensures.valid

pub returns-clause-names : goal.returns-clause-names
returns-clause-names c = named_apart c.args.arch.now _ c.nets_of.ensures.valid (returns-clause-graph c)
