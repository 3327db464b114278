use Rattle.cg_netlist.proofs.Valid.{driven_item}
use Rattle.cg_netlist.proofs.build.push_cells_of_resources.Goals as goal

pub push_resource_cells-requires : goal.push_resource_cells-requires
push_resource_cells-requires c =
    driven_item c.args.arch.now c.resources-resources.ensures.valid c.resources-resources.result.now c.loop-resource.resource-index c.resource-item.result
    c.resource-item.is c.resources-resources.ensures.resources c.loop-resource-test.true
