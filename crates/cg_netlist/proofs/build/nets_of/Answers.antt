use Rattle.cg_netlist.proofs.Valid.{driven_item}
use Rattle.cg_netlist.proofs.build.nets_of.Goals as goal

pub push_nets-requires : goal.push_nets-requires
push_nets-requires c =
    (driven_item c.args.arch.now c.resources-resources.ensures.valid c.resources-resources.result.now c.loop-resource.resource-index c.resource-item.result
    c.resource-item.is c.resources-resources.ensures.resources c.loop-resource-test.true).few
