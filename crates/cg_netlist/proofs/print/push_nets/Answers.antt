use Rattle.cg_netlist.specs.Built.{HasBits}
use Rattle.cg_netlist.proofs.Lines.{of_item}
use Rattle.cg_netlist.proofs.print.push_nets.Goals as goal

pub push_net-requires : goal.push_net-requires
push_net-requires c = of_item HasBits c.args.nets.now c.loop-net.net-index c.net-item.result c.requires c.net-item.is c.loop-net-test.true
