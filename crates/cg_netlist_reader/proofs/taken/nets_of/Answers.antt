use Rattle.cg_verilog.specs.Module as texts
use Rattle.cg_verilog.specs.Read as modules
use Rattle.cg_netlist_reader.proofs.Found.{mapped_at}
use Rattle.cg_netlist_reader.proofs.taken.nets_of.Goals as goal

pub net_of-requires : goal.net_of-requires
net_of-requires c = mapped_at texts.IsWire modules.wire_of c.args.wires.now c.loop-wire.wire-index _ c.requires c.loop-wire-test.true
