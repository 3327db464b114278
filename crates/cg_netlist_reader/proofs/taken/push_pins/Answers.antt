use Rattle.cg_verilog.specs.Module as texts
use Rattle.cg_verilog.specs.Read as modules
use Rattle.cg_netlist_reader.proofs.Found.{mapped_at}
use Rattle.cg_netlist_reader.proofs.taken.push_pins.Goals as goal

pub pin_of-requires : goal.pin_of-requires
pin_of-requires c = mapped_at texts.IsPin modules.pin_of c.args.more.now c.loop-pin.pin-index _ c.requires c.loop-pin-test.true
