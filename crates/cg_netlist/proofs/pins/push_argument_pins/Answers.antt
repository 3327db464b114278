use Rattle.cg_netlist.proofs.Ports.{pushed_argument}
use Rattle.cg_netlist.proofs.pins.push_argument_pins.Goals as goal

pub loop-place-preserved : goal.loop-place-preserved
loop-place-preserved c =
    pushed_argument c.args.arch.now c.args.ports.now c.loop-place.place c.argument_port.result.now c.in_ok-net.net c.args.pins.now.items c.loop-place.pins.items c.push_pin.new.pins.items
    c.loop-place-test.true c.argument_port.ensures c.in_ok-net.ensures c.loop-place.invariant c.in_ok-push_pin.ensures
