use Rattle.cg_netlist.proofs.Ports.{pushed_driver}
use Rattle.cg_netlist.proofs.pins.push_driver_pins.Goals as goal

pub loop-place-preserved : goal.loop-place-preserved
loop-place-preserved c =
    pushed_driver c.args.arch.now c.args.drivers.now c.loop-place.place c.in_ok-net.net c.args.pins.now.items c.loop-place.pins.items c.push_driver_pin.new.pins.items
    c.loop-place-test.true c.in_ok-net.ensures c.loop-place.invariant c.in_ok-push_driver_pin.ensures
