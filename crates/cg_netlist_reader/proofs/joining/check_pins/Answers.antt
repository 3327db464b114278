use Rattle.std.proofs.Common.{ap}
use Rattle.cg_netlist_reader.specs.Reading.{pin_net}
use Rattle.cg_netlist_reader.specs.Looked.{unknown_by}
use Rattle.std.proofs.Common.{◌∷◌, [], ◌∙◌, sym}
use Rattle.cg_netlist_reader.proofs.Looks.{item_more}
use Rattle.cg_netlist_reader.proofs.joining.check_pins.Goals as goal

pub loop-pin-preserved : goal.loop-pin-preserved
loop-pin-preserved c =
    item_more c.args.numbers.now pin_net c.args.pins.now c.loop-pin.pin-index c.pin-item.result c.pin-item.is c.loop-pin-test.true c.loop-pin.invariant
    (ap (λ n. unknown_by c.args.numbers.now (n ∷ [])) (sym c.as_str.ensures) ∙ c.in-Ok.ensures.ok)
