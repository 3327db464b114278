use Rattle.std.proofs.Common.{◌∙◌, ap, arith, cond, bytes_eq, Some, None}
use Rattle.std.specs.Option.{option_or}
use Rattle.cg_reading.specs.Numbers.{found_in}
use Rattle.cg_gates.specs.Shape.{shape_of}
use Rattle.cg_gates.specs.Numbers.{by_net}
use Rattle.cg_gates.proofs.Places.{all_mapped, mapped_more}
use Rattle.cg_gates.proofs.firsts.drivers_of.Goals as goal

pub loop-number-preserved : goal.loop-number-preserved
loop-number-preserved c =
    mapped_more c.loop-number.numbers c.add_first.new.numbers shape_of by_net c.args.cells.now c.loop-number.number c.index-cells-number.result c.index-cells-number.is c.loop-number-test.true c.loop-number.invariant
    (λ name. c.in_ok-add_first.ensures name ∙ ap (λ q. option_or (found_in c.loop-number.numbers name) (cond (bytes_eq q name) (Some c.loop-number.number) None)) c.driven_net.ensures)

pub returns : goal.returns
returns c = all_mapped c.loop-number.numbers shape_of by_net c.args.cells.now c.loop-number.number (omega arith) c.loop-number.invariant
