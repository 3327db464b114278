use Rattle.std.proofs.Common.{ap, ◌∙◌, cond, bytes_eq, Some, None}
use Rattle.std.specs.Option.{option_or}
use Rattle.cg_reading.specs.Numbers.{found_in}
use Rattle.cg_gates.specs.Numbers.{by_name}
use Rattle.cg_gates.proofs.Places.{first_more}
use Rattle.cg_gates.proofs.numbers.numbers_of.Goals as goal

pub loop-number-preserved : goal.loop-number-preserved
loop-number-preserved g c =
    first_more c.loop-number.numbers c.add_first.new.numbers (by_name g.T.HasName.own) c.args.items.now c.loop-number.number c.index-items-number.result c.index-items-number.is c.loop-number-test.true c.loop-number.invariant
    (λ name. c.in_ok-add_first.ensures name ∙ ap (λ t. option_or (found_in c.loop-number.numbers name) (cond (bytes_eq t name) (Some c.loop-number.number) None)) c.own_name.ensures)
