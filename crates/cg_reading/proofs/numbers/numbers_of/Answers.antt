use Rattle.std.proofs.Common.{arith, ◌≡◌, ◌+◌}
use Rattle.cg_model.proofs.Positions.{position_from-more}
use Rattle.cg_reading.specs.Numbers.{has_name}
use Rattle.cg_reading.proofs.numbers.numbers_of.Goals as goal

pub loop-number-preserved : goal.loop-number-preserved
loop-number-preserved g c = λ name.
    let more = position_from-more (λ item. has_name name (g.T.Named.own_name item)) 0 c.args.items.now c.loop-number.number c.index-items-number.result (omega arith) in
    let new = c.in_ok-add_item.ensures name in
    let before = c.loop-number.invariant name in
    let same : 0 + c.loop-number.number ≡ c.loop-number.number = omega arith in
    cc
