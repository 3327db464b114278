use Rattle.std.proofs.Common.{◌≡◌, ◌-◌, arith, ap, ◌∙◌}
use Rattle.cg_place.specs.Counts.{excess_at}
use Rattle.cg_place.proofs.laws.counts.excess_on.Goals as goal
use Rattle.cg_model.proofs.Ranges.{sum_more}

pub loop-slot-preserved : goal.loop-slot-preserved
loop-slot-preserved c =
    let here : c.saturating_sub-excess.result ≡ excess_at c.args.ii c.args.places.now c.args.unit c.loop-slot.slot = c.saturating_sub-excess.ensures ∙ ap (λ z. z - 1) c.count_at.ensures.value in
    let more = sum_more (excess_at c.args.ii c.args.places.now c.args.unit) c.loop-slot.slot in
    let small = c.count_at.ensures.small in
    (omega (arith, more, here), omega arith)
