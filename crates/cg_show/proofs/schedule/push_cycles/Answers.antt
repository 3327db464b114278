use Rattle.std.proofs.Common.{◌≡◌, ◌+◌, ◌*◌, ◌∙◌, arith}
use Rattle.std.specs.Prelude.{codes, decimal}
use Rattle.cg_show.specs.Schedule.{cycle_part, cycle_left, cycles, cycles_text}
use Rattle.cg_show.proofs.Steps.{unbegun, grown, ended, same_words}
use Rattle.cg_show.proofs.schedule.push_cycles.Goals as goal

pub loop-cycle-init : goal.loop-cycle-init
loop-cycle-init c = unbegun cycle_part c.args.text.now.items

pub loop-cycle-preserved : goal.loop-cycle-preserved
loop-cycle-preserved c =
    let t = c.loop-cycle.cycle-counter in
    let number : c.as_str.result.now ≡ decimal t = c.as_str.ensures.value ∙ c.in_ok-number.ensures.ok in
    grown cycle_part t c.args.text.now.items c.loop-cycle.text.items _ c.loop-cycle.invariant
    (same_words (codes "o") c.loop-cycle.text.items _ (284 + 48 * t) (cycle_left t + 24) 36 c.as_str.result.now (decimal t) c.in_ok-push_words.ensures (omega arith) number)

pub returns : goal.returns
unfolding cycles_text
returns c =
    let m = c.args.marks.now in
    let last : c.loop-cycle.cycle-counter ≡ cycles m = omega (arith, c.cycles-cycle-end.ensures.value) in
    ended cycle_part _ (cycles m) _ _ c.loop-cycle.invariant last
