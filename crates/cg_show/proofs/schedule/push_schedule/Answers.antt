use Rattle.std.proofs.Common.{◌≡◌, ◌++◌, ◌∙◌, refl, ap}
use Rattle.std.specs.Prelude.{codes, decimal}
use Rattle.cg_show.specs.Schedule.{cycles, cycles_text, stages_text, bars_text, schedule_text}
use Rattle.cg_show.proofs.Steps.{joined, same_words}
use Rattle.cg_show.proofs.schedule.push_schedule.Goals as goal

pub returns : goal.returns
unfolding schedule_text
returns c =
    let m = c.args.marks.now in
    let old = c.args.text.now.items in
    let first = c.push_words.new.text.items in
    let second = c.push_cycles.new.text.items in
    let third = c.push_stages.new.text.items in
    let last = c.push_bars.new.text.items in
    let title = codes "one turn in time: " ++ (decimal (cycles m) ++ codes " cycles") in
    let said : c.as_str.result.now ≡ title =
    c.as_str.ensures.value ∙ c.in_ok-title.ensures.ok ∙ ap (λ z. codes "one turn in time: " ++ (decimal z ++ codes " cycles")) c.cycles-count.ensures.value in
    joined old _ first last _ (same_words (codes "h") old first 0 0 12 c.as_str.result.now title c.in_ok-push_words.ensures refl said)
    (joined first (cycles_text m) second last (stages_text m ++ bars_text m) c.in_ok-push_cycles.ensures
    (joined second (stages_text m) third last (bars_text m) c.in_ok-push_stages.ensures c.in_ok-push_bars.ensures))
