use Rattle.std.proofs.Common.{ℕ, ◌++◌, suc, ◌∙◌, ap}
use Rattle.std.specs.Prelude.{codes}
use Rattle.cg_check.specs.Legal.{config_of}
use Rattle.cg_list_laws.specs.Below.{lists_below}
use Rattle.cg_occupancy.specs.Counts.{busy_units}
use Rattle.cg_show.specs.Schedule.{stage_line, stages_text}
use Rattle.cg_show.proofs.Steps.{joined}
use Rattle.cg_show.proofs.schedule.push_stages.Goals as goal

pub returns : goal.returns
unfolding stages_text
returns c =
    let m = c.args.marks.now in
    let first = c.extend_from_slice.new.self.items in
    let second = c.push_stage_ways.new.ways.items in
    let last = c.extend_from_slice-2.new.self.items in
    let lines = λ (z : ℕ). lists_below (stage_line m z) (suc (config_of m).stages) in
    joined c.args.text.now.items (codes "<path class='g' d='") first last (lines (busy_units m) ++ codes "'/>") c.in_ok-extend_from_slice.ensures.items
    (joined first (lines (busy_units m)) second last (codes "'/>") (c.in_ok-push_stage_ways.ensures ∙ ap (λ z. first ++ lines z) c.busy_units.ensures) c.in_ok-extend_from_slice-2.ensures.items)
