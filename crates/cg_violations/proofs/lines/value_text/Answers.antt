use Rattle.std.proofs.Common.{map, ap, ◌∙◌}
use Rattle.cg_check.specs.Rules.{same_value}
use Rattle.cg_check.specs.Claims.{position_of}
use Rattle.cg_violations.specs.Faults.{first_unlike, source_name}
use Rattle.cg_violations.proofs.Named.{met}
use Rattle.cg_violations.proofs.lines.value_text.Goals as goal

pub returns : goal.returns
returns c =
    let K = c.args.mapped.kernel.now in
    let spot = c.args.spot in
    let ps = map position_of c.args.stops.now in
    met c.args.mapped.arch.now spot.resource spot.slot _ _ _ _ _ c.in_ok-text.ensures
    (c.source_name-first_name.ensures ∙ ap (source_name K) c.first_on-first.ensures)
    (c.source_name-second_name.ensures ∙ ap (source_name K) (c.first_unlike-second.ensures ∙ ap (first_unlike same_value spot.ii ps spot.resource spot.slot) c.first_on-first.ensures))
