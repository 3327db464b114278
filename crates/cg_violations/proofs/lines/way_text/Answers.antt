use Rattle.std.proofs.Common.{map, ap, ◌∙◌}
use Rattle.cg_check.specs.Rules.{same_way}
use Rattle.cg_check.specs.Claims.{position_of}
use Rattle.cg_violations.specs.Faults.{first_unlike, way_name}
use Rattle.cg_violations.proofs.Named.{met}
use Rattle.cg_violations.proofs.lines.way_text.Goals as goal

pub returns : goal.returns
returns c K =
    let A = c.args.arch.now in
    let spot = c.args.spot in
    let ps = map position_of c.args.stops.now in
    met A spot.resource spot.slot _ _ _ _ _ c.in_ok-text.ensures
    (c.way_name-first_name.ensures ∙ ap (way_name A) c.first_on-first.ensures)
    (c.way_name-second_name.ensures ∙ ap (way_name A) (c.first_unlike-second.ensures ∙ ap (first_unlike same_way spot.ii ps spot.resource spot.slot) c.first_on-first.ensures))
