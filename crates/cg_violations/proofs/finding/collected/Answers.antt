use Rattle.cg_violations.specs.Violations.{violations_of}
use Rattle.cg_violations.proofs.Steps.{gathered}
use Rattle.cg_violations.proofs.finding.collected.Goals as goal

pub returns : goal.returns
unfolding violations_of
returns c =
    gathered _ _ _ _ _ _ _ c.new-found.result.items c.push_interval.new.found.items c.push_units.new.found.items c.push_shared.new.found.items c.push_order.new.found.items c.push_routes.new.found.items c.push_clashes.new.found.items
    c.push_clashes-2.new.found.items c.new-found.ensures.items c.in_ok-push_interval.ensures c.in_ok-push_units.ensures c.in_ok-push_shared.ensures c.in_ok-push_order.ensures c.in_ok-push_routes.ensures
    c.in_ok-push_clashes.ensures c.in_ok-push_clashes-2.ensures
