use Rattle.cg_violations.specs.Cells.{cell_violation}
use Rattle.cg_list_laws.proofs.Grown.{grown, unbegun}
use Rattle.cg_violations.proofs.Steps.{pushed}
use Rattle.cg_violations.proofs.clashing.push_row.Goals as goal

pub loop-slot-init : goal.loop-slot-init
loop-slot-init c = unbegun (cell_violation c.args.table.now c.args.ii c.args.rule c.args.resource) c.args.found.now.items

pub loop-slot-preserved : goal.loop-slot-preserved
loop-slot-preserved c =
    grown (cell_violation c.args.table.now c.args.ii c.args.rule c.args.resource) c.loop-slot.slot c.args.found.now.items c.loop-slot.found.items c.push_if.new.found.items c.loop-slot.invariant
    (pushed c.loop-slot.found.items c.push_if.new.found.items _ _ _ _ c.is_clash-clash.ensures c.in_ok-push_if.ensures)
