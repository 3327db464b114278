use Rattle.cg_violations.specs.Cells.{row_violations}
use Rattle.cg_list_laws.proofs.Grown.{grown, unbegun}
use Rattle.cg_violations.proofs.clashing.push_table.Goals as goal

pub loop-resource-init : goal.loop-resource-init
loop-resource-init c = unbegun (row_violations c.args.table.now c.args.ii c.args.rule) c.args.found.now.items

pub loop-resource-preserved : goal.loop-resource-preserved
loop-resource-preserved c =
    grown (row_violations c.args.table.now c.args.ii c.args.rule) c.loop-resource.resource c.args.found.now.items c.loop-resource.found.items c.push_row.new.found.items c.loop-resource.invariant c.in_ok-push_row.ensures
