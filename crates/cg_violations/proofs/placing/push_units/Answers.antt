use Rattle.cg_violations.specs.Violations.{unit_violation}
use Rattle.cg_list_laws.proofs.Grown.{grown, unbegun}
use Rattle.cg_violations.proofs.placing.push_units.Goals as goal

pub loop-node-init : goal.loop-node-init
loop-node-init c = unbegun (unit_violation c.args.arch.now c.args.kernel.now c.args.mapping.now) c.args.found.now.items

pub loop-node-preserved : goal.loop-node-preserved
loop-node-preserved c =
    grown (unit_violation c.args.arch.now c.args.kernel.now c.args.mapping.now) c.loop-node.node c.args.found.now.items c.loop-node.found.items c.push_unit.new.found.items c.loop-node.invariant c.in_ok-push_unit.ensures
