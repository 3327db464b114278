use Rattle.cg_violations.specs.Cells.{shared_violation}
use Rattle.cg_list_laws.proofs.Grown.{grown, unbegun}
use Rattle.cg_violations.proofs.Steps.{pushed}
use Rattle.cg_violations.proofs.sharing.push_places.Goals as goal

pub loop-node-init : goal.loop-node-init
loop-node-init c = record { marks = c.requires.marks; found = unbegun (shared_violation c.args.ii c.args.places.now) c.args.found.now.items }

pub loop-node-preserved : goal.loop-node-preserved
loop-node-preserved c =
    record {
      marks = c.is_taken-shared.ensures.marks;
      found = grown (shared_violation c.args.ii c.args.places.now) c.loop-node.node c.args.found.now.items c.loop-node.found.items c.push_if.new.found.items c.loop-node.invariant.found
          (pushed c.loop-node.found.items c.push_if.new.found.items _ _ _ _ c.is_taken-shared.ensures.value c.in_ok-push_if.ensures);
    }
