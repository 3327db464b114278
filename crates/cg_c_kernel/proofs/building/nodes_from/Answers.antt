use Rattle.std.proofs.Common.{arith, length-append}
use Rattle.cg_c_kernel.proofs.Listing.{more_built}
use Rattle.cg_c_kernel.proofs.building.nodes_from.Goals as goal

pub loop-number-preserved : goal.loop-number-preserved
loop-number-preserved c =
    record {
      long = rw c.in_ok-push.ensures.items (simp length-append (omega (arith, c.loop-number.invariant.long)));
      each =
          rw c.in_ok-push.ensures.items
          (more_built _ _ _ _ c.loop-number.number c.loop-number.invariant.long c.loop-number.invariant.each c.in_ok-node.ensures);
    }
