use Rattle.std.proofs.Common.{◌≡◌, ℕ, ◌<◌, ◌≤◌}
use Rattle.cg_bound_flow.specs.Network.{link}
use Rattle.cg_bound_flow.specs.Reach.{step}
use Rattle.cg_bound_flow.specs.Lift.{LetsRise}
use Rattle.cg_bound_flow.proofs.lift.room.Given as goal

abbrev pub invariant-loop-i : goal.invariant-loop-i
invariant-loop-i l = record {
  positive : 0 < l.by;
  most : l.by ≤ l.need;
  rises : (j k : ℕ) → j < l.i → k < l.cut.count → (link l.cut.network.links.now k).from ≡ (step l.cut.reached.now.steps.items j).place → LetsRise l.cut.network.links.now l.cut.potentials.now l.cut.reached.now.order.items l.by k;
}
