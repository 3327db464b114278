use Rattle.std.proofs.Common.{◌≡◌, ℕ, ◌+◌, ◌<◌, ◌≤◌, length}
use Rattle.cg_bound_flow.specs.Network.{link}
use Rattle.cg_bound_flow.specs.Lift.{LetsRise}
use Rattle.cg_bound_flow.proofs.lift.room_at.Given as goal

abbrev pub invariant-loop-more : goal.invariant-loop-more
invariant-loop-more l = record {
  positive : 0 < l.by;
  most : l.by ≤ l.most;
  within : l.more ≤ length l.cut.network.links.now;
  here : (k : ℕ) → l.more ≡ k + 1 → (link l.cut.network.links.now k).from ≡ l.place;
  rises : (k : ℕ) → l.more ≤ k → k < l.cut.count → k < length l.cut.network.links.now → (link l.cut.network.links.now k).from ≡ l.place → LetsRise l.cut.network.links.now l.cut.potentials.now l.cut.reached.now.order.items l.by k;
}

abbrev pub decreases-loop-more : goal.decreases-loop-more
decreases-loop-more l = l.more
