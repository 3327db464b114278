-- The first drivers were offered the way.
use Rattle.std.proofs.Common.{ℕ, ◌+◌, ◌^◌, ◌≤◌, take}
use Rattle.cg_route.specs.Layers.{AreOffered, IsBelow, drivers}
use Rattle.cg_route.proofs.search.Search.offer.Given as goal

abbrev pub invariant-loop-link : goal.invariant-loop-link
invariant-loop-link l =
    record {
      offered : AreOffered l.self l.time l.resource l.price (take l.link-index (drivers l.self l.resource)) l.fn.layer l.layer;
      below : (high : ℕ) → l.price + 2 ^ 52 ≤ high → IsBelow high l.fn.layer → IsBelow high l.layer;
    }
