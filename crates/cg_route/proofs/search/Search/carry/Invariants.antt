-- The first resources have their best ways on through registers.
use Rattle.std.proofs.Common.{◌≡◌, ℕ, ◌+◌, ◌-◌, ◌^◌, ◌<◌, length}
use Rattle.cg_route.specs.Layers.{Layer, IsBest, IsBelow, IsOpen, Drives, delay_into, ways_of, at, cost, size}
use Rattle.cg_route.proofs.search.Search.carry.Given as goal

abbrev pub invariant-loop-resource : goal.invariant-loop-resource
invariant-loop-resource l =
    record {
      all : length l.here.items ≡ size l.self;
      each : (later : Layer) → l.ways ≡ ways_of l.self l.time later → (q : ℕ) → IsOpen l.self q → q < l.resource →
          IsBest (λ x. Drives l.self q x × (delay_into l.self x ≡ 1) × (x < size l.self)) (at later) (cost l.self q (l.time - 1)) (at l.here.items q);
      below : (later : Layer) (high : ℕ) → l.ways ≡ ways_of l.self l.time later → IsBelow high later → IsBelow (high + 2 ^ 52) l.here.items;
    }
