-- The best way through the first registers.
use Rattle.std.proofs.Common.{◌≡◌, ℕ, ◌+◌, ◌^◌, ◌≤◌, take, Some}
use Rattle.std.specs.Prelude.{Contains}
use Rattle.cg_mrrg.specs.Graph.{registers_after}
use Rattle.cg_route.specs.Layers.{Step, Layer, IsBest, IsBelow, ways_of, at, link, held}
use Rattle.cg_route.proofs.search.Search.best.Given as goal

abbrev pub invariant-loop-register : goal.invariant-loop-register
invariant-loop-register l =
    record {
      best : (later : Layer) → l.ways ≡ ways_of l.self l.time later →
          IsBest (λ x. Contains (take l.register-index (registers_after l.self.table.arch l.driver)) x) (at later) (λ x. link l.self l.time x l.driver) (held l.price l.next);
      below : (later : Layer) (high : ℕ) → l.ways ≡ ways_of l.self l.time later → IsBelow high later → (s : Step) → held l.price l.next ≡ Some s → s.price ≤ high + 2 ^ 52;
    }
