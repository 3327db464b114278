-- The last resources of the order were visited.
use Rattle.std.proofs.Common.{◌≡◌, ◌+◌, ◌-◌, ◌*◌, length}
use Rattle.cg_route.specs.Layers.{Layer, IsBegun, IsSettled, IsWithin, size}
use Rattle.cg_route.proofs.search.Search.settle.Given as goal

abbrev pub invariant-loop-place : goal.invariant-loop-place
invariant-loop-place l =
    record {
      all : length l.here ≡ size l.self;
      settled : (later : Layer) → IsBegun l.self (l.self.end - l.k) (size l.self) later l.fn.here → IsSettled l.self l.k (l.self.end - l.k) (size l.self - l.place) later l.here;
      within : IsWithin (l.k * (size l.self + 1) + 1 + l.place) l.here;
    }
