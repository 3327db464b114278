use Rattle.std.proofs.Common.{◌≡◌, ◌+◌, ◌*◌, length}
use Rattle.cg_route.specs.Layers.{AreLayers, IsWithin, later_at, size}
use Rattle.cg_route.proofs.search.Search.layers.Given as goal

abbrev pub invariant-loop-k : goal.invariant-loop-k
invariant-loop-k l =
    record {
      all : length l.layers.items ≡ l.k;
      layers : AreLayers l.self l.layers.items;
      within : IsWithin (l.k * (size l.self + 1)) (later_at l.layers.items l.k);
    }
