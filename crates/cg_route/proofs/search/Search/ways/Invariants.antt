-- The ways through the first registers are entered, and no others.
use Rattle.std.proofs.Common.{◌≡◌, ℕ, ◌<◌, ◌≤◌, length, None}
use Rattle.std.specs.Prelude.{slice_index_or}
use Rattle.cg_route.specs.Layers.{way_into, size, AreCheap}
use Rattle.cg_route.proofs.search.Search.ways.Given as goal

abbrev pub invariant-loop-resource : goal.invariant-loop-resource
invariant-loop-resource l =
    record {
      all : length l.ways.items ≡ size l.self;
      first : (r : ℕ) → r < l.resource → slice_index_or l.ways.items r None ≡ way_into l.self l.time l.later r;
      rest : (r : ℕ) → l.resource ≤ r → slice_index_or l.ways.items r None ≡ None;
      cheap : AreCheap l.ways.items;
    }
