use Rattle.std.proofs.Common.{◌≡◌, ℕ, ◌+◌, ◌-◌, ◌*◌, ◌<◌, List, ◌∷◌, ◌++◌, length, Some}
use Rattle.cg_route.specs.Layers.{Step, IsOpen, size, rank, at, layer_at, Follows}
use Rattle.cg_route.proofs.search.Search.trace.Given as goal

abbrev pub invariant-walk : goal.invariant-walk
invariant-walk l =
    record {
      in_layers : l.k < length l.layers;
      known : IsOpen l.self l.q;
      stands : (s : Step) × (at (layer_at l.layers l.k) l.q ≡ Some s);
      follows : (pre : List ℕ) × (l.path.items ≡ l.from ∷ pre) × ((rest : List ℕ) → Follows l.self l.layers l.k l.q rest → Follows l.self l.layers l.last l.from (pre ++ rest));
    }

abbrev pub decreases-walk : goal.decreases-walk
decreases-walk l = l.k * size l.self + (size l.self - rank l.self l.q)
