use Rattle.std.proofs.Common.{◌≡◌, ◌+◌, ◌/◌, ◌∷◌, map, get_or}
use Rattle.std.specs.List.{range_with_len}
use Rattle.cg_hub.proofs.way.way.Given as goal

abbrev pub invariant-loop-k : goal.invariant-loop-k
invariant-loop-k l = l.path.items ≡ l.out ∷ map (λ k. get_or l.hub (l.first + k / l.ii) 0) (range_with_len 0 l.k)
