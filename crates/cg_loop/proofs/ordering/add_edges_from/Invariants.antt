use Rattle.std.proofs.Common.{◌≡◌, ◌++◌, map, take, filter, bytes_eq}
use Rattle.std.specs.List.{flat_map}
use Rattle.cg_loop_laws.specs.Translate.{pair_edges}
use Rattle.cg_loop.specs.Made.{access_of}
use Rattle.cg_loop.proofs.ordering.add_edges_from.Given as goal

abbrev pub invariant-loop-access : goal.invariant-loop-access
invariant-loop-access l = l.edges.items ≡ l.fn.edges.items ++ flat_map (pair_edges (access_of l.first)) (filter (λ a. bytes_eq a.array l.array) (map access_of (take l.access-index l.later)))
