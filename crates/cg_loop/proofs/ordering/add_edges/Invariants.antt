use Rattle.std.proofs.Common.{◌≡◌, ◌++◌, map, drop, filter, bytes_eq}
use Rattle.cg_loop_laws.specs.Translate.{edges_among}
use Rattle.cg_loop.specs.Made.{access_of}
use Rattle.cg_loop.proofs.ordering.add_edges.Given as goal

abbrev pub invariant-loop-number : goal.invariant-loop-number
invariant-loop-number l =
    l.edges.items ++ edges_among (filter (λ a. bytes_eq a.array l.array) (map access_of (drop l.number l.accesses)))
    ≡ l.fn.edges.items ++ edges_among (filter (λ a. bytes_eq a.array l.array) (map access_of l.accesses))
