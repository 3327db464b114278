use Rattle.std.proofs.Common.{◌≡◌, ◌+◌, ◌*◌, ◌^◌, ◌≤◌, drop}
use Rattle.cg_recur.specs.Chain.{latencies, distances}
use Rattle.cg_recur.specs.Edges.{edge_of}
use Rattle.cg_bound.proofs.counts.sums.Given as goal

abbrev pub invariant-loop-id : goal.invariant-loop-id
invariant-loop-id l =
    (latencies (edge_of l.arch l.kernel) l.ids ≡ l.latency + latencies (edge_of l.arch l.kernel) (drop l.id-index l.ids))
    × (distances (edge_of l.arch l.kernel) l.ids ≡ l.distance + distances (edge_of l.arch l.kernel) (drop l.id-index l.ids))
    × (l.latency ≤ l.id-index * 2 ^ 32)
    × (l.distance ≤ l.id-index * 2 ^ 32)
