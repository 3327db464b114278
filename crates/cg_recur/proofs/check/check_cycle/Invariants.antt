use Rattle.std.proofs.Common.{◌≡◌, ◌+◌, ◌*◌, ◌^◌, ◌≤◌, drop}
use Rattle.cg_recur.specs.Chain.{Goes, latencies, distances}
use Rattle.cg_recur.specs.Edges.{edge_of}
use Rattle.cg_recur.proofs.check.check_cycle.Given as goal

abbrev pub invariant-loop-id : goal.invariant-loop-id
invariant-loop-id l =
    (Goes (edge_of l.arch l.kernel) l.start l.cycle l.start → Goes (edge_of l.arch l.kernel) l.at (drop l.id-index l.cycle) l.start)
    × (Goes (edge_of l.arch l.kernel) l.at (drop l.id-index l.cycle) l.start → Goes (edge_of l.arch l.kernel) l.start l.cycle l.start)
    × (latencies (edge_of l.arch l.kernel) l.cycle ≡ l.latency + latencies (edge_of l.arch l.kernel) (drop l.id-index l.cycle))
    × (distances (edge_of l.arch l.kernel) l.cycle ≡ l.distance + distances (edge_of l.arch l.kernel) (drop l.id-index l.cycle))
    × (l.latency ≤ l.id-index * 2 ^ 32)
    × (l.distance ≤ l.id-index * 2 ^ 32)
