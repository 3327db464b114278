use Rattle.std.proofs.Common.{◌≡◌, ◌+◌, ◌*◌, ◌^◌, ◌≤◌, drop}
use Rattle.cg_recur.specs.Chain.{Goes, latencies, distances}
use Rattle.cg_bound_registers.specs.Sums.{table}
use Rattle.cg_bound_recurrence.specs.WayCycles.{edge_with}
use Rattle.cg_bound_recurrence.proofs.check.check_way_cycle.Given as goal

abbrev pub invariant-loop-id : goal.invariant-loop-id
invariant-loop-id l =
    (Goes (edge_with l.arch l.kernel (table l.hops)) l.start l.cycle l.start → Goes (edge_with l.arch l.kernel (table l.hops)) l.at (drop l.id-index l.cycle) l.start)
    × (Goes (edge_with l.arch l.kernel (table l.hops)) l.at (drop l.id-index l.cycle) l.start → Goes (edge_with l.arch l.kernel (table l.hops)) l.start l.cycle l.start)
    × (latencies (edge_with l.arch l.kernel (table l.hops)) l.cycle ≡ l.latency + latencies (edge_with l.arch l.kernel (table l.hops)) (drop l.id-index l.cycle))
    × (distances (edge_with l.arch l.kernel (table l.hops)) l.cycle ≡ l.distance + distances (edge_with l.arch l.kernel (table l.hops)) (drop l.id-index l.cycle))
    × (l.latency ≤ l.id-index * 2 ^ 33)
    × (l.distance ≤ l.id-index * 2 ^ 32)
