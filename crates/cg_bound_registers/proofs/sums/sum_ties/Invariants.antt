use Rattle.std.proofs.Common.{◌≡◌, ◌+◌, ◌*◌, ◌^◌, ◌≤◌, drop}
use Rattle.cg_bound_registers.specs.declared.certificate.Tie.{Tie}
use Rattle.cg_bound_registers.specs.Pressure.{order_edge, weigh}
use Rattle.cg_bound_registers.specs.Sums.{value_of}
use Rattle.cg_bound_registers.proofs.sums.sum_ties.Given as goal

abbrev pub invariant-loop-tie : goal.invariant-loop-tie
invariant-loop-tie l =
    (l.sum + weigh (λ (x : Tie). x.weight) (λ x. order_edge l.kernel x.edge) (value_of l.hops l.of) (drop l.tie-index l.list)
    ≡ weigh (λ (x : Tie). x.weight) (λ x. order_edge l.kernel x.edge) (value_of l.hops l.of) l.list)
    × (l.sum ≤ l.tie-index * 2 ^ 64)
