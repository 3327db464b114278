use Rattle.std.proofs.Common.{◌≡◌, ◌+◌, ◌*◌, ◌^◌, ◌≤◌, drop}
use Rattle.cg_bound_registers.specs.declared.certificate.Pull.{Pull}
use Rattle.cg_bound_registers.specs.Pressure.{data_edge, weigh}
use Rattle.cg_bound_registers.specs.Sums.{value_of}
use Rattle.cg_bound_registers.proofs.sums.sum_pulls.Given as goal

abbrev pub invariant-loop-pull : goal.invariant-loop-pull
invariant-loop-pull l =
    (l.sum + weigh (λ (x : Pull). x.weight) (λ x. data_edge l.kernel x.node x.arg) (value_of l.hops l.of) (drop l.pull-index l.list)
    ≡ weigh (λ (x : Pull). x.weight) (λ x. data_edge l.kernel x.node x.arg) (value_of l.hops l.of) l.list)
    × (l.sum ≤ l.pull-index * 2 ^ 64)
