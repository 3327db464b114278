use Rattle.std.proofs.Common.{◌≡◌, ◌+◌, ◌*◌, ◌^◌, ◌≤◌, drop}
use Rattle.cg_bound_registers.specs.declared.certificate.Stay.{Stay}
use Rattle.cg_bound_registers.specs.Pressure.{data_edge, weigh}
use Rattle.cg_bound_registers.specs.Sums.{value_of}
use Rattle.cg_bound_registers.proofs.sums.sum_stays.Given as goal

abbrev pub invariant-loop-stay : goal.invariant-loop-stay
invariant-loop-stay l =
    (l.sum + weigh (λ (x : Stay). 1) (λ x. data_edge l.kernel x.node x.arg) (value_of l.hops l.of) (drop l.stay-index l.list)
    ≡ weigh (λ (x : Stay). 1) (λ x. data_edge l.kernel x.node x.arg) (value_of l.hops l.of) l.list)
    × (l.sum ≤ l.stay-index * 2 ^ 64)
