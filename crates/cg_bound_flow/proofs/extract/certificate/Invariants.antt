use Rattle.std.proofs.Common.{◌≡◌, ℕ, ◌≤◌, length}
use Rattle.cg_bound_registers.specs.declared.dependence.Dependence.{Dependence}
use Rattle.cg_bound_registers.specs.declared.certificate.Stay.{Stay}
use Rattle.cg_bound_registers.specs.declared.certificate.Pull.{Pull}
use Rattle.cg_bound_registers.specs.declared.certificate.Tie.{Tie}
use Rattle.cg_bound_registers.specs.Pressure.{data_edge, order_edge, weigh}
use Rattle.cg_bound_flow.specs.Taken.{on_stay, on_pull, on_tie, taken}
use Rattle.cg_bound_flow.proofs.extract.certificate.Given as goal

abbrev pub invariant-loop-k : goal.invariant-loop-k
invariant-loop-k l =
    ((f : Dependence → ℕ) → weigh (λ (s : Stay). 1) (λ s. data_edge l.kernel s.node s.arg) f l.stays.items ≡ taken l.links l.flow l.k (on_stay l.kernel f))
    × ((f : Dependence → ℕ) → weigh (λ (x : Pull). x.weight) (λ x. data_edge l.kernel x.node x.arg) f l.pulls.items ≡ taken l.links l.flow l.k (on_pull l.kernel f))
    × ((f : Dependence → ℕ) → weigh (λ (x : Tie). x.weight) (λ x. order_edge l.kernel x.edge) f l.ties.items ≡ taken l.links l.flow l.k (on_tie l.kernel f))
    × (length l.stays.items ≤ l.k) × (length l.pulls.items ≤ l.k) × (length l.ties.items ≤ l.k)
