use Rattle.std.proofs.Common.{◌≡◌, ◌-◌, ◌*◌, ◌^◌, ◌≤◌}
use Rattle.cg_model.specs.Kernel.{node}
use Rattle.cg_bound_registers.specs.Pressure.{stays, pulls, from, total, most_latency}
use Rattle.cg_bound_registers.proofs.check.losses.Given as goal

abbrev pub invariant-loop-w : goal.invariant-loop-w
invariant-loop-w l =
    (l.loss ≡ total l.w (λ w. (stays l.kernel l.p (from w) - pulls l.kernel l.p (from w)) * most_latency (node l.kernel w).op l.arch.units))
    × (l.loss ≤ l.w * 2 ^ 112)
