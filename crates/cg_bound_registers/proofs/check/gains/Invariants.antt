use Rattle.std.proofs.Common.{◌≡◌, ◌-◌, ◌*◌, ◌^◌, ◌≤◌}
use Rattle.cg_model.specs.Kernel.{node}
use Rattle.cg_recur.specs.Edges.{latency}
use Rattle.cg_bound_registers.specs.Pressure.{stays, pulls, from, total}
use Rattle.cg_bound_registers.proofs.check.gains.Given as goal

abbrev pub invariant-loop-w : goal.invariant-loop-w
invariant-loop-w l =
    (l.gain ≡ total l.w (λ w. (pulls l.kernel l.p (from w) - stays l.kernel l.p (from w)) * latency l.arch (node l.kernel w).op))
    × (l.gain ≤ l.w * 2 ^ 82)
