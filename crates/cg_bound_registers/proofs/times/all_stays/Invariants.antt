use Rattle.std.proofs.Common.{◌≡◌, ◌*◌, ◌^◌, ◌≤◌}
use Rattle.cg_bound_registers.specs.Pressure.{total}
use Rattle.cg_bound_registers.specs.Times.{longest}
use Rattle.cg_bound_registers.proofs.times.all_stays.Given as goal

abbrev pub invariant-loop-w : goal.invariant-loop-w
invariant-loop-w l = (l.sum ≡ total l.w (longest l.times)) × (l.sum ≤ l.w * 2 ^ 64)
