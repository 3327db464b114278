use Rattle.std.proofs.Common.{◌≡◌, ℕ, ◌+◌, ◌<◌, ◌≤◌}
use Rattle.cg_bound_registers.specs.Pressure.{stays, pulls, ties, from, into}
use Rattle.cg_bound_registers.proofs.check.balances.Given as goal

abbrev pub invariant-loop-w : goal.invariant-loop-w
invariant-loop-w l =
    ((w : ℕ) → w < l.w → stays l.kernel l.p (from w) ≤ 1)
    × ((w : ℕ) → w < l.w →
    stays l.kernel l.p (into w) + pulls l.kernel l.p (from w) + ties l.kernel l.p (from w)
    ≡ stays l.kernel l.p (from w) + pulls l.kernel l.p (into w) + ties l.kernel l.p (into w))
