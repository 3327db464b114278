use Rattle.std.proofs.Common.{◌≡◌, ◌*◌, ◌≤◌}
use Rattle.cg_hub.specs.Hub as spec
use Rattle.cg_hub.proofs.registers.registers_before.Given as goal

abbrev pub invariant-loop-earlier : goal.invariant-loop-earlier
invariant-loop-earlier l = (l.sum ≡ spec.registers_before l.kernel l.earlier) × (l.sum ≤ 5 * l.earlier)
