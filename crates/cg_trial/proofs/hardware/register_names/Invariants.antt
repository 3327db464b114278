use Rattle.std.proofs.Common.{◌≡◌}
use Rattle.cg_trial.specs.Trial as spec
use Rattle.cg_trial.proofs.hardware.register_names.Given as goal

abbrev pub invariant-loop-number : goal.invariant-loop-number
invariant-loop-number l = l.list.items ≡ spec.register_names l.number
