use Rattle.std.proofs.Common.{◌≡◌, ◌++◌}
use Rattle.cg_trial.specs.Trial as spec
use Rattle.cg_trial.proofs.hardware.all_names.Given as goal

abbrev pub invariant-loop-number : goal.invariant-loop-number
invariant-loop-number l = l.list.items ≡ spec.out_names ++ spec.register_names l.number
