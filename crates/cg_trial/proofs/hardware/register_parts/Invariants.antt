use Rattle.std.proofs.Common.{◌≡◌, map}
use Rattle.std.specs.List.{range_with_len}
use Rattle.cg_trial.specs.Trial as spec
use Rattle.cg_trial.proofs.hardware.register_parts.Given as goal

abbrev pub invariant-loop-number : goal.invariant-loop-number
invariant-loop-number l = l.list.items ≡ map (spec.register_part l.count) (range_with_len 0 l.number)
