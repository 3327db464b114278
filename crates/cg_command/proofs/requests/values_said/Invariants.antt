use Rattle.std.proofs.Common.{◌≡◌, ◌++◌, map, drop}
use Rattle.cg_command.specs.Words.{heard_option, values_said}
use Rattle.cg_command.proofs.requests.values_said.Given as goal

abbrev pub invariant-loop-option : goal.invariant-loop-option
invariant-loop-option l = (map (λ value. value.now) l.values.items ++ values_said l.name (map heard_option (drop l.option-index l.options))) ≡ values_said l.name (map heard_option l.options)
