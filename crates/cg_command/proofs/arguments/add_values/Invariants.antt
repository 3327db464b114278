use Rattle.std.proofs.Common.{◌≡◌, ◌++◌, drop, map}
use Rattle.cg_command.specs.Words.{heard_option, given_values}
use Rattle.cg_command.proofs.arguments.add_values.Given as goal

abbrev pub invariant-loop-value : goal.invariant-loop-value
invariant-loop-value l =
    map heard_option l.options.items ++ given_values l.name (map (λ value. value.now) (drop l.value-index l.values))
    ≡ map heard_option l.fn.options.items ++ given_values l.name (map (λ value. value.now) l.values)
