use Rattle.std.proofs.Common.{◌≡◌, drop, map}
use Rattle.cg_command.specs.Words.{heard_option, takes}
use Rattle.cg_command.proofs.words.takes_only.Given as goal

abbrev pub invariant-loop-option : goal.invariant-loop-option
invariant-loop-option l = takes (map (λ name. name.now) l.names) (map heard_option (drop l.option-index l.said.options.items)) ≡ takes (map (λ name. name.now) l.names) (map heard_option l.said.options.items)
