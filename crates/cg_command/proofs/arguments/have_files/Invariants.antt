use Rattle.std.proofs.Common.{◌≡◌, drop, map}
use Rattle.std.specs.List.{list_all}
use Rattle.cg_command.specs.Words.{heard_option}
use Rattle.cg_command.specs.Matches.{has_file}
use Rattle.cg_command.proofs.arguments.have_files.Given as goal

abbrev pub invariant-loop-option : goal.invariant-loop-option
invariant-loop-option l = list_all has_file (map heard_option (drop l.option-index l.options)) ≡ list_all has_file (map heard_option l.options)
