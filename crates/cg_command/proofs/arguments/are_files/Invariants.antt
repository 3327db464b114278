use Rattle.std.proofs.Common.{◌≡◌, drop, map}
use Rattle.std.specs.List.{list_all}
use Rattle.cg_command.specs.Words.{is_file}
use Rattle.cg_command.proofs.arguments.are_files.Given as goal

abbrev pub invariant-loop-word : goal.invariant-loop-word
invariant-loop-word l = list_all is_file (map (λ word. word.now) (drop l.word-index l.words)) ≡ list_all is_file (map (λ word. word.now) l.words)
