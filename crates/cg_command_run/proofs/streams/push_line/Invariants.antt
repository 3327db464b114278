use Rattle.std.proofs.Common.{◌≡◌, ◌++◌, take, codes, decimal}
use Rattle.cg_command_run.specs.Turns.{spaced}
use Rattle.cg_command_run.proofs.streams.push_line.Given as goal

abbrev pub invariant-loop-word : goal.invariant-loop-word
invariant-loop-word l = l.report.items ≡ l.fn.report.items ++ (codes "out " ++ (decimal l.fn.port ++ (codes ":" ++ spaced (take l.word-index l.words))))
