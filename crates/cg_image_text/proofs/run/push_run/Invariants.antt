use Rattle.std.proofs.Common.{◌≡◌, ◌-◌, ◌++◌}
use Rattle.cg_image_text.specs.Runs.{words_from}
use Rattle.cg_image_text.proofs.run.push_run.Given as goal

-- the words so far, and then those that are still to come
abbrev pub invariant-loop-k : goal.invariant-loop-k
invariant-loop-k l = l.words ++ words_from l.word l.run.step (l.run.count - l._k) ≡ l.fn.words ++ words_from l.run.first l.run.step l.run.count
