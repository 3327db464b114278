use Rattle.std.proofs.Common.{◌≡◌, ◌++◌, take, flat_map}
use Rattle.cg_bound_text.specs.Text.{pull_word}
use Rattle.cg_bound_text.proofs.reasons.push_pulls.Given as goal

abbrev pub invariant-loop-pull : goal.invariant-loop-pull
invariant-loop-pull l = l.text.items ≡ l.fn.text.items ++ flat_map (pull_word l.kernel) (take l.pull-index l.pulls)
