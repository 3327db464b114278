use Rattle.std.proofs.Common.{◌≡◌, ◌++◌, take, flat_map}
use Rattle.cg_bound_text.specs.Text.{tie_word}
use Rattle.cg_bound_text.proofs.reasons.push_ties.Given as goal

abbrev pub invariant-loop-tie : goal.invariant-loop-tie
invariant-loop-tie l = l.text.items ≡ l.fn.text.items ++ flat_map (tie_word l.kernel) (take l.tie-index l.ties)
