use Rattle.std.proofs.Common.{◌≡◌, ◌++◌, take, flat_map}
use Rattle.cg_bound_text.specs.Text.{stay_word}
use Rattle.cg_bound_text.proofs.reasons.push_stays.Given as goal

abbrev pub invariant-loop-stay : goal.invariant-loop-stay
invariant-loop-stay l = l.text.items ≡ l.fn.text.items ++ flat_map (stay_word l.kernel) (take l.stay-index l.stays)
