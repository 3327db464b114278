use Rattle.std.proofs.Common.{length, ◌-◌}
use Rattle.cg_spans.proofs.json.keyed_value.Given as goal

abbrev pub decreases-loop-next : goal.decreases-loop-next
decreases-loop-next l = length l.text - l.member
