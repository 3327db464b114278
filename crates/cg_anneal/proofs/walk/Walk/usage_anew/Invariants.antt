use Rattle.cg_anneal.proofs.Anew.{IsUsedTo}
use Rattle.cg_anneal.proofs.walk.Walk.usage_anew.Given as goal

abbrev pub invariant-loop-i : goal.invariant-loop-i
invariant-loop-i l = IsUsedTo l.self l.i l.usage
