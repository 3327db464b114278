use Rattle.cg_bound_routes.specs.Question.{AreOuts}
use Rattle.cg_bound_routes.proofs.units.outs.Given as goal

abbrev pub invariant-loop-source : goal.invariant-loop-source
invariant-loop-source l = AreOuts l.arch l.op l.ends l.place l.source l.outs.items
