use Rattle.cg_search.specs.Course.{IsLegalFound}
use Rattle.cg_search.proofs.descent.descend.Given as goal

abbrev pub invariant-loop-step : goal.invariant-loop-step
invariant-loop-step g l = IsLegalFound l.call.arch.now l.call.kernel.now l.call.request.ii l.call.request.moves l.call.first l.found
