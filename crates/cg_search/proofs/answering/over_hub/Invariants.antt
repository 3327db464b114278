use Rattle.cg_search.specs.Search.{HasNoHub}
use Rattle.cg_search.proofs.answering.over_hub.Given as goal

abbrev pub invariant-loop-ii : goal.invariant-loop-ii
invariant-loop-ii l = HasNoHub l.call.arch.now l.call.kernel.now l.call.request.ii l.call.request.moves l.call.first l.ii
