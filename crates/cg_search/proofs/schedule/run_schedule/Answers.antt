use Rattle.cg_search.proofs.Begins.{only_asked}
use Rattle.cg_search.proofs.schedule.run_schedule.Goals as goal

pub search_requested-requires-clause-only : goal.search_requested-requires-clause-only
search_requested-requires-clause-only g c =
    let call = c.args.call.now in
    only_asked call.arch.now call.kernel.now call.request.ii call.first _ c.in-Some.is c.requires.posed
