use Rattle.std.proofs.Common.{subst, sym}
use Rattle.cg_search.specs.Search.{AreMissedFrom}
use Rattle.cg_search.proofs.Missed.{one_more, miss_of}
use Rattle.cg_search.proofs.misses.add.Goals as goal

pub returns-clause-misses : goal.returns-clause-misses
returns-clause-misses c =
    let call = c.args.call.now in
    let A = call.arch.now in
    let K = call.kernel.now in
    let misses = c.args.misses.now.items in
    let n = c.args.faults in
    let M = c.args.mapping in
    subst (AreMissedFrom A K call.first) (sym c.in_ok-push.ensures.items)
    (one_more A K call.first misses (record { faults = n; mapping = M }) c.requires.misses (miss_of A K _ n M c.requires.counted c.requires.missed))
