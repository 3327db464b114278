use Rattle.cg_search.proofs.Missed.{replaced, miss_of}
use Rattle.cg_search.proofs.misses.lessen.Goals as goal

pub returns-then-faults-index-clause-misses : goal.returns-then-faults-index-clause-misses
returns-then-faults-index-clause-misses c =
    let call = c.args.call.now in
    let A = call.arch.now in
    let K = call.kernel.now in
    let n = c.args.faults in
    let M = c.args.mapping in
    replaced A K call.first c.args.misses.now.items c.args.at (record { faults = n; mapping = M }) c.requires.misses (miss_of A K _ n M c.requires.counted c.requires.missed)
