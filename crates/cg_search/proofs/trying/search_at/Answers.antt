use Rattle.std.proofs.Common.{arith}
use Rattle.cg_intervals.specs.Intervals.{last_tried}
use Rattle.cg_intervals.proofs.Intervals.{offered}
use Rattle.cg_search.proofs.Begins.{posed_within, free_from}
use Rattle.cg_search.proofs.trying.search_at.Goals as goal

pub new-requires-clause-some : goal.new-requires-clause-some
new-requires-clause-some g c =
    let call = c.args.call.now in
    let first = posed_within call.arch.now call.kernel.now call.request.ii call.first c.requires.posed in
    omega (arith, first.0, c.requires.from)

pub new-requires-clause-offered : goal.new-requires-clause-offered
new-requires-clause-offered g c = offered c.args.call.now.arch.now c.args.call.now.kernel.now (last_tried c.args.call.now.arch.now c.args.call.now.request.ii) c.requires.posed.free

pub new-requires-clause-free : goal.new-requires-clause-free
new-requires-clause-free g c =
    let call = c.args.call.now in
    free_from call.arch.now call.kernel.now call.request.ii call.first c.args.ii c.requires.posed c.requires.from
