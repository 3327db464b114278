use Rattle.std.proofs.Common.{arith}
use Rattle.cg_search.proofs.Begins.{posed_within}
use Rattle.cg_search.proofs.probing.probe_upwards.Goals as goal

pub returns : goal.returns
returns g c =
    let (each, at_ii) = c.loop-ii.invariant in
    let call = c.args.call.now in
    let first = posed_within call.arch.now call.kernel.now call.request.ii call.first c.requires.posed in
    (each, omega (arith, at_ii, c.loop-ii-test.false, c.last_tried-ii-end.ensures, first.1, c.loop-ii.auto))
