use Rattle.std.proofs.Common.{◌<◌, length, arith}
use Rattle.cg_bound_flow.specs.Reach.{no_step}
use Rattle.cg_bound_flow.proofs.Logs.{read, placed}
use Rattle.cg_bound_flow.proofs.lift.room.Goals as goal

pub room_at-by-requires-clause-place : goal.room_at-by-requires-clause-place
room_at-by-requires-clause-place c =
    let steps = c.args.cut.reached.now.steps.items in
    let t = c.loop-i-test.true in
    let d = c.len-i-end.ensures in
    let inside : c.loop-i.i < length steps = omega arith in
    placed c.args.cut.network.links.now c.requires.log.0 c.args.cut.potentials.now steps c.args.cut.reached.now.order.items c.loop-i.i c.index.result.now c.requires.log.1 inside (read steps c.loop-i.i c.index.result.now no_step inside c.index.ensures)
