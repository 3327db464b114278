use Rattle.std.proofs.Common.{◌<◌, ◌+◌, rules, arith, length}
use Rattle.cg_turns.proofs.Loads.{behind_read}
use Rattle.cg_turns.proofs.last.thinned.Goals as goal

pub loop-place-preserved : goal.loop-place-preserved
loop-place-preserved c =
    let some : 0 < c.loop-place.place = c.loop-place.invariant.0 in
    let within : c.loop-place.place < length c.args.accesses.now.items = search rules in (
      (let next : 0 < c.loop-place.place + 1 = omega arith in next),
      behind_read c.args.accesses.now.items c.loop-place.place c.index-in-loop-place.result.now some within c.index-in-loop-place.ensures c.loop-place.latest.items c.take_in.new.accesses.items c.loop-place.invariant.1 c.in_ok-take_in.ensures,
    )
