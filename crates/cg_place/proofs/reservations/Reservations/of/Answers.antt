use Rattle.std.proofs.Common.{◌+◌, ◌≤◌, length, take, subst, sym, ap, ◌∙◌, arith}
use Rattle.std.proofs.lemmas.List.{length-take}
use Rattle.cg_place.specs.Reservations.{IsTable, raised}
use Rattle.cg_place.proofs.Tables.{over_few, one_more}
use Rattle.cg_place.proofs.reservations.Reservations.of.Goals as goal

pub reserve-requires-clause-small : goal.reserve-requires-clause-small
reserve-requires-clause-small c =
    let k = c.loop-place.place-index in
    let places = c.args.places.now in
    let l = length-take k places in
    let nodes = c.requires.nodes in
    let short : length (take k places) ≤ 1024 = omega arith in
    let few = over_few c.args.units c.args.interval (take k places) c.loop-place.table c.requires.some c.loop-place.invariant c.requires.units c.requires.few short in
    omega arith

pub loop-place-preserved : goal.loop-place-preserved
loop-place-preserved c =
    let k = c.loop-place.place-index in
    let places = c.args.places.now in
    subst (IsTable c.args.units c.args.interval (take (k + 1) places)) (sym (c.reserve.ensures ∙ ap (raised c.loop-place.table) c.entry.ensures))
    (one_more c.args.units c.args.interval places k c.loop-place.table c.requires.some c.loop-place-test.true c.loop-place.invariant)
