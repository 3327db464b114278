use Rattle.std.proofs.Common.{◌≡◌, ◌<◌, ◌+◌, ◌++◌, length, drop, reverse}
use Rattle.std.specs.Prelude.{slice_range}
use Rattle.std.proofs.lemmas.Result.{IfOk-weaker}
use Rattle.cg_levelize.specs.Ring.{IsRing}
use Rattle.cg_levelize.proofs.Turned.{turned_ring, found_within}
use Rattle.cg_levelize.proofs.ring.ring_of.Goals as goal

pub least_place-requires : goal.least_place-requires
least_place-requires c = found_within c.args.path.now c.args.number c.place_of-from.result c.requires c.place_of-from.ensures.before

pub returns : goal.returns
returns c =
    let path = c.args.path.now in
    let from = c.place_of-from.result in
    let place = c.least_place.result in
    let is = c.least_place.ensures in
    let within : from < length path = found_within path c.args.number from c.requires c.place_of-from.ensures.before in
    IfOk-weaker c.turned.result
    (λ ring. ring.items ≡ reverse (slice_range path from (place + 1)) ++ reverse (drop (place + 1) path))
    (λ ring. IsRing path c.args.number ring.items)
    (λ ring e. turned_ring path c.args.number from place ring.items (c.place_of-from.ensures.found within) is.after is.within is.least e)
    c.turned.ensures
