use Rattle.std.proofs.Common.{arith}
use Rattle.cg_bound_routes.proofs.Marks.{below_at, marked_more}
use Rattle.cg_bound_routes.proofs.search.marks.Goals as goal

pub index_mut-requires : goal.index_mut-requires
index_mut-requires c =
    let below = below_at c.args.count c.args.list.now c.loop-place.place c.requires (omega arith) in
    let each = c.loop-place.invariant.each in
    let long = c.loop-place.marks.ok.0 in
    omega arith

pub loop-place-preserved : goal.loop-place-preserved
loop-place-preserved c =
    marked_more c.args.list.now c.loop-place.place c.args.count c.loop-place.marks.items (below_at c.args.count c.args.list.now c.loop-place.place c.requires (omega arith)) c.loop-place.invariant
