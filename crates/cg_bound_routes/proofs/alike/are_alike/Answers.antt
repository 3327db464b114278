use Rattle.std.proofs.Common.{◌≡◌, length, ap, arith}
use Rattle.cg_model.specs.Array.{Arch}
use Rattle.cg_bound_routes.proofs.Shared.{alike_whole}
use Rattle.cg_bound_routes.proofs.alike.are_alike.Goals as goal

pub returns : goal.returns
returns c = λ t.
    let A : Arch = c.args.arch.now in
    let long : length c.units-units.result.now ≡ length A.units = ap length c.units-units.ensures.units in
    alike_whole A c.args.a c.args.b c.loop-place.place (omega arith) c.loop-place.invariant
