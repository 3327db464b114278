use Rattle.std.proofs.Common.{[], ◌∷◌, length, sym, subst}
use Rattle.std.proofs.lemmas.Result.{IfOk-weaker}
use Rattle.cg_model.specs.Array.{Arch}
use Rattle.cg_bound_routes.specs.Search.{AreBelow, Joins, IsFound}
use Rattle.cg_bound_routes.specs.Question.{AreOuts, IsAskedWayTo}
use Rattle.cg_bound_routes.proofs.Least.{found_none}
use Rattle.cg_bound_routes.proofs.Offering.{unit_read, port_found, no_port, port_known, one_below, unit_ways}
use Rattle.cg_bound_routes.proofs.units.at_unit.Goals as goal

pub least-requires-clause-from : goal.least-requires-clause-from
least-requires-clause-from c = subst (AreBelow (length c.args.arch.now.resources)) (sym c.deref.ensures.value) c.in_ok-outs-in-Some.ensures.known

pub least-requires-clause-ends : goal.least-requires-clause-ends
least-requires-clause-ends c =
    let A : Arch = c.args.arch.now in
    let q = c.args.question in
    let u = c.index-units-place.result in
    let read = unit_read A c.units.result.now c.args.place u c.units.ensures.units c.requires c.index-units-place.is in
    let (t, at) = port_found A c.args.place u q.to q.arg c.in-Some.port c.port_for.result read c.port_for.ensures c.in-Some.is in
    one_below (length A.resources) c.in-Some.port (port_known A c.units.ensures.valid c.args.place q.arg c.in-Some.port c.requires at)

pub returns-in_ok-outs-in-Some : goal.returns-in_ok-outs-in-Some
returns-in_ok-outs-in-Some c =
    let A : Arch = c.args.arch.now in
    let q = c.args.question in
    let u = c.index-units-place.result in
    let read = unit_read A c.units.result.now c.args.place u c.units.ensures.units c.requires c.index-units-place.is in
    let (t, at) = port_found A c.args.place u q.to q.arg c.in-Some.port c.port_for.result read c.port_for.ensures c.in-Some.is in
    IfOk-weaker c.least.result (IsFound A (Joins A c.deref.result.now (c.in-Some.port ∷ []))) (IsFound A (IsAskedWayTo A q c.args.place))
    (λ o h. unit_ways A q c.args.place c.in-Some.port c.deref.result.now t at
    (subst (AreOuts A q.from q.ends c.args.place (length A.units)) (sym c.deref.ensures.value) c.in_ok-outs-in-Some.ensures.exact) o h)
    c.least.ensures

pub returns-in-None : goal.returns-in-None
returns-in-None c =
    let A : Arch = c.args.arch.now in
    let q = c.args.question in
    let read = unit_read A c.units.result.now c.args.place c.index-units-place.result c.units.ensures.units c.requires c.index-units-place.is in
    found_none A (IsAskedWayTo A q c.args.place)
    (λ n (t, (x, a, ends, (r, at, w))). no_port A c.args.place c.index-units-place.result q.to q.arg c.port_for.result read c.port_for.ensures c.in-None.is r t at)
