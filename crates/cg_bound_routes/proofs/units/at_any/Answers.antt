use Rattle.std.proofs.Common.{length, sym, subst}
use Rattle.std.proofs.lemmas.Result.{IfOk-weaker}
use Rattle.cg_model.specs.Array.{Arch}
use Rattle.cg_bound_routes.specs.declared.question.Ends.TheVariants.{Any}
use Rattle.cg_bound_routes.specs.Search.{AreBelow, Joins, IsFound}
use Rattle.cg_bound_routes.specs.Question.{IsAnswer, IsFloor, AreOuts, ArePorts}
use Rattle.cg_bound_routes.proofs.Offering.{any_ways, any_answer, any_floor}
use Rattle.cg_bound_routes.proofs.units.at_any.Goals as goal

pub least-requires-clause-from : goal.least-requires-clause-from
least-requires-clause-from c = subst (AreBelow (length c.args.arch.now.resources)) (sym c.deref.ensures.value) c.in_ok-outs.ensures.known

pub least-requires-clause-ends : goal.least-requires-clause-ends
least-requires-clause-ends c = subst (AreBelow (length c.args.arch.now.resources)) (sym c.deref-2.ensures.value) c.in_ok-ports.ensures.known

pub returns-clause-floor : goal.returns-clause-floor
returns-clause-floor c =
    let A : Arch = c.args.arch.now in
    let q = c.args.question in
    IfOk-weaker c.least.result (IsFound A (Joins A c.deref.result.now c.deref-2.result.now)) (IsFloor A q)
    (λ o h. any_floor A q o
    (any_ways A q 0 c.deref.result.now c.deref-2.result.now (subst (AreOuts A q.from Any 0 (length A.units)) (sym c.deref.ensures.value) c.in_ok-outs.ensures.exact)
    (subst (ArePorts A q.to q.arg (length A.units)) (sym c.deref-2.ensures.value) c.in_ok-ports.ensures.exact) o h))
    c.least.ensures

pub returns-clause-answer : goal.returns-clause-answer
returns-clause-answer c = λ any.
    let A : Arch = c.args.arch.now in
    let q = c.args.question in
    IfOk-weaker c.least.result (IsFound A (Joins A c.deref.result.now c.deref-2.result.now)) (IsAnswer A q)
    (λ o h. any_answer A q any o
    (any_ways A q 0 c.deref.result.now c.deref-2.result.now (subst (AreOuts A q.from Any 0 (length A.units)) (sym c.deref.ensures.value) c.in_ok-outs.ensures.exact)
    (subst (ArePorts A q.to q.arg (length A.units)) (sym c.deref-2.ensures.value) c.in_ok-ports.ensures.exact) o h))
    c.least.ensures
