use Rattle.std.proofs.Common.{◌≡◌, ◌+◌, length, sym, ap, ◌∙◌, subst, arith}
use Rattle.cg_model.specs.Array.{Arch}
use Rattle.cg_bound_routes.specs.Search.{IsFound}
use Rattle.cg_bound_routes.specs.Question.{HasAskedWay}
use Rattle.cg_bound_routes.proofs.Offering.{ways_more, ways_whole, floor_answer}
use Rattle.cg_bound_routes.proofs.units.at_units.Goals as goal

pub loop-place-preserved : goal.loop-place-preserved
loop-place-preserved c =
    let A : Arch = c.args.arch.now in
    subst (IsFound A (HasAskedWay A c.args.question (c.loop-place.place + 1))) (sym c.lesser-best.ensures)
    (ways_more A c.args.question c.loop-place.place c.loop-place.best c.in_ok-at_unit.field-0 c.loop-place.invariant c.in_ok-at_unit.ensures)

pub returns : goal.returns
returns c =
    let A : Arch = c.args.arch.now in
    let long : length c.units-place-end.result.now ≡ length A.units = ap length c.units-place-end.ensures.units in
    let over : c.loop-place.place ≡ length A.units = omega arith in
    ways_whole A c.args.question c.loop-place.best (subst (λ z. IsFound A (HasAskedWay A c.args.question z) c.loop-place.best) over c.loop-place.invariant)

pub returns-then-eq : goal.returns-then-eq
returns-then-eq c =
    let A : Arch = c.args.arch.now in
    let long : length c.units-place-end.result.now ≡ length A.units = ap length c.units-place-end.ensures.units in
    floor_answer A c.args.question c.loop-place.place c.args.floor c.loop-place.best (omega arith) c.requires (sym c.eq.ensures ∙ c.if-eq.true) c.loop-place.invariant
