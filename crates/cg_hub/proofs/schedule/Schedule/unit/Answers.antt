use Rattle.std.proofs.Common.{◌<◌, length, ap, ◌∙◌, subst, arith, rules}
use Rattle.cg_hub.specs.Scheduled.{Scheduled, IsKept}
use Rattle.cg_hub.proofs.Times.{host_within}
use Rattle.cg_hub.proofs.Made.{all_placed, place_read, unit_read}
use Rattle.cg_hub.proofs.schedule.Schedule.unit.Goals as goal

pub index-requires : goal.index-requires
index-requires c =
    let S = c.args.self.now in
    let places = c.self.inside.places.items in
    let kept = subst (λ (z : Scheduled). IsKept z places) c.self.view_is c.self.invariant in
    let h : c.args.node < length places = omega (arith, all_placed S places kept, c.requires) in
    search (rules, h)

pub bounds-units-index : goal.bounds-units-index
bounds-units-index c =
    let S = c.args.self.now in
    let places = c.self.inside.places.items in
    let kept = subst (λ (z : Scheduled). IsKept z places) c.self.view_is c.self.invariant in
    let place = place_read S places kept c.args.node c.index.result.now c.requires c.index.ensures in
    let units = c.units.ensures.units ∙ ap (λ (z : Scheduled). z.arch.units) c.self.view_is in
    omega (arith, ap (λ z. z.unit) place, host_within S.arch S.kernel S.ii kept.scheduled.enough c.args.node c.requires, ap length units)

pub returns-clause-unit : goal.returns-clause-unit
returns-clause-unit c =
    let S = c.args.self.now in
    let places = c.self.inside.places.items in
    let kept = subst (λ (z : Scheduled). IsKept z places) c.self.view_is c.self.invariant in
    let units = c.units.ensures.units ∙ ap (λ (z : Scheduled). z.arch.units) c.self.view_is in
    unit_read S places kept c.args.node c.index.result.now c.requires c.index.ensures c.units.result.now c.index-units-index.result units c.index-units-index.is
