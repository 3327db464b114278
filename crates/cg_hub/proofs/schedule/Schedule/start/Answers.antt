use Rattle.std.proofs.Common.{◌<◌, length, ap, subst, arith, rules}
use Rattle.cg_hub.specs.Scheduled.{Scheduled, IsKept}
use Rattle.cg_hub.proofs.Made.{all_placed, place_read}
use Rattle.cg_hub.proofs.schedule.Schedule.start.Goals as goal

pub index-requires : goal.index-requires
index-requires c =
    let S = c.args.self.now in
    let places = c.self.inside.places.items in
    let kept = subst (λ (z : Scheduled). IsKept z places) c.self.view_is c.self.invariant in
    let h : c.args.node < length places = omega (arith, all_placed S places kept, c.requires) in
    search (rules, h)

pub returns : goal.returns
returns c =
    let S = c.args.self.now in
    let places = c.self.inside.places.items in
    let kept = subst (λ (z : Scheduled). IsKept z places) c.self.view_is c.self.invariant in
    ap (λ z. z.time) (place_read S places kept c.args.node c.index.result.now c.requires c.index.ensures)
