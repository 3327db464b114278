use Rattle.std.proofs.Common.{◌≡◌, ◌≤◌, ◌+◌, ◌∙◌, None, true, get_or, ap, arith}
use Rattle.cg_model.specs.Array.{Arch, unit}
use Rattle.cg_model.specs.Canonical.{is_on}
use Rattle.cg_model.specs.Config.{fields}
use Rattle.cg_origins.specs.Source.{most_delay}
use Rattle.cg_origins.proofs.Owners.{latency_is}
use Rattle.cg_origins.proofs.WalkSlots.{before_at}
use Rattle.cg_origins.proofs.Walk.{off_by, on_by, off_leads, on_leads}
use Rattle.cg_origins.proofs.linking.out_step.Goals as goal

pub returns-then-is_none : goal.returns-then-is_none
returns-then-is_none g c = λ slot r reached.
    let A = c.args.arch.now in
    let C = g.C.Contexts.config c.args.contexts.now in
    let x = c.owner-unit.result in
    let u = c.index-units-unit.result in
    let l = (get_or c.units.result.now x u).latency in
    let began = c.slot_before-began.result in
    let known = c.owner-unit.ensures.known in
    let units : c.units.result.now ≡ A.units = c.units.ensures.units ∙ ap (λ (a : Arch). a.units) c.arch.ensures.arch in
    let latency : l ≡ (unit A x).latency = latency_is A c.units.result.now x u units known c.index-units-unit.is in
    let off : (fields C x began).op ≡ None = off_by c.head.result (fields C x began) c.is_none.result c.head.ensures c.is_none.ensures c.if-is_none.true in
    off_leads A C c.arch.ensures.valid slot r c.args.here reached x l began c.requires.out c.owner-unit.ensures.owner known latency
    (before_at c.ii.result C.ii c.args.here.slot l began c.ii.ensures c.slot_before-began.ensures.before) off

pub returns : goal.returns
returns g c = λ slot r reached.
    let A = c.args.arch.now in
    let C = g.C.Contexts.config c.args.contexts.now in
    let x = c.owner-unit.result in
    let u = c.index-units-unit.result in
    let l = (get_or c.units.result.now x u).latency in
    let began = c.slot_before-began.result in
    let known = c.owner-unit.ensures.known in
    let units : c.units.result.now ≡ A.units = c.units.ensures.units ∙ ap (λ (a : Arch). a.units) c.arch.ensures.arch in
    let latency : l ≡ (unit A x).latency = latency_is A c.units.result.now x u units known c.index-units-unit.is in
    let on : is_on (fields C x began).op ≡ true = on_by c.head.result (fields C x began) c.is_none.result c.head.ensures c.is_none.ensures c.if-is_none.false in
    let near : c.args.here.delay + l ≤ most_delay = omega arith in
    on_leads A C c.arch.ensures.valid slot r c.args.here reached x l began c.requires.out c.owner-unit.ensures.owner known latency
    (before_at c.ii.result C.ii c.args.here.slot l began c.ii.ensures c.slot_before-began.ensures.before) on near
