use Rattle.std.proofs.Common.{◌≡◌, ◌+◌, drop, sym, ap, subst, ◌∙◌, arith}
use Rattle.cg_model.specs.declared.mapping.Place.{Place}
use Rattle.cg_model.specs.Array.{Arch, IsArch}
use Rattle.cg_model.specs.Mapping.{positions_after}
use Rattle.cg_emit.specs.Building.{GoesInTime, with_positions}
use Rattle.cg_emit.proofs.Routes.{source_known, unit_known, unit_read, told_leaves, told_path, told_set}
use Rattle.cg_emit.proofs.selects.set_route.Goals as goal

pub place_of-place-requires : goal.place_of-place-requires
place_of-place-requires c = source_known c.args.legal.now.kernel c.source_of.ensures.valid c.args.route.now c.source_of.result c.source_of.ensures.source

pub overflow_add-leaves : goal.overflow_add-leaves
overflow_add-leaves c =
    let m = c.args.legal.now in
    let valid = subst IsArch c.arch.ensures c.units.ensures.valid in
    let known = unit_known m.arch m.kernel m.mapping valid c.source_of.ensures.valid c.place_of-place.ensures.legal c.args.route.now c.requires.known c.source_of.result c.source_of.ensures.source in
    let x-is =
    unit_read m.arch c.units.result.now _ _ c.index-units-place.result c.index-units-place.is (c.units.ensures.units ∙ ap (λ (a : Arch). a.units) c.arch.ensures)
    (ap (λ (q : Place). q.unit) c.place_of-place.ensures.place) known in
    let soon =
    told_leaves m.arch m.kernel m.mapping valid c.source_of.ensures.valid c.place_of-place.ensures.legal c.args.route.now c.requires.known c.source_of.result c.source_of.ensures.source
    c.place_of-place.result c.index-units-place.result c.place_of-place.ensures.place x-is in
    omega arith

pub set_links-requires-clause-path : goal.set_links-requires-clause-path
set_links-requires-clause-path c =
    let m = c.args.legal.now in
    let valid = subst IsArch c.arch.ensures c.units.ensures.valid in
    let known = unit_known m.arch m.kernel m.mapping valid c.source_of.ensures.valid c.place_of-place.ensures.legal c.args.route.now c.requires.known c.source_of.result c.source_of.ensures.source in
    let p = c.place_of-place.result in
    let x = c.index-units-place.result in
    let x-is =
    unit_read m.arch c.units.result.now _ _ x c.index-units-place.is (c.units.ensures.units ∙ ap (λ (a : Arch). a.units) c.arch.ensures)
    (ap (λ (q : Place). q.unit) c.place_of-place.ensures.place) known in
    subst (λ (B : Arch). GoesInTime B x.out (p.time + x.latency) c.split_at.result.1.now) (sym c.arch-2.ensures)
    (told_path m.arch m.kernel m.mapping valid c.source_of.ensures.valid c.place_of-place.ensures.legal c.args.route.now c.requires.known c.source_of.result c.source_of.ensures.source
    p x c.place_of-place.ensures.place x-is c.split_at.result.1.now (c.split_at.ensures.back ∙ ap (drop 1) c.as_slice.ensures))

pub returns-clause-set : goal.returns-clause-set
returns-clause-set c =
    let m = c.args.legal.now in
    let valid = subst IsArch c.arch.ensures c.units.ensures.valid in
    let known = unit_known m.arch m.kernel m.mapping valid c.source_of.ensures.valid c.place_of-place.ensures.legal c.args.route.now c.requires.known c.source_of.result c.source_of.ensures.source in
    let p = c.place_of-place.result in
    let x = c.index-units-place.result in
    let x-is =
    unit_read m.arch c.units.result.now _ _ x c.index-units-place.is (c.units.ensures.units ∙ ap (λ (a : Arch). a.units) c.arch.ensures)
    (ap (λ (q : Place). q.unit) c.place_of-place.ensures.place) known in
    told_set m.arch m.kernel m.mapping valid c.source_of.ensures.valid c.place_of-place.ensures.legal c.args.route.now c.requires.known c.source_of.result c.source_of.ensures.source
    p x c.place_of-place.ensures.place x-is c.split_at.result.1.now c.args.config.now c.set_links.new.config (c.split_at.ensures.back ∙ ap (drop 1) c.as_slice.ensures)
    (subst (λ (B : Arch). c.set_links.new.config ≡ with_positions B (positions_after B c.source_of.result x.out (p.time + x.latency) c.split_at.result.1.now) c.args.config.now) c.arch-2.ensures
    (c.set_links.ensures.set c.source_of.result))
