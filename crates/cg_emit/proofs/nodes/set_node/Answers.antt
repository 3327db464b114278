use Rattle.std.proofs.Common.{◌+◌, ◌<◌, length, sym, subst, ◌∙◌, arith}
use Rattle.cg_model.specs.Array.{Arch, unit}
use Rattle.cg_model.specs.Canonical.{AreFields}
use Rattle.cg_emit.proofs.Placed.{told_off, told_fields, told_ports, told_next}
use Rattle.cg_emit.proofs.nodes.set_node.Goals as goal

pub set_unit-requires-clause-off : goal.set_unit-requires-clause-off
set_unit-requires-clause-off c =
    let m = c.args.legal.now in
    told_off m.arch m.kernel m.mapping c.fields_of-fields.ensures.valid c.place_of-place.ensures.legal c.args.config.now c.args.node c.requires.node c.requires.before
    _ _ _ c.place_of-place.ensures.place (c.ii-ii.ensures ∙ c.requires.before.interval) c.fields_of-fields.ensures.fields

pub set_unit-requires-clause-fields : goal.set_unit-requires-clause-fields
set_unit-requires-clause-fields c =
    let m = c.args.legal.now in
    subst (λ (B : Arch). AreFields (unit B c.place_of-place.result.unit).ops c.fields_of-fields.result) (sym c.arch.ensures)
    (told_fields m.arch m.kernel m.mapping c.fields_of-fields.ensures.valid c.place_of-place.ensures.legal c.args.config.now c.args.node c.requires.node c.requires.before
    _ _ _ c.place_of-place.ensures.place (c.ii-ii.ensures ∙ c.requires.before.interval) c.fields_of-fields.ensures.fields)

pub set_unit-requires-clause-ports : goal.set_unit-requires-clause-ports
set_unit-requires-clause-ports c = λ y s ly ls.
    let m = c.args.legal.now in
    told_ports m.arch m.kernel m.mapping c.fields_of-fields.ensures.valid c.place_of-place.ensures.legal c.args.config.now c.args.node c.requires.node c.requires.before
    _ _ _ c.place_of-place.ensures.place (c.ii-ii.ensures ∙ c.requires.before.interval) c.fields_of-fields.ensures.fields y s (subst (λ (B : Arch). y < length B.units) c.arch.ensures ly) ls

pub returns-clause-after : goal.returns-clause-after
returns-clause-after c =
    let m = c.args.legal.now in
    told_next m.arch m.kernel m.mapping c.fields_of-fields.ensures.valid c.place_of-place.ensures.legal c.args.config.now c.args.node c.requires.node c.requires.before
    _ _ _ c.place_of-place.ensures.place (c.ii-ii.ensures ∙ c.requires.before.interval) c.fields_of-fields.ensures.fields
    c.set_unit.new.self (c.args.node + 1) c.requires.canonical c.set_unit.ensures.set (omega arith)
