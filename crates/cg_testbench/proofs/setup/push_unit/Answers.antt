use Rattle.std.proofs.Common.{◌≡◌, ◌∙◌, ap}
use Rattle.cg_model.specs.Config.{fields}
use Rattle.cg_testbench.specs.Setup.{unit_cell, fields_lines, unit_lines}
use Rattle.cg_testbench.proofs.Steps.{same_part}
use Rattle.cg_testbench.proofs.setup.push_unit.Goals as goal

pub returns : goal.returns
returns g c =
    let slot = c.args.slot.now.number in
    let A = c.args.slot.now.arch.now in
    let C = g.C.Contexts.config c.args.slot.now.contexts.now in
    let x = c.args.unit in
    let cell : c.as_str.result.now ≡ unit_cell A x = c.as_str.ensures.value ∙ c.in_ok-cell.ensures in
    let told : c.unit-fields.result ≡ fields C x slot = c.unit-fields.ensures in
    same_part c.push_fields.result c.args.text.now.items c.push_fields.new.text.items _ (unit_lines A C slot x)
    (ap (λ z. fields_lines z slot c.unit-fields.result) cell ∙ ap (fields_lines (unit_cell A x) slot) told) c.push_fields.ensures
