use Rattle.std.proofs.Common.{sym, subst, arith}
use Rattle.cg_model.specs.Array.{unit}
use Rattle.cg_model.specs.Canonical.{IsCanonical}
use Rattle.cg_config.proofs.Canonical.{stage_fits}
use Rattle.cg_config.proofs.Changed.{fields_canonical}
use Rattle.cg_config.proofs.config.Config.set_unit.Goals as goal

pub put_fields-requires : goal.put_fields-requires
put_fields-requires c =
    let right = c.requires.canonical in
    let slots = right.slots.1 in
    let row = (right.rows c.args.slot c.requires.slot).1 in
    let slot = c.requires.slot in
    let known = c.requires.unit in
    record { slot = omega arith; unit = omega arith; stage = stage_fits (unit c.args.arch.now c.args.unit).ops c.args.fields c.requires.fields }

pub returns-clause-canonical : goal.returns-clause-canonical
returns-clause-canonical c =
    subst (IsCanonical c.args.arch.now) (sym c.put_fields.ensures)
    (fields_canonical c.args.arch.now c.args.self.now c.requires.canonical c.args.unit c.args.slot c.args.fields c.requires.unit c.requires.slot c.requires.fields c.requires.off c.requires.ports)
