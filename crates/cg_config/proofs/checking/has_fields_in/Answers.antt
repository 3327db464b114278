use Rattle.std.proofs.Common.{subst, below_more}
use Rattle.cg_model.specs.declared.array.Unit.{Unit}
use Rattle.cg_model.specs.declared.config.UnitFields.{UnitFields}
use Rattle.cg_model.specs.Config.{fields}
use Rattle.cg_model.specs.Canonical.{AreFields}
use Rattle.cg_config.proofs.Canonicals.{unit_at, fields_at}
use Rattle.cg_config.proofs.checking.has_fields_in.Goals as goal

pub loop-x-preserved : goal.loop-x-preserved
loop-x-preserved c =
    let A = c.args.arch.now in
    let C = c.args.config.now in
    let units = c.units-unit-items.ensures.units in
    let its = unit_at A c.units-unit-items.result.now c.loop-x.x c.unit-item.result c.unit-item.is units c.loop-x-test.true in
    let read = fields_at A C c.fields_in-row.result.now c.units-unit-items.result.now c.loop-x.x c.args.slot _ c.requires.rows c.requires.slot c.fields_in-row.ensures units c.loop-x-test.true in
    let right = c.are_fields.ensures.0 c.if-not-are_fields.false in
    below_more _ _ c.loop-x.invariant
    (subst (λ (u : Unit). AreFields u.ops (fields C c.loop-x.x c.args.slot)) its (subst (λ (f : UnitFields). AreFields c.unit-item.result.ops f) read right))
