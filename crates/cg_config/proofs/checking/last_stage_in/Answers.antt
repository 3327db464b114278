use Rattle.std.proofs.Common.{ap, ◌∙◌}
use Rattle.cg_model.specs.declared.config.UnitFields.{UnitFields}
use Rattle.cg_model.specs.Config.{fields}
use Rattle.cg_model.specs.Canonical.{stage_of}
use Rattle.cg_config.proofs.Canonicals.{fields_at, greatest_none, greatest_more}
use Rattle.cg_config.proofs.checking.last_stage_in.Goals as goal

pub loop-x-init : goal.loop-x-init
loop-x-init c = greatest_none (λ x. stage_of (fields c.args.config.now x c.args.slot))

pub loop-x-preserved : goal.loop-x-preserved
loop-x-preserved c =
    let C = c.args.config.now in
    let read = fields_at c.args.arch.now C c.fields_in-row.result.now c.units-x-end.result.now c.loop-x.x c.args.slot _ c.requires.rows c.requires.slot c.fields_in-row.ensures c.units-x-end.ensures.units c.loop-x-test.true in
    c.max-last.ensures
    ∙ greatest_more (λ x. stage_of (fields C x c.args.slot)) c.loop-x.x c.loop-x.last c.stage_of.result c.loop-x.invariant (c.stage_of.ensures ∙ ap (λ (f : UnitFields). stage_of f) read)
