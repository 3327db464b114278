use Rattle.std.proofs.Common.{◌≡◌, ◌<◌, false, length, get_or, sym, ap, ◌∙◌, arith, below_more}
use Rattle.std.proofs.lemmas.List.{get_or_default}
use Rattle.cg_model.specs.declared.config.UnitFields.{UnitFields}
use Rattle.cg_model.specs.Config.{off}
use Rattle.cg_model.specs.Canonical.{clash}
use Rattle.cg_config.proofs.config.clashes_in.Goals as goal

pub loop-x-preserved : goal.loop-x-preserved
loop-x-preserved c =
    let row = c.args.row.now in
    let within : c.loop-x.x < length row = omega arith in
    let now : clash (get_or row c.loop-x.x off) c.args.fields.now ≡ false =
    ap (λ (f : UnitFields). clash f c.args.fields.now) (sym (get_or_default row c.loop-x.x _ off within)) ∙ sym c.clash.ensures ∙ c.if-clash.false in
    below_more _ _ c.loop-x.invariant now
