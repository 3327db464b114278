use Rattle.std.proofs.Common.{◌≡◌, ◌+◌, suc, ◌∙◌, ap, arith}
use Rattle.cg_check.specs.Legal.{config_of}
use Rattle.cg_show.specs.Schedule.{stage_line}
use Rattle.cg_show.proofs.Steps.{unbegun, grown, ended}
use Rattle.cg_show.proofs.schedule.push_stage_ways.Goals as goal

pub loop-stage-init : goal.loop-stage-init
loop-stage-init c = unbegun (stage_line c.args.marks.now c.args.rows) c.args.ways.now.items

pub loop-stage-preserved : goal.loop-stage-preserved
loop-stage-preserved c = grown (stage_line c.args.marks.now c.args.rows) _ _ _ _ c.loop-stage.invariant c.in_ok-push_stage_way.ensures

pub returns : goal.returns
returns c =
    let m = c.args.marks.now in
    let f = stage_line m c.args.rows in
    let n = c.stages-stages.result in
    let old = c.args.ways.now.items in
    let all : c.loop-stage.stage ≡ n = omega arith in
    let stages = c.stages-stages.ensures ∙ ap (λ z. (config_of z).stages) c.legal.ensures.value in
    let last : n + 1 ≡ suc (config_of m).stages = omega (arith, stages) in
    ended f (n + 1) (suc (config_of m).stages) old _
    (grown f n old c.loop-stage.ways.items _ (ended f c.loop-stage.stage n old c.loop-stage.ways.items c.loop-stage.invariant all) c.in_ok-push_stage_way-2.ensures) last
