use Rattle.std.proofs.Common.{ap, ◌∙◌, ◌++◌}
use Rattle.cg_inputs.specs.Sources.{Pair}
use Rattle.cg_command_map.proofs.Reported.{shaped_at, reported_more, all_reported}
use Rattle.cg_command_map.proofs.reporting.faults_report.Goals as goal

pub interval_report-requires : goal.interval_report-requires
interval_report-requires c = record {
  shape = shaped_at c.args.arch.now c.args.kernel.now c.args.first c.loop-i.i c.args.misses.now c.index-misses-i.result c.requires.missed c.loop-i-test.true c.index-misses-i.is;
}

pub loop-i-preserved : goal.loop-i-preserved
loop-i-preserved c =
    let p : Pair = record { arch = c.args.arch.now; kernel = c.args.kernel.now } in
    reported_more p c.args.first c.loop-i.i c.args.misses.now c.index-misses-i.result c.loop-i.report.items _ _
    c.loop-i-test.true c.index-misses-i.is c.loop-i.invariant
    (c.in_ok-extend_from_slice.ensures.items ∙ ap (λ z. c.loop-i.report.items ++ z) (c.as_slice.ensures.value ∙ c.in_ok-lines.ensures))

pub returns : goal.returns
returns c =
    let p : Pair = record { arch = c.args.arch.now; kernel = c.args.kernel.now } in
    all_reported p c.args.first c.loop-i.i c.args.misses.now c.loop-i.report.items _ c.loop-i-test.false c.loop-i.invariant
