use Rattle.std.proofs.Common.{◌≡◌}
use Rattle.cg_model.specs.Canonical.{IsCanonical}
use Rattle.cg_run_rows.proofs.histories.draw_selects.Given as goal

abbrev pub invariant-loop-r : goal.invariant-loop-r
invariant-loop-r l = record {
  canonical : IsCanonical l.arch l.config;
  interval : l.config.ii ≡ l.initial.config.ii;
}
