use Rattle.std.proofs.Common.{◌≡◌}
use Rattle.cg_model.specs.Canonical.{IsCanonical}
use Rattle.cg_run_rows.proofs.histories.draw_units.Given as goal

abbrev pub invariant-loop-x : goal.invariant-loop-x
invariant-loop-x l = record {
  canonical : IsCanonical l.arch l.config;
  interval : l.config.ii ≡ l.initial.config.ii;
}
