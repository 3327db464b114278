use Rattle.std.proofs.Common.{◌≡◌}
use Rattle.cg_model.specs.Canonical.{IsCanonical}
use Rattle.cg_run_rows.proofs.histories.drawn_config.Given as goal

abbrev pub invariant-loop-slot : goal.invariant-loop-slot
invariant-loop-slot l = record {
  canonical : IsCanonical l.arch l.config;
  interval : l.config.ii ≡ l.ii;
}
