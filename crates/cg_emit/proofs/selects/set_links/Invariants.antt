use Rattle.std.proofs.Common.{◌≡◌, ℕ, drop}
use Rattle.cg_model.specs.Mapping.{positions_after}
use Rattle.cg_model.specs.Canonical.{IsCanonical}
use Rattle.cg_emit.specs.Building.{with_positions, GoesInTime}
use Rattle.cg_emit.proofs.selects.set_links.Given as goal

abbrev pub invariant-loop-number : goal.invariant-loop-number
invariant-loop-number l = record {
  canonical : IsCanonical l.arch l.config;
  path : GoesInTime l.arch l.from l.time (drop l.number-index l.path);
  set : (u : ℕ) →
      with_positions l.arch (positions_after l.arch u l.from l.time (drop l.number-index l.path)) l.config
      ≡ with_positions l.arch (positions_after l.arch u l.initial.from l.initial.time l.path) l.initial.config;
}
