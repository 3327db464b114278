use Rattle.std.proofs.Common.{◌≡◌, drop}
use Rattle.std.specs.Prelude.{flat_map}
use Rattle.cg_model.specs.Mapping.{of_route}
use Rattle.cg_model.specs.Canonical.{IsCanonical}
use Rattle.cg_emit.specs.Building.{with_positions}
use Rattle.cg_emit.proofs.selects.set_routes.Given as goal

abbrev pub invariant-loop-route : goal.invariant-loop-route
invariant-loop-route l = record {
  canonical : IsCanonical l.legal.arch l.config;
  set : with_positions l.legal.arch (flat_map (of_route l.legal.arch l.legal.kernel l.legal.mapping) (drop l.route-index l.route-items)) l.config
      ≡ with_positions l.legal.arch (flat_map (of_route l.legal.arch l.legal.kernel l.legal.mapping) l.legal.mapping.routes) l.initial.config;
}
