use Rattle.std.proofs.Common.{◌≡◌, drop}
use Rattle.std.specs.Prelude.{flat_map}
use Rattle.cg_model.specs.Mapping.{of_route}
use Rattle.cg_check.specs.Claims.{claims}
use Rattle.cg_check.proofs.claims.claim_all.Given as goal

abbrev pub invariant-loop-route : goal.invariant-loop-route
invariant-loop-route l =
    claims l.fn.sharing l.mapping.ii l.table (flat_map (of_route l.arch l.kernel l.mapping) (drop l.route-index l.mapping.routes))
    ≡ claims l.fn.sharing l.mapping.ii l.fn.table (flat_map (of_route l.arch l.kernel l.mapping) l.mapping.routes)
