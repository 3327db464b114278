use Rattle.std.proofs.Common.{◌≡◌, drop}
use Rattle.std.specs.Prelude.{not}
use Rattle.cg_model.specs.First.{first_such}
use Rattle.cg_check.specs.Rules.{is_brought}
use Rattle.cg_check.proofs.routing.unbrought.Given as goal

abbrev pub invariant-loop-route : goal.invariant-loop-route
invariant-loop-route l =
    first_such (λ route. not (is_brought l.arch l.kernel l.mapping route)) (drop l.route-index l.routes)
    ≡ first_such (λ route. not (is_brought l.arch l.kernel l.mapping route)) l.routes
