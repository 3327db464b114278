use Rattle.std.proofs.Common.{◌≡◌, drop, not, eqb}
use Rattle.std.specs.List.{list_any}
use Rattle.cg_model.specs.First.{first_such}
use Rattle.cg_validate.proofs.hub.first_not_driving.Given as goal

abbrev pub invariant-loop-source : goal.invariant-loop-source
invariant-loop-source l = first_such (λ q. not (list_any (eqb q) l.drivers)) (drop l.source-index l.sources) ≡ first_such (λ q. not (list_any (eqb q) l.drivers)) l.sources
