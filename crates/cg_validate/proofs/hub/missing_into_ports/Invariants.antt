use Rattle.std.proofs.Common.{◌≡◌, drop, flat_map}
use Rattle.cg_validate.specs.Hub.{first_missing}
use Rattle.cg_validate.proofs.hub.missing_into_ports.Given as goal

abbrev pub invariant-loop-unit : goal.invariant-loop-unit
invariant-loop-unit l = first_missing l.flat l.flat.hub (flat_map (λ u. u.ports) (drop l.unit-index l.units)) ≡ first_missing l.flat l.flat.hub (flat_map (λ u. u.ports) l.units)
