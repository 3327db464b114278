use Rattle.std.proofs.Common.{◌≡◌, drop, flat_map}
use Rattle.cg_model.specs.First.{first_such}
use Rattle.cg_parts.specs.Rules.{is_wrong}
use Rattle.cg_parts.proofs.drivers.wrong_in_ports.Given as goal

abbrev pub invariant-loop-drivers : goal.invariant-loop-drivers
invariant-loop-drivers l = first_such (is_wrong l.rule l.resources) (flat_map (λ drivers. drivers) (drop l.drivers-index l.ports)) ≡ first_such (is_wrong l.rule l.resources) (flat_map (λ drivers. drivers) l.ports)
