use Rattle.std.proofs.Common.{◌≡◌, ◌++◌, drop}
use Rattle.cg_parts.specs.Parts.{port_names}
use Rattle.cg_parts.proofs.claims.add_port_names.Given as goal

abbrev pub invariant-loop-port : goal.invariant-loop-port
invariant-loop-port l = l.names.items ++ port_names l.unit l.port (drop l.port l.ports) ≡ l.fn.names.items ++ port_names l.unit 0 l.ports
