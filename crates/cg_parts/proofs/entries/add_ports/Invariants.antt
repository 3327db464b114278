use Rattle.std.proofs.Common.{◌≡◌, ◌++◌, drop}
use Rattle.cg_parts.specs.Parts.{port_entries}
use Rattle.cg_parts.proofs.entries.add_ports.Given as goal

abbrev pub invariant-loop-port : goal.invariant-loop-port
invariant-loop-port l = l.list.items ++ port_entries l.unit l.port (drop l.port l.ports) ≡ l.fn.list.items ++ port_entries l.unit 0 l.ports
