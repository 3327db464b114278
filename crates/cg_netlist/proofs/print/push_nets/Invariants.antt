use Rattle.std.proofs.Common.{◌≡◌, ◌++◌, take, flat_map}
use Rattle.cg_netlist.specs.Text.{net_line}
use Rattle.cg_netlist.proofs.print.push_nets.Given as goal

abbrev pub invariant-loop-net : goal.invariant-loop-net
invariant-loop-net l = l.text.items ≡ l.fn.text.items ++ flat_map net_line (take l.net-index l.nets)
