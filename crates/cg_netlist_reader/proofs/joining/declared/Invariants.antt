use Rattle.std.proofs.Common.{◌≡◌, ◌++◌, take, drop}
use Rattle.cg_netlist.specs.Graph.{names}
use Rattle.cg_netlist_reader.specs.Reading.{given, repeated}
use Rattle.cg_netlist_reader.specs.Looked.{IsSet}
use Rattle.cg_netlist_reader.proofs.joining.declared.Given as goal

abbrev pub invariant-loop-net : goal.invariant-loop-net
invariant-loop-net l = record {
  set : IsSet l.numbers (given ++ names (take l.net-index l.nets));
  rest : repeated given (names l.nets) ≡ repeated (given ++ names (take l.net-index l.nets)) (names (drop l.net-index l.nets));
}
