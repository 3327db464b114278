-- Why the nets and cells of a module are not a valid graph.
use Rattle.std.specs.Prelude.{◌≡◌, ℕ, List, All, Option, Some}
use Rattle.cg_verilog.specs.Module.{ModuleText}
use Rattle.cg_netlist_reader.specs.declared.fault.VerilogFault.{VerilogFault}
use Rattle.cg_netlist_reader.specs.declared.fault.VerilogFault.TheVariants as faults
use Rattle.cg_netlist.specs.Netlist.{NetGraph}
use Rattle.cg_netlist.specs.Text.{module_of}
use Rattle.cg_netlist_reader.specs.Reading.{IsFormed, IsUnknownCell, unknown_net}

-- unless memory ran out, the fault is that of this net
abbrev pub IsOfNet : VerilogFault → Option (List ℕ) → Type 0
IsOfNet faults.Memory found = Unit {0}
IsOfNet (faults.UnknownNet name) found = found ≡ Some name
IsOfNet (faults.Text place) found = ⊥
IsOfNet (faults.UnknownCell i) found = ⊥

-- unless memory ran out, it is the first fault of this graph's cells, or else of its nets
abbrev pub IsBad : VerilogFault → NetGraph → Type 0
IsBad faults.Memory G = Unit {0}
IsBad (faults.Text place) G = ⊥
IsBad (faults.UnknownCell i) G = IsUnknownCell G.cells i
IsBad (faults.UnknownNet name) G = All IsFormed G.cells × (unknown_net G ≡ Some name)

-- unless memory ran out, it is a fault of this module's cells or nets
abbrev pub IsWrong : VerilogFault → ModuleText → Type 0
IsWrong faults.Memory m = Unit {0}
IsWrong (faults.Text place) m = ⊥
IsWrong (faults.UnknownCell i) m = (G : NetGraph) × (module_of G ≡ m) × IsUnknownCell G.cells i
IsWrong (faults.UnknownNet name) m = (G : NetGraph) × (module_of G ≡ m) × All IsFormed G.cells × (unknown_net G ≡ Some name)
