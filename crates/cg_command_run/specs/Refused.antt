-- Files of netlists that are refused, each for a fault in it.
use Rattle.cg_model.specs.Array.{Arch}
use Rattle.cg_effects.specs.Outcome.{Name, File, Outcome}
use Rattle.cg_inputs.specs.Refused.{Tells}
use Rattle.cg_netlist.specs.Netlist.{NetGraph}
use Rattle.cg_netlist_reader.specs.declared.fault.VerilogFault.TheVariants as verilog_fault
use Rattle.cg_netlist_reader.specs.FaultText.{verilog_fault_text}
use Rattle.cg_netlist_reader.specs.Reading as netlists
use Rattle.cg_gates.specs.declared.fault.GateFault.TheVariants as gate_fault
use Rattle.cg_gates.specs.Gated.{Gated}
use Rattle.cg_gates.specs.Accepts.{IsGateAnswer}
use Rattle.cg_gates.specs.Texts.{gate_fault_text}

-- the file contains no valid netlist
abbrev pub RefusesNetlist : File → Outcome → Type 0
RefusesNetlist file o = Tells (netlists.IsAnswer file.bytes) verilog_fault.Memory verilog_fault_text file.name o

-- the netlist has no meaning over the architecture
abbrev pub RefusesGates : Arch → NetGraph → Name → Outcome → Type 0
RefusesGates A N file o = Tells (IsGateAnswer {T = Gated} A N) gate_fault.Memory gate_fault_text file o
