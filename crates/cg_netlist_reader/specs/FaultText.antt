-- The texts of faults of netlist texts in reports: code, name and place.
use Rattle.std.specs.Prelude.{ℕ, List, [], ◌++◌, codes, decimal}
use Rattle.cg_netlist_reader.specs.declared.fault.VerilogFault.{VerilogFault}
use Rattle.cg_netlist_reader.specs.declared.fault.VerilogFault.TheVariants as fault

abbrev pub verilog_fault_text : VerilogFault → List ℕ
verilog_fault_text fault.Memory = []
verilog_fault_text (fault.Text place) = codes "V1 Text byte " ++ decimal place
verilog_fault_text (fault.UnknownCell i) = codes "V2 UnknownCell cell " ++ decimal i
verilog_fault_text (fault.UnknownNet name) = codes "V3 UnknownNet net " ++ name
