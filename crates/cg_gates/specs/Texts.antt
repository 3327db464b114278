-- The texts of faults of netlists in reports: code, name and place.
use Rattle.std.specs.Prelude.{ℕ, List, [], ◌++◌, codes, decimal, flat_map}
use Rattle.cg_gates.specs.declared.fault.GateFault.{GateFault}
use Rattle.cg_gates.specs.declared.fault.GateFault.TheVariants as fault

abbrev pub gate_fault_text : GateFault → List ℕ
gate_fault_text fault.Memory = []
gate_fault_text (fault.DriverCount net) = codes "E1 DriverCount net " ++ net
gate_fault_text (fault.PinNet i) = codes "E2 PinNet cell " ++ decimal i
gate_fault_text (fault.MuxLoop nets) = codes "E3 MuxLoop" ++ flat_map (λ net. codes " " ++ net) nets
gate_fault_text (fault.RepeatedInstance i) = codes "E4 RepeatedInstance cell " ++ decimal i
gate_fault_text (fault.UnknownInstance i) = codes "E5 UnknownInstance cell " ++ decimal i
gate_fault_text (fault.MissingUnit name) = codes "E6 MissingUnit unit " ++ name
