-- The text of the fault for which a file is refused: its code, its name and its place.
use Rattle.std.specs.Prelude.{ℕ, ◌++◌, codes, decimal}
use Rattle.cg_effects.specs.Outcome.{Bytes}
use Rattle.cg_bits.specs.Texts.{bits_fault_text, first_fault_text}
use Rattle.cg_datapath.specs.Texts.{sim_fault_text}
use Rattle.cg_depend.specs.Texts.{depend_fault_text}
use Rattle.cg_gates.specs.Texts.{gate_fault_text}
use Rattle.cg_grid.specs.Texts.{tiles_fault_text}
use Rattle.cg_image_text.specs.Texts.{text_fault_text}
use Rattle.cg_kernel.specs.Texts.{kernel_fault_text}
use Rattle.cg_loop_reader.specs.FaultText.{loop_fault_text}
use Rattle.cg_mapping.specs.Texts.{mapping_fault_text}
use Rattle.cg_netlist_reader.specs.FaultText.{verilog_fault_text}
use Rattle.cg_pad.specs.Texts.{image_fault_text}
use Rattle.cg_cause.specs.declared.cause.Cause.{Cause}
use Rattle.cg_cause.specs.declared.cause.Cause.TheVariants.{Arch, Kernel, Mapping, Bits, FirstBits, Image, ImageText, Loop, Netlist, Gates, Depend, Run, IntervalAboveContexts}

-- the fault of an interval with more cycles than there are contexts
abbrev pub interval_fault_text : ℕ → Bytes
interval_fault_text contexts = codes "G2 IntervalAboveContexts contexts " ++ decimal contexts

abbrev pub cause_text : Cause → Bytes
cause_text (Arch fault) = tiles_fault_text fault
cause_text (Kernel fault) = kernel_fault_text fault
cause_text (Mapping fault) = mapping_fault_text fault
cause_text (Bits fault) = bits_fault_text fault
cause_text (FirstBits fault) = first_fault_text fault
cause_text (Image fault) = image_fault_text fault
cause_text (ImageText fault) = text_fault_text fault
cause_text (Loop fault) = loop_fault_text fault
cause_text (Netlist fault) = verilog_fault_text fault
cause_text (Gates fault) = gate_fault_text fault
cause_text (Depend fault) = depend_fault_text fault
cause_text (Run fault) = sim_fault_text fault
cause_text (IntervalAboveContexts contexts) = interval_fault_text contexts
