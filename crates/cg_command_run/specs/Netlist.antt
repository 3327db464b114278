-- `run ARCH BITS TURNS IN OUT --netlist FILE`.
use Rattle.std.specs.Prelude.{◌≡◌, ℕ, ◌≤◌, length, Result, Ok}
use Rattle.cg_model.specs.Work.{Image}
use Rattle.cg_model.specs.Array.{Arch}
use Rattle.cg_model.specs.Config.{Config}
use Rattle.cg_model.specs.Machine.{cycles, machine_left}
use Rattle.cg_files.specs.Held.{Holds, Appends}
use Rattle.cg_effects.specs.Outcome.{Name, Bytes, File, Outcome}
use Rattle.cg_effects.specs.Ends.{Moment}
use Rattle.cg_tiles.specs.Answer.{AreValidBytes}
use Rattle.cg_bits.specs.Answers as bits
use Rattle.cg_pad.specs.Bytes as images
use Rattle.cg_netlist.specs.Netlist.{NetGraph, netlist_of}
use Rattle.cg_netlist.specs.Graph.{IsNetGraph}
use Rattle.cg_netlist_reader.specs.declared.fault.VerilogFault.TheVariants as verilog_fault
use Rattle.cg_netlist_reader.specs.FaultText.{verilog_fault_text}
use Rattle.cg_netlist_reader.specs.Reading as netlists
use Rattle.cg_netlist_reader.specs.Reading.{Spells}
use Rattle.cg_gates.specs.declared.fault.GateFault.TheVariants as gate_fault
use Rattle.cg_gates.specs.Gates.{gates_left}
use Rattle.cg_gates.specs.Accepts.{IsAccepted, IsGateAnswer}
use Rattle.cg_gates.specs.Texts.{gate_fault_text}
use Rattle.cg_inputs.specs.Answered.{Parsed, ReadBoth, ReadThen, WithMemory}
use Rattle.cg_inputs.specs.Readings.{ReadsArray, ReadsImage}
use Rattle.cg_command_run.specs.Run.{AreTurnsLeft, HoldStart, left_outcome, run_by_size, run_report}

-- ---- what is read

-- a netlist
abbrev pub ReadsNetlist : File → Result NetGraph Outcome → Type 0
ReadsNetlist file r = Parsed (WithMemory (netlists.IsAnswer file.bytes) verilog_fault.Memory) verilog_fault_text file.name r

-- that the netlist of this name has a meaning over the architecture. Of its faults only the ring may be chosen
abbrev pub ReadsMeaning : Arch → Name → NetGraph → Result (Unit {0}) Outcome → Type 0
ReadsMeaning A file N r = Parsed (WithMemory (IsGateAnswer A N) gate_fault.Memory) gate_fault_text file r

abbrev pub ReadsGates : Arch → File → Result (NetGraph × Unit {0}) Outcome → Type 0
ReadsGates A file r = ReadBoth (ReadsNetlist file) (ReadsMeaning A file.name) r

-- after the array: the image, and then the netlist
abbrev pub ReadsOn : File → File → Arch → Result (Image × (NetGraph × Unit {0})) Outcome → Type 0
ReadsOn input netlist A r = ReadBoth (ReadsImage input) (λ image. ReadsGates A netlist) r

abbrev pub ReadsNetlistRun : File → File → File → File → Result ((Arch × Config) × (Image × (NetGraph × Unit {0}))) Outcome → Type 0
ReadsNetlistRun arch file input netlist r = ReadBoth (ReadsArray arch file) (λ a. ReadsOn input netlist a.0) r

-- ---- what is done

-- the netlist ran the configuration from the image
abbrev pub gates_ran : ℕ → Arch → NetGraph → Config → Image → Name → Outcome
gates_ran n A N C image out = left_outcome (cycles C n) (gates_left A N C n image) out

-- unless the image has more words than the architecture's memory
abbrev pub RunsGates : ℕ → Name → Name → (Arch × Config) × (Image × (NetGraph × Unit {0})) → Outcome → Type 0
RunsGates n input out s o = o ≡ run_by_size s.0.0 input s.1.0 (gates_ran n s.0.0 s.1.1.0 s.0.1 s.1.0 out)

-- the outcomes that the command allows
abbrev pub IsNetlistRun : ℕ → File → File → File → File → Name → Outcome → Type 0
IsNetlistRun n arch file input netlist out o = ReadThen (ReadsNetlistRun arch file input netlist) (RunsGates n input.name out) o

-- ---- what is accepted, and what is left

-- the files contain an architecture, a canonical configuration of it, an image that fits its memory, and a netlist that
-- has a meaning over the architecture
pub record IsNetlistRunnable (arch file input netlist : File) : Type 0 where
  pub array : Arch
  pub given : AreValidBytes arch.bytes array
  pub config : Config
  pub config_is : bits.answer_of array file.bytes ≡ Ok config
  pub image : Image
  pub image_is : images.answer_of input.bytes ≡ Ok image
  pub graph : NetGraph
  pub graph_is : netlists.IsAnswer netlist.bytes (Ok graph)
  pub accepted : IsAccepted array graph
  pub fits : length image.memory ≤ array.memory

-- Done: an array, an image and a netlist that has a meaning over the architecture were read; what the netlist leaves
-- after the iterations is held under the last name, and the numbers of cycles and of outside accesses were reported.
-- Where it is the netlist of the architecture, it leaves what the array leaves, and so what the iterations of a mapped
-- kernel leave
pub record IsGatesRun (n : ℕ) (arch file input netlist out : Name) (before after : Moment) : Type 0 where
  pub read : HoldStart arch file input before
  pub netlist_bytes : Bytes
  pub netlist_held : Holds before.held netlist netlist_bytes
  pub graph : NetGraph
  pub valid : IsNetGraph graph
  pub graph_spelled : Spells netlist_bytes graph
  pub accepted : IsAccepted read.array graph
  pub written : Holds after.held out (images.image_bytes (gates_left read.array graph read.config n read.image).image)
  pub put : Appends before.taken (run_report (cycles read.config n) (gates_left read.array graph read.config n read.image).outside) after.taken
  pub same : graph ≡ netlist_of read.array → gates_left read.array graph read.config n read.image ≡ machine_left read.array read.config n read.image
  pub turns : graph ≡ netlist_of read.array → AreTurnsLeft (gates_left read.array graph read.config n read.image) read.array n read.image read.bytes
