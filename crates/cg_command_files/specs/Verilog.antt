-- `verilog ARCH OUT`.
use Rattle.std.specs.Prelude.{◌≡◌, [], ◌∷◌, length, codes, decimal}
use Rattle.cg_model.specs.Array.{Arch}
use Rattle.cg_tiles.specs.Answer.{AreValidBytes}
use Rattle.cg_effects.specs.declared.outcome.Status.TheVariants.{Done}
use Rattle.cg_files.specs.Held.{Holds, Appends}
use Rattle.cg_effects.specs.Outcome.{Name, Bytes, File, Outcome, line_of, line_then}
use Rattle.cg_effects.specs.Ends.{Moment}
use Rattle.cg_verilog.specs.Printed.{module_text}
use Rattle.cg_netlist.specs.Graph.{IsNetGraph}
use Rattle.cg_netlist.specs.Netlist.{NetGraph, netlist_of}
use Rattle.cg_netlist.specs.Text.{module_of}
use Rattle.cg_inputs.specs.Answered.{ReadThen}
use Rattle.cg_inputs.specs.Readings.{ReadsArch}

-- the numbers of nets and cells
abbrev pub verilog_report : NetGraph → Bytes
verilog_report G =
    line_then (codes "nets " ∷ decimal (length G.nets) ∷ []) (line_of (codes "cells " ∷ decimal (length G.cells) ∷ []))

-- the text of a netlist
abbrev pub verilog_text : NetGraph → Bytes
verilog_text G = module_text (module_of G)

-- the text of the architecture's netlist is written
abbrev pub netlisted : Arch → Name → Outcome
netlisted A out = record {
  status = Done;
  report = verilog_report (netlist_of A);
  writes = record { name = out; bytes = verilog_text (netlist_of A) } ∷ [];
}

abbrev pub IsNetlisting : Name → Arch → Outcome → Type 0
IsNetlisting out A o = o ≡ netlisted A out

abbrev pub IsVerilog : File → Name → Outcome → Type 0
IsVerilog file out o = ReadThen (ReadsArch file) (IsNetlisting out) o

-- Done: an architecture was read, the text of its netlist is held under the other name, and its counts were reported. The
-- netlist is valid, so what is said of a netlist that is read holds of it
pub record IsNetlisted (file out : Name) (before after : Moment) : Type 0 where
  pub bytes : Bytes
  pub held : Holds before.held file bytes
  pub arch : Arch
  pub given : AreValidBytes bytes arch
  pub valid : IsNetGraph (netlist_of arch)
  pub written : Holds after.held out (verilog_text (netlist_of arch))
  pub put : Appends before.taken (verilog_report (netlist_of arch)) after.taken
