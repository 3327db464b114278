-- A netlist that has a meaning over an architecture, as contracts see it.
use Rattle.std.specs.Prelude.{List}
use Rattle.cg_model.specs.Array.{Arch, IsArch}
use Rattle.cg_datapath.specs.declared.terminals.Terminals.{Terminals}
use Rattle.cg_netlist.specs.Netlist.{NetGraph}
use Rattle.cg_netlist.specs.Graph.{IsNetGraph}
use Rattle.cg_gates.specs.declared.tables.SelectCell.{SelectCell}
use Rattle.cg_gates.specs.declared.tables.Choices.{Choices}
use Rattle.cg_gates.specs.Shape.{is_context, is_preselect, is_register, is_mux}
use Rattle.cg_gates.specs.Accepts.{IsAccepted}
use Rattle.cg_gates.specs.Tables.{AreSelects, AreChoices, AreRising, AreTerminals}

pub record Gated : Type 0 where
  pub arch : Arch
  pub netlist : NetGraph

-- the tables of an accepted netlist
pub record IsGated (A : Arch) (N : NetGraph) (cs ps : List SelectCell) (rs ms : Choices) (us : List Terminals) : Type 0 where
  pub valid : IsArch A
  pub graph : IsNetGraph N
  pub accepted : IsAccepted A N
  pub contexts : AreSelects A N is_context cs
  pub preselects : AreSelects A N is_preselect ps
  pub registers : AreChoices N is_register rs
  pub muxes : AreChoices N is_mux ms
  pub rising : AreRising ms
  pub units : AreTerminals A N us
