-- The tables of a netlist, cell by cell.
use Rattle.std.specs.Prelude.{◌≡◌, ℕ, ◌-◌, Bool, true, false, List, [], ◌∷◌, ◌++◌, codes, length, map, drop, find, Option, Some, None, slice_index_or, slice_get}
use Rattle.cg_model.specs.declared.array.Unit.{Unit}
use Rattle.cg_netlist.specs.declared.forms.Form.{Form}
use Rattle.cg_netlist.specs.Netlist.{NetGraph}
use Rattle.cg_datapath.specs.declared.terminals.Terminals.{Terminals}
use Rattle.cg_gates.specs.declared.tables.Choice.{Choice}
use Rattle.cg_gates.specs.declared.tables.Choices.{Choices}
use Rattle.cg_gates_run.specs.declared.selects.Given.{Given}
use Rattle.cg_gates_run.specs.declared.selects.Given.TheVariants.{Now, Next}
use Rattle.cg_gates.specs.Shape.{Shape, shapes, is_context, is_preselect, is_mux}
use Rattle.cg_gates.specs.Gates.{is_instance, unit_instance}
use Rattle.cg_gates.specs.Order.{net_number}

-- the form of cells that drive the selects of a cycle, or of the next one
abbrev pub is_given : Given → Form → Bool
is_given Now = is_context
is_given Next = is_preselect

-- a mux or a register, whose data begin at a place in a list
abbrev pub entry_of : NetGraph → Shape → ℕ → Choice
entry_of N c first = record { net = net_number N c.q; select = net_number N (slice_index_or c.ins 0 []); first = first; count = length c.ins - 1 }

-- one choice is added
pub record IsPushed (N : NetGraph) (c : Shape) (old new : Choices) : Type 0 where
  pub entries : new.entries.items ≡ old.entries.items ++ entry_of N c (length old.heard.items) ∷ []
  pub heard : new.heard.items ≡ old.heard.items ++ map (net_number N) (drop 1 c.ins)

-- no choice is added
pub record IsSame (old new : Choices) : Type 0 where
  pub entries : new.entries.items ≡ old.entries.items
  pub heard : new.heard.items ≡ old.heard.items

abbrev pub PushesIf : Bool → NetGraph → Shape → Choices → Choices → Type 0
PushesIf true N c old new = IsPushed N c old new
PushesIf false N c old new = IsSame old new

-- a cell is added where it is a mux
abbrev pub PushesMux : NetGraph → Option Shape → Choices → Choices → Type 0
PushesMux N None old new = IsSame old new
PushesMux N (Some c) old new = PushesIf (is_mux c.form) N c old new

-- the number of a pin's net, and the number past the last net where there is no pin
abbrev pub pin_number : NetGraph → Option (List ℕ) → ℕ
pin_number N None = length N.nets
pin_number N (Some net) = net_number N net

-- the nets of a unit's cell
abbrev pub terminals_of : NetGraph → Shape → ℕ → Terminals
terminals_of N c latency = record {
  ports = pin_number N (slice_get c.ins 0) ∷ pin_number N (slice_get c.ins 1) ∷ pin_number N (slice_get c.ins 2) ∷ [];
  out = net_number N c.q;
  latency = latency;
}

-- the letter and `_` with which their names begin
abbrev pub front_of : Given → List ℕ
front_of Now = codes "c_"
front_of Next = codes "p_"

-- the nets are those of the first unit cell with the name of this unit
pub record IsUnitCell (N : NetGraph) (u : Unit) (t : Terminals) : Type 0 where
  pub cell : Shape
  pub first : find (is_instance (unit_instance u.name)) (shapes N) ≡ Some cell
  pub is : t ≡ terminals_of N cell u.latency
