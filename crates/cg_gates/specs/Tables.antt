-- The tables of an accepted netlist, by the numbers of its nets.
use Rattle.std.specs.Prelude.{◌≡◌, ℕ, suc, ◌+◌, ◌<◌, ◌≤◌, Bool, true, List, [], length, Contains, Option, Some, None, slice_index, slice_index_or, slice_get}
use Rattle.cg_model.specs.Array.{Arch, unit}
use Rattle.cg_datapath.specs.declared.terminals.Terminals.{Terminals}
use Rattle.cg_netlist.specs.declared.forms.Form.{Form}
use Rattle.cg_netlist.specs.Netlist.{NetGraph}
use Rattle.cg_gates.specs.declared.tables.SelectCell.{SelectCell}
use Rattle.cg_gates.specs.declared.tables.Choice.{Choice}
use Rattle.cg_gates.specs.declared.tables.Choices.{Choices}
use Rattle.cg_gates.specs.Shape.{Shape, shapes, is_unit}
use Rattle.cg_gates.specs.Gates.{stem, resource_named, unit_instance, pins_named}
use Rattle.cg_gates.specs.Accepts.{net_name}

-- i is the number of the net of that name
pub record IsNumber (N : NetGraph) (name : List ℕ) (i : ℕ) : Type 0 where
  pub within : i < length N.nets
  pub named : net_name N i ≡ name

-- the pin in that place is on that net; the number past the last net denotes a missing pin
abbrev pub IsPinNumber : NetGraph → Option (List ℕ) → ℕ → Type 0
IsPinNumber N None i = i ≡ length N.nets
IsPinNumber N (Some net) i = IsNumber N net i

-- ---- contexts and preselects

-- entry j
abbrev pub select_cell : List SelectCell → ℕ → SelectCell
select_cell es j = slice_index_or es j (record { net = 0; resource = 0 })

-- the entry is that of a cell: the net that it drives, and the resource after which it is named
pub record IsSelect (A : Arch) (N : NetGraph) (is : Form → Bool) (c : Shape) (e : SelectCell) : Type 0 where
  pub there : Contains (shapes N) c
  pub form : is c.form ≡ true
  pub net : IsNumber N c.q e.net
  pub resource : resource_named A (stem c.name) ≡ e.resource
  pub known : e.resource < length A.resources

-- the entries are those of the cells of a form
pub record AreSelects (A : Arch) (N : NetGraph) (is : Form → Bool) (es : List SelectCell) : Type 0 where
  pub each : (j : ℕ) → j < length es → (c : Shape) × IsSelect A N is c (select_cell es j)
  pub all : (c : Shape) → Contains (shapes N) c → is c.form ≡ true → (j : ℕ) × (j < length es) × IsSelect A N is c (select_cell es j)

-- ---- muxes and registers

abbrev pub choice : List Choice → ℕ → Choice
choice es j = slice_index_or es j (record { net = 0; select = 0; first = 0; count = 0 })

-- the entry is that of a cell: the net that it drives, that of its select, and, from a place of one list on, those
-- among which it chooses
pub record IsChoice (N : NetGraph) (is : Form → Bool) (heard : List ℕ) (c : Shape) (e : Choice) : Type 0 where
  pub there : Contains (shapes N) c
  pub form : is c.form ≡ true
  pub net : IsNumber N c.q e.net
  pub many : length c.ins ≡ e.count + 1
  pub select : IsNumber N (slice_index_or c.ins 0 []) e.select
  pub within : e.first + e.count ≤ length heard
  pub each : (k : ℕ) → k < e.count → IsNumber N (slice_index_or c.ins (suc k) []) (slice_index heard (e.first + k))

pub record AreChoices (N : NetGraph) (is : Form → Bool) (t : Choices) : Type 0 where
  pub each : (j : ℕ) → j < length t.entries.items → (c : Shape) × IsChoice N is t.heard.items c (choice t.entries.items j)
  pub all : (c : Shape) → Contains (shapes N) c → is c.form ≡ true →
      (j : ℕ) × (j < length t.entries.items) × IsChoice N is t.heard.items c (choice t.entries.items j)

-- each entry comes after those whose nets it chooses among
abbrev pub AreRising : Choices → Type 0
AreRising t = (i j k : ℕ) → i < length t.entries.items → j < length t.entries.items → k < (choice t.entries.items j).count →
    (choice t.entries.items i).net ≡ slice_index t.heard.items ((choice t.entries.items j).first + k) → i < j

-- ---- units

abbrev pub terminals : List Terminals → ℕ → Terminals
terminals ts x = slice_index_or ts x (record { ports = []; out = 0; latency = 0 })

-- the terminals are those of unit x's cell: the nets of its pins a, b and c, and of q
pub record IsTerminals (A : Arch) (N : NetGraph) (x : ℕ) (t : Terminals) : Type 0 where
  pub ports : (p : ℕ) → p < 3 → IsPinNumber N (slice_get (pins_named (unit_instance (unit A x).name) (shapes N)) p) (slice_index t.ports p)
  pub cell : Shape
  pub there : Contains (shapes N) cell
  pub form : is_unit cell.form ≡ true
  pub named : cell.name ≡ unit_instance (unit A x).name
  pub out : IsNumber N cell.q t.out
  pub latency : t.latency ≡ (unit A x).latency

pub record AreTerminals (A : Arch) (N : NetGraph) (ts : List Terminals) : Type 0 where
  pub long : length ts ≡ length A.units
  pub each : (x : ℕ) → x < length A.units → IsTerminals A N x (terminals ts x)
