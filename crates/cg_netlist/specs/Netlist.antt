-- The netlist of an architecture: its nets, and the cells that are connected to them.
use Rattle.std.specs.Prelude.{ℕ, ◌+◌, ◌^◌, List, [], ◌∷◌, ◌++◌, length, map, flat_map, sum_by, codes, eqb, if◌then◌else◌}
use Rattle.cg_word.specs.declared.op.Op.{Op}
use Rattle.cg_word.specs.Word.{code, all_ops}
use Rattle.cg_word.specs.Sets.{among}
use Rattle.cg_model.specs.declared.array.Kind.{Kind}
use Rattle.cg_model.specs.declared.array.Kind.TheVariants.{Wire, Register, Port, Out}
use Rattle.cg_model.specs.declared.array.Resource.{Resource}
use Rattle.cg_model.specs.declared.array.Unit.{Unit}
use Rattle.cg_model.specs.Array.{Arch, resource}
use Rattle.cg_flat.specs.Slots.{width}
use Rattle.cg_netlist.specs.Forms.{Form, ContextForm, PreselectForm, MuxForm, RegisterForm, ZeroForm, UnitForm, form_name, driver_port, argument_port}
pub use Rattle.cg_netlist.specs.declared.parts.Net.{Net}
pub use Rattle.cg_netlist.specs.declared.parts.Pin.{Pin}
pub use Rattle.cg_netlist.specs.declared.parts.Cell.{Cell}

-- nets and cells, each in order
pub record NetGraph : Type 0 where
  pub nets : List Net
  pub cells : List Cell

-- ---- nets

-- the net of a resource's word, and the net of its select
abbrev pub word_net : Resource → List ℕ
word_net r = codes "n_" ++ r.name

abbrev pub select_net : Resource → List ℕ
select_net r = codes "s_" ++ r.name

-- the width of a resource's select, in bits
abbrev pub select_width : Resource → ℕ
select_width r = width (length r.drivers)

-- a, or b where the resource has drivers
abbrev pub if_driven : {X : Type 0} → Resource → X → X → X
if_driven r b a = if eqb (length r.drivers) 0 then a else b

-- the nets of a resource
abbrev pub nets_of : Resource → List Net
nets_of r =
    record { name = word_net r; width = 32 }
    ∷ if_driven r (record { name = select_net r; width = select_width r } ∷ []) []

-- ---- pins

abbrev pub pin : List ℕ → List ℕ → Pin
pin port net = record { port = port; net = net }

abbrev pub clock_pins : List Pin
clock_pins = pin (codes "clk") (codes "clk") ∷ pin (codes "rst") (codes "rst") ∷ []

abbrev pub select_pin : Resource → Pin
select_pin r = pin (codes "s") (select_net r)

-- the pins for the words of these drivers, numbered from k on
abbrev pub driver_pins : Arch → ℕ → List ℕ → List Pin
driver_pins A k [] = []
driver_pins A k (q ∷ qs) = pin (driver_port k) (word_net (resource A q)) ∷ driver_pins A (k + 1) qs

-- the pins for the words of these ports of a unit, numbered from p on
abbrev pub argument_pins : Arch → ℕ → List ℕ → List Pin
argument_pins A p [] = []
argument_pins A p (r ∷ rs) = pin (argument_port p) (word_net (resource A r)) ∷ argument_pins A (p + 1) rs

abbrev pub output_pins : List ℕ → List Pin
output_pins net = pin (codes "q") net ∷ []

-- the pins that choose a resource's word among those of its drivers
abbrev pub choice_pins : Arch → Resource → List Pin
choice_pins A r = select_pin r ∷ (driver_pins A 1 r.drivers ++ output_pins (word_net r))

-- the pins of a cell that gives a resource's select
abbrev pub select_pins : Resource → List Pin
select_pins r = clock_pins ++ output_pins (select_net r)

-- the pins of a unit's cell
abbrev pub unit_pins : Arch → Unit → List Pin
unit_pins A u = clock_pins ++ (argument_pins A 0 u.ports ++ output_pins (word_net (resource A u.out)))

-- ---- cells

abbrev pub cell : Form → List ℕ → List Pin → Cell
cell form name pins = record { «module» = form_name form; name = name; pins = pins }

abbrev pub context_cell : Resource → Cell
context_cell r = cell (ContextForm (select_width r)) (codes "c_" ++ r.name) (select_pins r)

abbrev pub preselect_cell : Resource → Cell
preselect_cell r = cell (PreselectForm (select_width r)) (codes "p_" ++ r.name) (select_pins r)

abbrev pub mux_cell : Arch → Resource → Cell
mux_cell A r = cell (MuxForm (length r.drivers)) (codes "m_" ++ r.name) (choice_pins A r)

abbrev pub register_cell : Arch → Resource → Cell
register_cell A r =
    cell (RegisterForm (length r.drivers)) (codes "r_" ++ r.name) (clock_pins ++ choice_pins A r)

abbrev pub zero_cell : Resource → Cell
zero_cell r = cell ZeroForm (codes "z_" ++ r.name) (output_pins (word_net r))

-- the cells that give a wire or a port, or a register, its word
abbrev pub wire_cells : Arch → Resource → List Cell
wire_cells A r = if_driven r (context_cell r ∷ mux_cell A r ∷ []) (zero_cell r ∷ [])

abbrev pub register_cells : Arch → Resource → List Cell
register_cells A r = if_driven r (preselect_cell r ∷ register_cell A r ∷ []) (zero_cell r ∷ [])

-- the cells of a resource of that kind; an out gets its word from its unit
abbrev pub cells_by : Kind → Arch → Resource → List Cell
cells_by Wire A r = wire_cells A r
cells_by Port A r = wire_cells A r
cells_by Register A r = register_cells A r
cells_by Out A r = []

abbrev pub resource_cells : Arch → Resource → List Cell
resource_cells A r = cells_by r.kind A r

-- bit k for the operation of code k
abbrev pub code_bit : Op → ℕ
code_bit op = 2 ^ code op

abbrev pub bit_of : List Op → Op → ℕ
bit_of ops op = if among ops op then code_bit op else 0

-- the bits of these operations
unfoldable pub bits_of : List Op → ℕ
bits_of ops = sum_by (bit_of ops) all_ops

abbrev pub unit_form : Unit → Form
unit_form u = UnitForm (length u.ports) u.latency (bits_of u.ops)

abbrev pub unit_cell : Arch → Unit → Cell
unit_cell A u =
    cell (unit_form u) (codes "u_" ++ u.name) (unit_pins A u)

-- the nets and cells of each resource, and then the cell of each unit
unfoldable pub netlist_of : Arch → NetGraph
netlist_of A = record {
  nets = flat_map nets_of A.resources;
  cells = flat_map (resource_cells A) A.resources ++ map (unit_cell A) A.units;
}
