-- Which netlists have a meaning over an architecture, and why others have none.
use Rattle.std.specs.Prelude.{◌≡◌, ◌≢◌, ℕ, ◌+◌, ◌-◌, ◌<◌, ◌≤◌, ◌&&◌, ◌||◌, bytes_eq, eqb, not, if◌then◌else◌, Bool, true, false, List, [], length, drop, map, find, count_by, codes, Option, Some, None, Result, Ok, Err, slice_index, slice_index_or, option_map, Contains}
use Rattle.std.specs.List.{list_all, list_any, position_from}
use Rattle.std.specs.Option.{option_or, option_map_or}
use Rattle.cg_model.specs.First.{first_from, is_before}
use Rattle.cg_model.specs.declared.array.Resource.{Resource}
use Rattle.cg_model.specs.declared.array.Unit.{Unit}
use Rattle.cg_model.specs.Array.{Arch}
use Rattle.cg_flat.specs.Slots.{width}
use Rattle.cg_netlist.specs.declared.forms.Form.{Form}
use Rattle.cg_netlist.specs.declared.forms.Form.TheVariants.{Context as ContextForm, Preselect as PreselectForm, Mux as MuxForm, Register as RegisterForm, Zero as ZeroForm, FunctionalUnit as UnitForm}
use Rattle.cg_netlist.specs.Forms.{begins}
use Rattle.cg_netlist.specs.declared.parts.Net.{Net}
use Rattle.cg_netlist.specs.declared.parts.Pin.{Pin}
use Rattle.cg_netlist.specs.declared.parts.Cell.{Cell}
use Rattle.cg_netlist.specs.Netlist.{NetGraph, select_width, bits_of}
use Rattle.cg_gates.specs.Shape.{Shape, shapes, form_said}
use Rattle.cg_gates.specs.Gates.{stem, unit_instance, is_instance}
use Rattle.cg_gates.specs.declared.fault.GateFault.{GateFault}
use Rattle.cg_gates.specs.declared.fault.GateFault.TheVariants as fault

-- ---- E1 DriverCount: a declared net is the q of not exactly one cell

-- the number of cells that drive a net
abbrev pub driver_count : NetGraph → List ℕ → ℕ
driver_count N net = count_by (λ (c : Shape). bytes_eq c.q net) (shapes N)

abbrev pub is_miscounted : NetGraph → Net → Bool
is_miscounted N net = not (eqb (driver_count N net.name) 1)

-- the name of the first net that isn't driven by exactly one cell
unfoldable pub miscounted : NetGraph → Option (List ℕ)
miscounted N = option_map (λ (n : Net). n.name) (find (is_miscounted N) N.nets)

-- ---- E2 PinNet: a pin clk or rst isn't connected to the net of that name, or another pin to no net of the pin's width

-- the number of drivers among which a form chooses
abbrev pub ways : Form → ℕ
ways (MuxForm k) = k
ways (RegisterForm k) = k
ways _ = 0

-- the width of a form's q: that of the select that it drives, or of a word
abbrev pub output_width : Form → ℕ
output_width (ContextForm w) = w
output_width (PreselectForm w) = w
output_width _ = 32

-- the width of a port: s has the bits that distinguish 0 to K, and all ports except s and q have the width of a word
abbrev pub port_width : Form → List ℕ → ℕ
port_width form port =
    if bytes_eq port (codes "s") then width (ways form) else if bytes_eq port (codes "q") then output_width form else 32

abbrev pub is_clock : List ℕ → Bool
is_clock port = bytes_eq port (codes "clk") || bytes_eq port (codes "rst")

-- a net with that name and that width is declared
abbrev pub has_width : List Net → List ℕ → ℕ → Bool
has_width nets name w = option_map_or (λ (n : Net). eqb n.width w) (find (λ (n : Net). bytes_eq n.name name) nets) false

abbrev pub is_joined_pin : List Net → Form → Pin → Bool
is_joined_pin nets form p = if is_clock p.port then bytes_eq p.net p.port else has_width nets p.net (port_width form p.port)

abbrev pub is_joined : List Net → Cell → Bool
is_joined nets c = list_all (is_joined_pin nets (form_said c)) c.pins

-- the number of the first cell that isn't joined in this way
unfoldable pub misjoined : NetGraph → Option ℕ
misjoined N = first_from (λ i c. not (is_joined N.nets c)) 0 N.cells

-- E1 at its first place, and else E2
unfoldable pub fault_before_loops : NetGraph → Option GateFault
fault_before_loops N = option_or (option_map fault.DriverCount (miscounted N)) (option_map fault.PinNet (misjoined N))

-- ---- E3 MuxLoop: muxes form a ring

-- net number i
abbrev pub net_name : NetGraph → ℕ → List ℕ
net_name N i = (slice_index_or N.nets i (record { name = []; width = 0 })).name

-- the nets that a cell chooses among in the same cycle
abbrev pub data_now : Form → List (List ℕ) → List (List ℕ)
data_now (MuxForm k) ins = drop 1 ins
data_now _ ins = []

-- a mux that drives net q hears net d
pub record Hears (N : NetGraph) (q d : List ℕ) : Type 0 where
  pub cell : Shape
  pub there : Contains (shapes N) cell
  pub drives : cell.q ≡ q
  pub hears : Contains (data_now cell.form cell.ins) d

-- nets that muxes drive, each of which hears the next, and the last the first; none occurs twice, and the net that is
-- declared first is at the front
pub record IsMuxLoop (N : NetGraph) (loop : List ℕ) : Type 0 where
  pub some : 0 < length loop
  pub known : (k : ℕ) → k < length loop → slice_index loop k < length N.nets
  pub once : (j k : ℕ) → j < length loop → k < length loop → slice_index loop j ≡ slice_index loop k → j ≡ k
  pub links : (k : ℕ) → k + 1 < length loop → Hears N (net_name N (slice_index loop k)) (net_name N (slice_index loop (k + 1)))
  pub closed : Hears N (net_name N (slice_index loop (length loop - 1))) (net_name N (slice_index loop 0))
  pub least : (k : ℕ) → k < length loop → slice_index loop 0 ≤ slice_index loop k

abbrev pub HasNoMuxLoop : NetGraph → Type 0
HasNoMuxLoop N = (loop : List ℕ) → IsMuxLoop N loop → ⊥

-- the names of nets by number
abbrev pub names_of : NetGraph → List ℕ → List (List ℕ)
names_of N = map (net_name N)

-- ---- E4 RepeatedInstance: a cell has the name of an earlier one

-- the number of the first cell of that name
abbrev pub cell_named : NetGraph → List ℕ → Option ℕ
cell_named N name = position_from (λ (c : Cell). bytes_eq c.name name) 0 N.cells

unfoldable pub repeated_instance : NetGraph → Option ℕ
repeated_instance N = first_from (λ i (c : Cell). is_before (cell_named N c.name) i) 0 N.cells

-- ---- E5 UnknownInstance: a context or preselect isn't named after a resource of its width, or a unit cell after its unit

-- the name is the prefix followed by the name of a resource with drivers whose select has w bits
abbrev pub gives_select : ℕ → Resource → Bool
gives_select w r = not (eqb (length r.drivers) 0) && eqb (select_width r) w

abbrev pub names_resource : Arch → List ℕ → ℕ → List ℕ → Bool
names_resource A prefix w name =
    begins prefix name && option_map_or (gives_select w) (find (λ (r : Resource). bytes_eq r.name (stem name)) A.resources) false

-- a unit has p ports, latency l and the set h of operations; a name is `u_` followed by the name of a unit with these
abbrev pub is_unit_of : ℕ → ℕ → ℕ → Unit → Bool
is_unit_of p l h u = eqb (length u.ports) p && (eqb u.latency l && eqb (bits_of u.ops) h)

abbrev pub names_unit : Arch → ℕ → ℕ → ℕ → List ℕ → Bool
names_unit A p l h name =
    begins (codes "u_") name && option_map_or (is_unit_of p l h) (find (λ (u : Unit). bytes_eq u.name (stem name)) A.units) false

-- muxes, registers and zeros may have any name
abbrev pub is_known : Arch → List ℕ → Form → Bool
is_known A name (ContextForm w) = names_resource A (codes "c_") w name
is_known A name (PreselectForm w) = names_resource A (codes "p_") w name
is_known A name (MuxForm k) = true
is_known A name (RegisterForm k) = true
is_known A name ZeroForm = true
is_known A name (UnitForm p l h) = names_unit A p l h name

unfoldable pub unknown_instance : Arch → NetGraph → Option ℕ
unknown_instance A N = first_from (λ i (c : Cell). not (is_known A c.name (form_said c))) 0 N.cells

-- ---- E6 MissingUnit: a unit has no cell

abbrev pub has_cell : NetGraph → Unit → Bool
has_cell N u = list_any (is_instance (unit_instance u.name)) (shapes N)

-- the name of the first unit without a cell
unfoldable pub missing_unit : Arch → NetGraph → Option (List ℕ)
missing_unit A N = option_map (λ (u : Unit). u.name) (find (λ u. not (has_cell N u)) A.units)

-- E4 at its first place, else E5, and else E6
unfoldable pub fault_after_loops : Arch → NetGraph → Option GateFault
fault_after_loops A N =
    option_or (option_map fault.RepeatedInstance (repeated_instance N))
    (option_or (option_map fault.UnknownInstance (unknown_instance A N)) (option_map fault.MissingUnit (missing_unit A N)))

-- ---- answers

-- a fault that a netlist has over an architecture: E1 or E2, or else a ring of muxes (E3), any one, or else the lowest
-- of E4 to E6, each at its first place
pub data IsFault (A : Arch) (N : NetGraph) : GateFault → Type 0 where
  early : {f : GateFault} → fault_before_loops N ≡ Some f → IsFault A N f
  a_loop : {loop : List ℕ} → fault_before_loops N ≡ None → IsMuxLoop N loop → IsFault A N (fault.MuxLoop (names_of N loop))
  late : {f : GateFault} → fault_before_loops N ≡ None → HasNoMuxLoop N → fault_after_loops A N ≡ Some f → IsFault A N f

-- a netlist has none of these faults
pub record IsAccepted (A : Arch) (N : NetGraph) : Type 0 where
  pub early : fault_before_loops N ≡ None
  pub no_loop : HasNoMuxLoop N
  pub late : fault_after_loops A N ≡ None

-- a possible answer, except for out of memory
abbrev pub IsGateAnswer : {T : Type 0} → Arch → NetGraph → Result T GateFault → Type 0
IsGateAnswer A N (Ok g) = IsAccepted A N
IsGateAnswer A N (Err f) = f ≢ fault.Memory → IsFault A N f
