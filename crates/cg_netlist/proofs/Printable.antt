-- A graph of nets and cells is printed as a module.
use Rattle.std.proofs.Common.{◌≡◌, ℕ, zero, suc, ◌+◌, ◌<◌, ◌≤◌, ⊎_elim, true, List, [], ◌∷◌, ◌++◌, length, map, refl, ap, sym, ◌∙◌, subst, arith}
use Rattle.std.specs.Prelude.{All, codes}
use Rattle.std.specs.List.{AllByRecursion, range_with_len}
use Rattle.std.proofs.lemmas.List.{length-map}
use Rattle.std.proofs.lemmas.List.Elements.{All-nil, All-cons, All-append, All-head, All-tail, All-contains, All-weaker, recursion_from_All}
use Rattle.cg_verilog.specs.Words.{is_name}
use Rattle.cg_verilog.specs.Module as text
use Rattle.cg_netlist.specs.Forms.{Form, ContextForm, PreselectForm, MuxForm, RegisterForm, ZeroForm, UnitForm, form_ports, IsForm, driver_port, argument_port}
use Rattle.cg_netlist.specs.Netlist.{Net, Pin, Cell, NetGraph}
use Rattle.cg_netlist.specs.Graph.{names, IsNet, IsConnected, IsCell, IsNetGraph}
use Rattle.cg_netlist.specs.Built.{HasBits, HasPins}
use Rattle.cg_netlist.specs.Text.{wire_of, pin_of, cell_with, cell_of, module_of}
use Rattle.cg_netlist.proofs.Letters.{form_name_is, driver_port_is, argument_port_is}
use Rattle.cg_netlist.proofs.Ports.{ports}

abbrev pub IsToken : List ℕ → Type 0
IsToken name = is_name name ≡ true

-- ---- ports

drivers_named : (k n : ℕ) → All IsToken (map driver_port (range_with_len k n))
drivers_named k zero = All-nil IsToken
drivers_named k (suc n) = All-cons IsToken (driver_port k) (map driver_port (range_with_len (k + 1) n)) (driver_port_is k) (drivers_named (k + 1) n)

arguments_named : (p n : ℕ) → p + n ≤ 3 → All IsToken (map argument_port (range_with_len p n))
arguments_named p zero few = All-nil IsToken
arguments_named p (suc n) few =
    All-cons IsToken (argument_port p) (map argument_port (range_with_len (p + 1) n)) (argument_port_is p (omega arith)) (arguments_named (p + 1) n (omega arith))

one : (name : List ℕ) → IsToken name → All IsToken (name ∷ [])
one name is = All-cons IsToken name [] is (All-nil IsToken)

before : (name : List ℕ) (more : List (List ℕ)) → IsToken name → All IsToken more → All IsToken (name ∷ more)
before name more is all = All-cons IsToken name more is all

clocked : (more : List (List ℕ)) → All IsToken more → All IsToken (codes "clk" ∷ codes "rst" ∷ more)
clocked more all = before (codes "clk") (codes "rst" ∷ more) refl (before (codes "rst") more refl all)

chosen : (k : ℕ) → All IsToken (codes "s" ∷ (map driver_port (range_with_len 1 k) ++ codes "q" ∷ []))
chosen k = before (codes "s") (map driver_port (range_with_len 1 k) ++ codes "q" ∷ []) refl (All-append IsToken (map driver_port (range_with_len 1 k)) (codes "q" ∷ []) (drivers_named 1 k) (one (codes "q") refl))

ports_named : (f : Form) → IsForm f → All IsToken (form_ports f)
ports_named (ContextForm w) h = clocked (codes "q" ∷ []) (one (codes "q") refl)
ports_named (PreselectForm w) h = clocked (codes "q" ∷ []) (one (codes "q") refl)
ports_named (MuxForm k) h = chosen k
ports_named (RegisterForm k) h = clocked (codes "s" ∷ (map driver_port (range_with_len 1 k) ++ codes "q" ∷ [])) (chosen k)
ports_named ZeroForm h = one (codes "q") refl
ports_named (UnitForm p l b) h =
    clocked (map argument_port (range_with_len 0 p) ++ codes "q" ∷ [])
    (All-append IsToken (map argument_port (range_with_len 0 p)) (codes "q" ∷ []) (arguments_named 0 p (let few = h.0 in omega (arith, few))) (one (codes "q") refl))

-- each form has a port
some_port : (f : Form) → 0 < length (form_ports f)
some_port (ContextForm w) = omega arith
some_port (PreselectForm w) = omega arith
some_port (MuxForm k) = omega arith
some_port (RegisterForm k) = omega arith
some_port ZeroForm = omega arith
some_port (UnitForm p l b) = omega arith

-- and so each cell has a pin
pub some_pin : (nets : List (List ℕ)) (c : Cell) → IsCell nets c → 0 < length c.pins
some_pin nets c h =
    let some = some_port h.form in
    let same : length (ports c.pins) ≡ length (form_ports h.form) = ap length h.ports in
    let all : length (ports c.pins) ≡ length c.pins = length-map c.pins (λ (p : Pin). p.port) in
    omega (arith, some, same, all)

-- ---- pins

all_named : (pins : List Pin) → All IsToken (ports pins) → All (λ (p : Pin). IsToken p.net) pins → All text.IsPin (map pin_of pins)
all_named [] ps ns = All-nil text.IsPin
all_named (p ∷ pins) ps ns =
    All-cons text.IsPin (pin_of p) (map pin_of pins)
    (record { port = All-head IsToken p.port (ports pins) ps; net = All-head (λ (q : Pin). IsToken q.net) p pins ns })
    (all_named pins (All-tail IsToken p.port (ports pins) ps) (All-tail (λ (q : Pin). IsToken q.net) p pins ns))

net_named : (nets : List (List ℕ)) (p : Pin) → All IsToken nets → IsConnected nets p → IsToken p.net
net_named nets p all has =
    ⊎_elim (λ h. All-contains IsToken nets p.net all h)
    (λ h. ⊎_elim (λ e. ap is_name e) (λ e. ap is_name e) h)
    has

nets_named : (nets : List (List ℕ)) (pins : List Pin) → All IsToken nets → All (IsConnected nets) pins → All (λ (p : Pin). IsToken p.net) pins
nets_named nets [] all has = All-nil (λ (p : Pin). IsToken p.net)
nets_named nets (p ∷ pins) all has =
    All-cons (λ (q : Pin). IsToken q.net) p pins (net_named nets p all (All-head (IsConnected nets) p pins has)) (nets_named nets pins all (All-tail (IsConnected nets) p pins has))

cell_with_is : (c : Cell) (pins : List Pin) → IsToken c.«module» → IsToken c.name → 0 < length pins → All text.IsPin (map pin_of pins) → text.IsCell (cell_with c pins)
cell_with_is c [] form name some all = absurd (omega arith)
cell_with_is c (p ∷ pins) form name some all = record {
  form = form;
  name = name;
  first = All-head text.IsPin (pin_of p) (map pin_of pins) all;
  rest = recursion_from_All text.IsPin (map pin_of pins) (All-tail text.IsPin (pin_of p) (map pin_of pins) all);
}

cell_is : (nets : List (List ℕ)) (c : Cell) → All IsToken nets → IsCell nets c → text.IsCell (cell_of c)
cell_is nets c all h =
    let P : List (List ℕ) → Type 0 = λ ns. All IsToken ns in
    cell_with_is c c.pins (ap is_name h.called ∙ form_name_is h.form) h.name (some_pin nets c h)
    (all_named c.pins (subst P (sym h.ports) (ports_named h.form h.valid)) (nets_named nets c.pins all h.connected))

-- ---- the whole

wires_are : (nets : List Net) → All IsNet nets → AllByRecursion text.IsWire (map wire_of nets)
wires_are [] all = tt
wires_are (n ∷ nets) all =
    let first = All-head IsNet n nets all in
    (record { some = first.some; most = first.wide; name = first.name }, wires_are nets (All-tail IsNet n nets all))

names_are : (nets : List Net) → All IsNet nets → All IsToken (names nets)
names_are [] all = All-nil IsToken
names_are (n ∷ nets) all = All-cons IsToken n.name (names nets) (All-head IsNet n nets all).name (names_are nets (All-tail IsNet n nets all))

cells_are : (nets : List (List ℕ)) (cells : List Cell) → All IsToken nets → All (IsCell nets) cells → AllByRecursion text.IsCell (map cell_of cells)
cells_are nets [] named all = tt
cells_are nets (c ∷ cells) named all = (cell_is nets c named (All-head (IsCell nets) c cells all), cells_are nets cells named (All-tail (IsCell nets) c cells all))

pub is_module : (G : NetGraph) → IsNetGraph G → text.IsModule (module_of G)
is_module G h = record {
  wires = wires_are G.nets h.nets;
  cells = cells_are (names G.nets) G.cells (names_are G.nets h.nets) h.cells;
}

-- ---- what is asked of what is printed

pub all_bits : (G : NetGraph) → IsNetGraph G → All HasBits G.nets
all_bits G h = All-weaker IsNet HasBits (λ n k. k.some) G.nets h.nets

pub all_pins : (G : NetGraph) → IsNetGraph G → All HasPins G.cells
all_pins G h = All-weaker (IsCell (names G.nets)) HasPins (some_pin (names G.nets)) G.cells h.cells
