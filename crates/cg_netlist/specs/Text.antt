-- The module as which a graph is printed.
use Rattle.std.specs.Prelude.{ℕ, List, [], ◌∷◌, ◌++◌, map, codes}
use Rattle.std.specs.List.{flat_map}
use Rattle.cg_verilog.specs.Module.{PinText, CellText, WireText, ModuleText}
use Rattle.cg_verilog.specs.Printed.{wire_text, cell_text, pin_text, further_pin_text}
use Rattle.cg_netlist.specs.Netlist.{Net, Pin, Cell, NetGraph}

abbrev pub wire_of : Net → WireText
wire_of n = record { width = n.width; name = n.name }

abbrev pub pin_of : Pin → PinText
pin_of p = record { port = p.port; net = p.net }

-- the cell with these pins; each cell of a graph has at least one
abbrev pub cell_with : Cell → List Pin → CellText
cell_with c [] = record { form = c.«module»; name = c.name; first = record { port = []; net = [] }; rest = [] }
cell_with c (p ∷ ps) = record { form = c.«module»; name = c.name; first = pin_of p; rest = map pin_of ps }

abbrev pub cell_of : Cell → CellText
cell_of c = cell_with c c.pins

-- a wire for each net, and a cell for each cell
abbrev pub module_of : NetGraph → ModuleText
module_of G = record { wires = map wire_of G.nets; cells = map cell_of G.cells }

-- the line of a net, and that of a cell
abbrev pub net_line : Net → List ℕ
net_line n = wire_text (wire_of n)

abbrev pub cell_line : Cell → List ℕ
cell_line c = cell_text (cell_of c)

-- the text before the pins of a cell
abbrev pub head_text : List ℕ → List ℕ → List ℕ
head_text form name = codes "  " ++ (form ++ (codes " " ++ (name ++ codes " (")))

-- the printed text of a pin: the first one, and a further one
abbrev pub first_text : Pin → List ℕ
first_text p = pin_text (pin_of p)

abbrev pub further_text : Pin → List ℕ
further_text p = further_pin_text (pin_of p)

-- all pins of a cell
abbrev pub pins_text : List Pin → List ℕ
pins_text [] = []
pins_text (p ∷ ps) = first_text p ++ flat_map further_text ps
