-- The names of ports, and the nets and cells of a module's text.
use Rattle.std.specs.Prelude.{ℕ, List, map, codes}
use Rattle.cg_verilog.specs.declared.module.Pin.{Pin as PinLent}
use Rattle.cg_verilog.specs.Module.{PinText, CellText, WireText, ModuleText, pins_of}
use Rattle.cg_netlist.specs.Forms.{driver_port, argument_port}
use Rattle.cg_netlist.specs.declared.parts.Net.{Net}
use Rattle.cg_netlist.specs.declared.parts.Pin.{Pin}
use Rattle.cg_netlist.specs.declared.parts.Cell.{Cell}
use Rattle.cg_netlist.specs.Netlist.{NetGraph}
use Rattle.cg_netlist_reader.specs.declared.port.Port.{Port}
use Rattle.cg_netlist_reader.specs.declared.port.Port.TheVariants.{Clock, Reset, Select, Driver, Argument, Output}

abbrev pub port_text : Port → List ℕ
port_text Clock = codes "clk"
port_text Reset = codes "rst"
port_text Select = codes "s"
port_text (Driver n) = driver_port n
port_text (Argument n) = argument_port n
port_text Output = codes "q"

-- the ports of pins that are borrowed from a text
abbrev pub lent_ports : List PinLent → List (List ℕ)
lent_ports pins = map (λ (p : PinLent). p.port.now) pins

abbrev pub net_taken : WireText → Net
net_taken w = record { name = w.name; width = w.width }

abbrev pub pin_taken : PinText → Pin
pin_taken p = record { port = p.port; net = p.net }

abbrev pub cell_taken : CellText → Cell
cell_taken c = record { «module» = c.form; name = c.name; pins = map pin_taken (pins_of c) }

abbrev pub graph_taken : ModuleText → NetGraph
graph_taken m = record { nets = map net_taken m.wires; cells = map cell_taken m.cells }
