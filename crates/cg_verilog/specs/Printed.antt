-- The text of a module as it is printed, line by line.
use Rattle.std.specs.Prelude.{ℕ, ◌-◌, List, [], ◌∷◌, ◌++◌, codes, decimal}
use Rattle.std.specs.List.{flat_map}
use Rattle.cg_verilog.specs.Module.{PinText, CellText, WireText, ModuleText}

-- a line with its line feed
abbrev pub line : List ℕ → List ℕ
line text = text ++ 10 ∷ []

abbrev pub header_text : List ℕ
header_text = line (codes "module cgra_array (clk, rst);") ++ line (codes "  input clk;") ++ line (codes "  input rst;")

-- wire [31:0] name;
abbrev pub wire_text : WireText → List ℕ
wire_text w = line (codes "  wire [" ++ decimal (w.width - 1) ++ codes ":0] " ++ w.name ++ codes ";")

-- .port(net)
abbrev pub pin_text : PinText → List ℕ
pin_text p = codes "." ++ p.port ++ codes "(" ++ p.net ++ codes ")"

abbrev pub further_pin_text : PinText → List ℕ
further_pin_text p = codes ", " ++ pin_text p

-- form name (.port(net), .port(net));
abbrev pub cell_text : CellText → List ℕ
cell_text c = line (codes "  " ++ c.form ++ codes " " ++ c.name ++ codes " (" ++ pin_text c.first ++ flat_map further_pin_text c.rest ++ codes ");")

abbrev pub module_text : ModuleText → List ℕ
module_text m = header_text ++ flat_map wire_text m.wires ++ flat_map cell_text m.cells ++ line (codes "endmodule")
