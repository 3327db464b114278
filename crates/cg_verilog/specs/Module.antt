-- A structural module, whatever its names denote, and its tokens. The syntax is a part of that of IEEE 1364-2005,
-- clause 12: wires, and cells with their pins by name.
use Rattle.std.specs.Prelude.{◌≡◌, ◌<◌, ◌≤◌, ◌-◌, ℕ, List, [], ◌∷◌, ◌++◌, codes, decimal, true}
use Rattle.std.specs.List.{flat_map, AllByRecursion}
use Rattle.cg_verilog.specs.Words.{is_name}

-- .port(net)
pub record PinText : Type 0 where
  pub port : List ℕ
  pub net : List ℕ

-- a cell of a form, with at least one pin
pub record CellText : Type 0 where
  pub form : List ℕ
  pub name : List ℕ
  pub first : PinText
  pub rest : List PinText

-- a net of `width` bits
pub record WireText : Type 0 where
  pub width : ℕ
  pub name : List ℕ

pub record ModuleText : Type 0 where
  pub wires : List WireText
  pub cells : List CellText

-- all pins of a cell
abbrev pub pins_of : CellText → List PinText
pins_of c = c.first ∷ c.rest

pub record IsPin (p : PinText) : Type 0 where
  pub port : is_name p.port ≡ true
  pub net : is_name p.net ≡ true

pub record IsCell (c : CellText) : Type 0 where
  pub form : is_name c.form ≡ true
  pub name : is_name c.name ≡ true
  pub first : IsPin c.first
  pub rest : AllByRecursion IsPin c.rest

pub record IsWire (w : WireText) : Type 0 where
  pub some : 0 < w.width
  pub most : w.width ≤ 32
  pub name : is_name w.name ≡ true

-- its names are names, and its wires have 1 to 32 bits
pub record IsModule (m : ModuleText) : Type 0 where
  pub wires : AllByRecursion IsWire m.wires
  pub cells : AllByRecursion IsCell m.cells

-- module cgra_array (clk, rst);
abbrev pub title : List (List ℕ)
title = codes "module" ∷ codes "cgra_array" ∷ []

abbrev pub clocks : List (List ℕ)
clocks = codes "(" ∷ codes "clk" ∷ codes "," ∷ codes "rst" ∷ codes ")" ∷ codes ";" ∷ []

-- input name;
abbrev pub input : List ℕ → List (List ℕ)
input name = codes "input" ∷ name ∷ codes ";" ∷ []

abbrev pub header : List (List ℕ)
header = title ++ (clocks ++ (input (codes "clk") ++ input (codes "rst")))

-- wire [31:0] name;
abbrev pub wire_tokens : WireText → List (List ℕ)
wire_tokens w = codes "wire" ∷ codes "[" ∷ decimal (w.width - 1) ∷ codes ":" ∷ codes "0" ∷ codes "]" ∷ w.name ∷ codes ";" ∷ []

abbrev pub pin_tokens : PinText → List (List ℕ)
pin_tokens p = codes "." ∷ p.port ∷ codes "(" ∷ p.net ∷ codes ")" ∷ []

abbrev pub further_pin : PinText → List (List ℕ)
further_pin p = codes "," ∷ pin_tokens p

-- form name (.port(net), .port(net));
abbrev pub cell_tokens : CellText → List (List ℕ)
cell_tokens c = c.form ∷ c.name ∷ codes "(" ∷ (pin_tokens c.first ++ (flat_map further_pin c.rest ++ (codes ")" ∷ codes ";" ∷ [])))

-- the tokens after the header
abbrev pub lines_tokens : ModuleText → List (List ℕ)
lines_tokens m = flat_map wire_tokens m.wires ++ (flat_map cell_tokens m.cells ++ (codes "endmodule" ∷ []))

abbrev pub module_tokens : ModuleText → List (List ℕ)
module_tokens m = header ++ lines_tokens m

-- the tokens are those of a module
abbrev pub IsText : List (List ℕ) → Type 0
IsText tokens = (m : ModuleText) × IsModule m × (tokens ≡ module_tokens m)
