-- The grammar as a table: each rule begins with a token.
use Rattle.std.specs.Prelude.{◌≡◌, ◌<◌, ◌+◌, ◌-◌, ◌*◌, ℕ, Bool, true, false, ◌&&◌, ◌||◌, ◌==◌, nat_le, List, [], ◌∷◌, ◌++◌, map, codes, decimal, Option, Some, None, if◌then◌else◌}
use Rattle.std.specs.Char.{is_ascii_digit}
use Rattle.std.specs.List.{flat_map, AllByRecursion}
use Rattle.cg_verilog.specs.Words.{same, is_name}
use Rattle.cg_verilog.specs.Module.{PinText, CellText, WireText, IsPin, IsCell, IsWire, header, further_pin, cell_tokens, wire_tokens}

-- a token, any name, the number of a width, the further pins of a cell, the cells, and the wires and cells
pub data Symbol : Type 0 where
  Exactly : List ℕ → Symbol
  Name Top Pins Cells Lines : Symbol

-- the greatest bit of a net: a number up to 31 with no leading zero
abbrev pub is_top : List ℕ → Bool
is_top [] = false
is_top (d ∷ []) = is_ascii_digit d
is_top (d ∷ e ∷ []) = is_ascii_digit e && (d == 49 || d == 50 || (d == 51 && nat_le e 49))
is_top (d ∷ e ∷ f ∷ rest) = false

-- the number that this text writes
abbrev pub top_number : List ℕ → ℕ
top_number [] = 0
top_number (d ∷ []) = d - 48
top_number (d ∷ e ∷ rest) = 10 * (d - 48) + (e - 48)

abbrev pub pin_rule : List Symbol
pin_rule = Exactly (codes ".") ∷ Name ∷ Exactly (codes "(") ∷ Name ∷ Exactly (codes ")") ∷ []

abbrev pub wire_rule : List Symbol
wire_rule = Exactly (codes "[") ∷ Top ∷ Exactly (codes ":") ∷ Exactly (codes "0") ∷ Exactly (codes "]") ∷ Name ∷ Exactly (codes ";") ∷ []

abbrev pub cell_rule : List Symbol
cell_rule = Name ∷ Exactly (codes "(") ∷ (pin_rule ++ (Pins ∷ []))

-- the whole text
abbrev pub start : List Symbol
start = map Exactly header ++ (Lines ∷ [])

abbrev pub rule : Symbol → List ℕ → Option (List Symbol)
rule (Exactly s) t = if same t s then Some [] else None
rule Name t = if is_name t then Some [] else None
rule Top t = if is_top t then Some [] else None
rule Pins t = if same t (codes ",") then Some (pin_rule ++ (Pins ∷ [])) else (if same t (codes ")") then Some (Exactly (codes ";") ∷ []) else None)
rule Cells t = if same t (codes "endmodule") then Some [] else (if is_name t then Some (cell_rule ++ (Cells ∷ [])) else None)
rule Lines t = if same t (codes "wire") then Some (wire_rule ++ (Lines ∷ [])) else (if same t (codes "endmodule") then Some [] else (if is_name t then Some (cell_rule ++ (Cells ∷ [])) else None))

abbrev pub pins_end : List (List ℕ)
pins_end = codes ")" ∷ codes ";" ∷ []

abbrev pub cells_end : List (List ℕ)
cells_end = codes "endmodule" ∷ []

-- the tokens that each symbol generates
abbrev pub Spells : Symbol → List (List ℕ) → Type 0
Spells (Exactly s) ts = ts ≡ s ∷ []
Spells Name ts = (t : List ℕ) × (is_name t ≡ true) × (ts ≡ t ∷ [])
Spells Top ts = (n : ℕ) × (n < 32) × (ts ≡ decimal n ∷ [])
Spells Pins ts = (pins : List PinText) × AllByRecursion IsPin pins × (ts ≡ flat_map further_pin pins ++ pins_end)
Spells Cells ts = (cells : List CellText) × AllByRecursion IsCell cells × (ts ≡ flat_map cell_tokens cells ++ cells_end)
Spells Lines ts = (wires : List WireText) × (cells : List CellText) × AllByRecursion IsWire wires × AllByRecursion IsCell cells × (ts ≡ flat_map wire_tokens wires ++ (flat_map cell_tokens cells ++ cells_end))
