-- The properties of a graph of nets and cells.
use Rattle.std.specs.Prelude.{◌≡◌, ◌≢◌, ℕ, ◌<◌, ◌≤◌, ◌⊎◌, true, List, Some, map, slice_get, All, Contains, codes, bytes_eq}
use Rattle.std.specs.List.{IsDistinct}
use Rattle.cg_verilog.specs.Words.{is_name}
use Rattle.cg_netlist.specs.Forms.{Form, form_name, form_ports, IsForm}
use Rattle.cg_netlist.specs.Netlist.{Net, Pin, Cell, NetGraph}

-- the names of nets
abbrev pub names : List Net → List (List ℕ)
names nets = map (λ (n : Net). n.name) nets

-- a net has a name, other than those of the clock and the reset, and 1 to 32 bits
pub record IsNet (n : Net) : Type 0 where
  pub name : is_name n.name ≡ true
  pub no_clock : n.name ≢ codes "clk"
  pub no_reset : n.name ≢ codes "rst"
  pub some : 0 < n.width
  pub wide : n.width ≤ 32

-- a pin is connected to a net, the clock or the reset
abbrev pub IsConnected : List (List ℕ) → Pin → Type 0
IsConnected nets p = Contains nets p.net ⊎ ((p.net ≡ codes "clk") ⊎ (p.net ≡ codes "rst"))

-- a cell has the name and the pins of a form, and its pins are connected to these nets
pub record IsCell (nets : List (List ℕ)) (c : Cell) : Type 0 where
  pub name : is_name c.name ≡ true
  pub form : Form
  pub valid : IsForm form
  pub called : c.«module» ≡ form_name form
  pub ports : map (λ (p : Pin). p.port) c.pins ≡ form_ports form
  pub connected : All (IsConnected nets) c.pins

-- no two nets have the same name
pub record IsNetGraph (G : NetGraph) : Type 0 where
  pub nets : All IsNet G.nets
  pub once : IsDistinct bytes_eq (names G.nets)
  pub cells : All (IsCell (names G.nets)) G.cells

-- nets and cells share one scope (IEEE 1364-2005, 12.7): no two have the same name, and no cell has that of the clock
-- or the reset
pub record HasDistinctNames (G : NetGraph) : Type 0 where
  pub nets : (i j : ℕ) (m n : Net) → slice_get G.nets i ≡ Some m → slice_get G.nets j ≡ Some n →
      m.name ≡ n.name → i ≡ j
  pub cells : (i j : ℕ) (c d : Cell) → slice_get G.cells i ≡ Some c → slice_get G.cells j ≡ Some d →
      c.name ≡ d.name → i ≡ j
  pub apart : (i j : ℕ) (n : Net) (c : Cell) → slice_get G.nets i ≡ Some n →
      slice_get G.cells j ≡ Some c → n.name ≢ c.name
  pub no_clock : (j : ℕ) (c : Cell) → slice_get G.cells j ≡ Some c → c.name ≢ codes "clk"
  pub no_reset : (j : ℕ) (c : Cell) → slice_get G.cells j ≡ Some c → c.name ≢ codes "rst"
