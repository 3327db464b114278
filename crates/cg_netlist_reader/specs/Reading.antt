-- The netlist that a text of structural Verilog encodes, and why a text encodes none.
use Rattle.std.specs.Prelude.{◌≡◌, ℕ, ◌<◌, ◌⊎◌, Bool, List, [], ◌∷◌, ◌++◌, map, All, codes, bytes_eq, not, Option, Some, None, Result, Ok, Err, find, length, slice_index_or, if◌then◌else◌}
use Rattle.std.specs.List.{list_any, flat_map}
use Rattle.std.specs.Option.{option_or}
use Rattle.cg_tokens.specs.Tokens.{tokens_of, texts}
use Rattle.cg_tokens.specs.Faults.{FaultIn}
use Rattle.cg_verilog.specs.Module.{IsModule, IsText, module_tokens}
use Rattle.cg_netlist.specs.declared.forms.Form.{Form}
use Rattle.cg_netlist.specs.Forms.{form_name, form_ports, IsForm}
use Rattle.cg_netlist_reader.specs.declared.fault.VerilogFault.{VerilogFault}
use Rattle.cg_netlist_reader.specs.declared.fault.VerilogFault.TheVariants as faults
use Rattle.cg_netlist.specs.declared.parts.Pin.{Pin}
use Rattle.cg_netlist.specs.declared.parts.Cell.{Cell}
use Rattle.cg_netlist.specs.Netlist.{NetGraph}
use Rattle.cg_netlist.specs.Graph.{names, IsNetGraph}
use Rattle.cg_netlist.specs.Text.{module_of}

-- the bytes encode these nets and cells, whatever these denote
pub record Spells (bytes : List ℕ) (G : NetGraph) : Type 0 where
  pub valid : IsModule (module_of G)
  pub tokens : texts (tokens_of None bytes) ≡ module_tokens (module_of G)

-- ---- cells

abbrev pub ports : Cell → List (List ℕ)
ports c = map (λ (p : Pin). p.port) c.pins

-- the cell has the name of this form, and the form's pins in order
pub record IsOf (c : Cell) (f : Form) : Type 0 where
  pub valid : IsForm f
  pub called : c.«module» ≡ form_name f
  pub ports : ports c ≡ form_ports f

abbrev pub IsFormed : Cell → Type 0
IsFormed c = (f : Form) × IsOf c f

-- cell i is the first that has no form
pub record IsUnknownCell (cells : List Cell) (i : ℕ) : Type 0 where
  pub within : i < length cells
  pub before : (j : ℕ) (d : Cell) → j < i → IsFormed (slice_index_or cells j d)
  pub there : (d : Cell) → IsFormed (slice_index_or cells i d) → ⊥

-- ---- nets

-- the clock and the reset
abbrev pub given : List (List ℕ)
given = codes "clk" ∷ codes "rst" ∷ []

abbrev pub has : List (List ℕ) → List ℕ → Bool
has names name = list_any (λ n. bytes_eq n name) names

-- the first name that occurs among `seen` or the names before it
abbrev pub repeated : List (List ℕ) → List (List ℕ) → Option (List ℕ)
repeated seen [] = None
repeated seen (name ∷ names) = if has seen name then Some name else repeated (seen ++ name ∷ []) names

-- the first name that doesn't occur among `known`
abbrev pub unknown : List (List ℕ) → List (List ℕ) → Option (List ℕ)
unknown known names = find (λ name. not (has known name)) names

-- the net of a pin, and the nets of a cell's pins
abbrev pub pin_net : Pin → List (List ℕ)
pin_net p = p.net ∷ []

abbrev pub pin_nets : Cell → List (List ℕ)
pin_nets c = flat_map pin_net c.pins

-- the first net that is declared again; else the first pin's net that isn't declared
abbrev pub unknown_net : NetGraph → Option (List ℕ)
unknown_net G = option_or (repeated given (names G.nets)) (unknown (given ++ names G.nets) (flat_map pin_nets G.cells))

-- ---- answers

-- why the bytes are not a valid netlist: the fault with the lowest number, at its first place
abbrev pub IsFault : VerilogFault → List ℕ → Type 0
IsFault faults.Memory bytes = Unit {0}
IsFault (faults.Text place) bytes = FaultIn None IsText bytes place
IsFault (faults.UnknownCell i) bytes = (G : NetGraph) × Spells bytes G × IsUnknownCell G.cells i
IsFault (faults.UnknownNet name) bytes = (G : NetGraph) × Spells bytes G × All IsFormed G.cells × (unknown_net G ≡ Some name)

-- unless memory ran out, this graph was read
abbrev pub Gives : NetGraph → Result NetGraph VerilogFault → Type 0
Gives G (Ok H) = H ≡ G
Gives G (Err e) = e ≡ faults.Memory

-- unless memory ran out, this fault was the result
abbrev pub GivesFault : VerilogFault → Result NetGraph VerilogFault → Type 0
GivesFault e r = (r ≡ Err e) ⊎ (r ≡ Err faults.Memory)

-- a valid graph that the bytes encode, or a fault that they have, or out of memory
abbrev pub IsAnswer : List ℕ → Result NetGraph VerilogFault → Type 0
IsAnswer bytes (Ok G) = IsNetGraph G × Spells bytes G
IsAnswer bytes (Err e) = IsFault e bytes
