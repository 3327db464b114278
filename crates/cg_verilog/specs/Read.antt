-- The relation of a read module or fault to the tokens before and after reading.
use Rattle.std.specs.Prelude.{◌≡◌, ℕ, Bool, false, List, [], ◌∷◌, ◌++◌, map, Some, None, Result, Ok, Err}
use Rattle.cg_tokens.specs.Tokens.{tokens_at, texts}
use Rattle.cg_tokens.specs.Table.{run}
use Rattle.cg_verilog.specs.declared.reader.Reader.{Reader}
use Rattle.cg_verilog.specs.declared.fault.Misfit.{Misfit}
use Rattle.cg_verilog.specs.declared.fault.Misfit.TheVariants.{Memory, Text}
use Rattle.cg_verilog.specs.declared.fault.ModuleFault.{ModuleFault}
use Rattle.cg_verilog.specs.declared.fault.ModuleFault.TheVariants as faults
use Rattle.cg_tokens.specs.Faults.{FaultIn}
use Rattle.cg_verilog.specs.declared.module.Pin.{Pin}
use Rattle.cg_verilog.specs.declared.module.Cell.{Cell}
use Rattle.cg_verilog.specs.declared.module.Wire.{Wire}
use Rattle.cg_verilog.specs.declared.module.Module.{Module}
use Rattle.cg_verilog.specs.Words.{same}
use Rattle.cg_verilog.specs.Module.{PinText, CellText, WireText, ModuleText, IsText}
use Rattle.cg_verilog.specs.Rules.{Symbol, rule, start}

-- the texts of the tokens that a reader has left
abbrev pub left : Reader → List (List ℕ)
left r = texts (tokens_at None r.bytes.now r.at)

abbrev pub begins_with : List ℕ → List (List ℕ) → Bool
begins_with s [] = false
begins_with s (t ∷ rest) = same t s

-- whatever has to follow the symbols, the tokens continue with them up to `new`, and no further
pub record Stops (symbols : List Symbol) (old new : List (List ℕ)) : Type 0 where
  pub ran : (stack : List Symbol) → run rule (symbols ++ stack) old ≡ Some new

abbrev pub Misses : Misfit → List Symbol → List (List ℕ) → List (List ℕ) → Type 0
Misses Memory symbols old new = Unit {0}
Misses Text symbols old new = Stops symbols old new

-- the same for a whole text
abbrev pub MissesText : Misfit → List (List ℕ) → List (List ℕ) → Type 0
MissesText Memory old new = Unit {0}
MissesText Text old new = run rule start old ≡ Some new

abbrev pub pin_of : Pin → PinText
pin_of p = record { port = p.port.now; net = p.net.now }

abbrev pub wire_of : Wire → WireText
wire_of w = record { width = w.width; name = w.name.now }

abbrev pub cell_of : Cell → CellText
cell_of c = record { form = c.form.now; name = c.name.now; first = pin_of c.first; rest = map pin_of c.rest.items }

abbrev pub module_of : Module → ModuleText
module_of m = record { wires = map wire_of m.wires.items; cells = map cell_of m.cells.items }

abbrev pub IsFault : ModuleFault → List ℕ → Type 0
IsFault faults.Memory bytes = Unit {0}
IsFault (faults.Text place) bytes = FaultIn None IsText bytes place

-- unless memory ran out, this module was read
abbrev pub Gives : ModuleText → Result Module ModuleFault → Type 0
Gives m (Ok r) = module_of r ≡ m
Gives m (Err e) = e ≡ faults.Memory
