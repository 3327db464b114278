-- The behaviour of a netlist, cycle by cycle. Each net has a word in each cycle, which is determined by cells and nets.
-- Drivers and selects of the architecture are read for the select of a resource at context and preselect cells alone.
use Rattle.std.specs.Prelude.{ℕ, Bool, zero, suc, ◌+◌, ◌-◌, ◌/◌, ◌%◌, ◌&&◌, bytes_eq, codes, List, [], ◌∷◌, ◌++◌, length, drop, find, Option, Some, None, slice_index_or, slice_get}
use Rattle.std.specs.List.{position_or_len}
use Rattle.std.specs.Option.{option_map_or}
use Rattle.cg_model.specs.declared.array.Resource.{Resource}
use Rattle.cg_model.specs.declared.array.Unit.{Unit}
use Rattle.cg_model.specs.Work.{Image, Work, Left, left}
use Rattle.cg_model.specs.Array.{Arch, unit}
use Rattle.cg_model.specs.Config.{Config, select, fields}
use Rattle.cg_model.specs.Machine.{begun, result_of, memory_by, sent_by_units, missed_by_units, cycles}
use Rattle.cg_netlist.specs.declared.forms.Form.{Form}
use Rattle.cg_netlist.specs.declared.forms.Form.TheVariants.{Context as ContextForm, Preselect as PreselectForm, Mux as MuxForm, Register as RegisterForm, Zero as ZeroForm, FunctionalUnit as UnitForm}
use Rattle.cg_netlist.specs.Netlist.{NetGraph}
use Rattle.cg_gates.specs.Shape.{Shape, shapes, is_unit}

-- ---- names

-- the cell that drives a net: the first whose q it is
abbrev pub driving : List ℕ → List Shape → Option Shape
driving net cells = find (λ (c : Shape). bytes_eq c.q net) cells

-- the name after a letter and `_`: that of the resource or unit to which the instance belongs
abbrev pub stem : List ℕ → List ℕ
stem name = drop 2 name

-- the number of the resource of that name, and that of the unit
unfoldable pub resource_named : Arch → List ℕ → ℕ
resource_named A name = position_or_len (λ (r : Resource). bytes_eq r.name name) A.resources

unfoldable pub unit_named : Arch → List ℕ → ℕ
unit_named A name = position_or_len (λ (u : Unit). bytes_eq u.name name) A.units

-- the instance name of a unit's cell
abbrev pub unit_instance : List ℕ → List ℕ
unit_instance name = codes "u_" ++ name

-- the unit cell with that instance name
abbrev pub is_instance : List ℕ → Shape → Bool
is_instance name c = is_unit c.form && bytes_eq c.name name

-- the nets of its pins a, b and c, as far as it has them
abbrev pub pins_named : List ℕ → List Shape → List (List ℕ)
pins_named name cells = option_map_or (λ (c : Shape). c.ins) (find (is_instance name) cells) []

-- ---- a cycle

-- a past cycle: the word on each net, and the result of the work that each unit began in it, 0 for none
pub record GateCycle : Type 0 where
  pub nets : List ℕ → ℕ
  pub results : ℕ → ℕ

-- the netlist at the start of a cycle
pub record GateState : Type 0 where
  pub past : List GateCycle  -- the cycles that are over, the last one first
  pub memory : List ℕ
  pub streams : ℕ → List ℕ  -- the output streams, by port
  pub outside : ℕ

-- the cycle d cycles ago; before the first cycle all words and results are 0
abbrev pub gates_ago : List GateCycle → ℕ → GateCycle
gates_ago past d = slice_index_or past (d - 1) (record { nets = λ net. 0; results = λ x. 0 })

-- the word on a net, 0 for none
abbrev pub word_on : (List ℕ → ℕ) → Option (List ℕ) → ℕ
word_on words None = 0
word_on words (Some net) = words net

-- net number j, from 1 on; 0 denotes none
abbrev pub way : List (List ℕ) → ℕ → Option (List ℕ)
way nets zero = None
way nets (suc j) = slice_get nets j

-- of the pins s, d1, d2, ..: the word on the d that the word on s numbers, else 0
abbrev pub picked : (List ℕ → ℕ) → List (List ℕ) → ℕ
picked words [] = 0
picked words (s ∷ ds) = word_on words (way ds (words s))

module _ (A : Arch) (N : NetGraph) (C : Config) where
  -- what a cell gives on its q in cycle c, from the words now and the cycles before
  abbrev pub by_form : ℕ → List GateCycle → (List ℕ → ℕ) → List ℕ → List (List ℕ) → Form → ℕ
  by_form c past now name ins (ContextForm w) = select C (resource_named A (stem name)) (c % C.ii)
  by_form c past now name ins (PreselectForm w) = select C (resource_named A (stem name)) ((c + 1) % C.ii)
  by_form c past now name ins (MuxForm k) = picked now ins
  by_form c past now name ins (RegisterForm k) = picked (gates_ago past 1).nets ins
  by_form c past now name ins ZeroForm = 0
  by_form c past now name ins (UnitForm p l h) = (gates_ago past l).results (unit_named A (stem name))

  abbrev pub on_q : ℕ → List GateCycle → (List ℕ → ℕ) → Option Shape → ℕ
  on_q c past now None = 0
  on_q c past now (Some cell) = by_form c past now cell.name cell.ins cell.form

  -- the word on a net in cycle c, after that past; muxes form no ring, so at most `fuel` of them lead to the net
  unfoldable pub net_by : ℕ → List GateCycle → ℕ → List ℕ → ℕ
  net_by c past zero net = 0
  net_by c past (suc fuel) net = on_q c past (net_by c past fuel) (driving net (shapes N))

  abbrev pub nets_in : ℕ → List GateCycle → List ℕ → ℕ
  nets_in c past net = net_by c past (suc (length N.nets)) net

  module _ (n : ℕ) (image : Image) where
    -- the work that each unit begins in the cycle, on the words of its cell's pins
    abbrev pub gate_works : ℕ → List GateCycle → ℕ → Option Work
    gate_works c past x =
        begun (fields C x (c % C.ii)) n (c / C.ii) (λ p. word_on (nets_in c past) (slice_get (pins_named (unit_instance (unit A x).name) (shapes N)) p))

    -- the netlist after cycle c, in which the units begin these works: loads read the memory of the cycle's start, and
    -- stores take effect at its end, in the order of the architecture's units
    abbrev pub gates_after : ℕ → GateState → (ℕ → Option Work) → GateState
    gates_after c s works =
        record {
          past = record { nets = nets_in c s.past; results = λ x. result_of image s.memory (works x) } ∷ s.past;
          memory = memory_by works s.memory (length A.units);
          streams = λ port. s.streams port ++ sent_by_units works port (length A.units);
          outside = s.outside + missed_by_units works (length s.memory) (length A.units);
        }

    -- the netlist at the start of cycle c
    unfoldable pub gates_at : ℕ → GateState
    gates_at zero = record { past = []; memory = image.memory; streams = λ port. []; outside = 0 }
    gates_at (suc c) = gates_after c (gates_at c) (gate_works c (gates_at c).past)

    -- the word on a net in cycle c
    abbrev pub net_word : List ℕ → ℕ → ℕ
    net_word net c = nets_in c (gates_at c).past net

    -- the work that unit x begins in cycle c, and its result
    abbrev pub gate_begins : ℕ → ℕ → Option Work
    gate_begins x c = gate_works c (gates_at c).past x

    abbrev pub gate_result : ℕ → ℕ → ℕ
    gate_result x c = result_of image (gates_at c).memory (gate_begins x c)

    -- the netlist after the whole run
    abbrev pub gates : GateState
    gates = gates_at (cycles C n)

    -- the memory, streams and count that the run leaves
    abbrev pub gates_left : Left
    gates_left = left gates.memory gates.streams gates.outside
