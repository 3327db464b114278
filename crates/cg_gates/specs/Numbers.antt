-- Maps from names to numbers.
use Rattle.std.specs.Prelude.{◌≡◌, ◌≢◌, ◌<◌, ◌^◌, ℕ, Bool, List, length, Option, String, bytes_eq, count_by, eqb, is_some, not, unwrap_or}
use Rattle.std.specs.List.{position_from}
use Rattle.std.specs.declared.alloc.Global.{Global}
use Rattle.indexmap.specs.IndexMap.{IndexMap}
use Rattle.cg_reading.specs.Numbers.{found_in}
use Rattle.cg_model.specs.First.{is_before}
use Rattle.cg_model.specs.Array.{Arch}
use Rattle.cg_model.specs.declared.array.Resource.{Resource}
use Rattle.cg_model.specs.declared.array.Unit.{Unit}
use Rattle.std.specs.Option.{option_map, option_or}
use Rattle.cg_netlist.specs.Netlist.{NetGraph}
use Rattle.cg_netlist.specs.Graph.{IsNetGraph}
use Rattle.cg_netlist.specs.declared.parts.Net.{Net}
use Rattle.cg_netlist.specs.declared.parts.Cell.{Cell}
use Rattle.cg_gates.specs.Shape.{Shape, shapes, form_said}
use Rattle.cg_gates.specs.Gates.{unit_instance}
use Rattle.cg_gates.specs.Accepts.{is_joined, is_known, IsMuxLoop, names_of, missing_unit, unknown_instance}
use Rattle.cg_gates.specs.declared.fault.GateFault.{GateFault}
use Rattle.cg_gates.specs.declared.fault.GateFault.TheVariants as fault

-- a map has, for each name, the number of the first item that passes a test
pub record AreFirst {S T : Type 0} (numbers : IndexMap (String Global) ℕ S) (test : List ℕ → T → Bool) (items : List T) : Type 0 where
  pub found : (name : List ℕ) → found_in numbers name ≡ position_from (test name) 0 items

-- the test of a name among items that have names
abbrev pub by_name : {T : Type 0} → (T → List ℕ) → List ℕ → T → Bool
by_name own name item = bytes_eq (own item) name

-- the test of a net among the cells that drive nets
abbrev pub by_net : List ℕ → Shape → Bool
by_net net c = bytes_eq c.q net

-- how often a map has counted a name
abbrev pub counted : {S : Type 0} → IndexMap (String Global) ℕ S → List ℕ → ℕ
counted counts name = unwrap_or (found_in counts name) 0

-- a map has the number of cells that drive each net
pub record AreCounts {S : Type 0} (counts : IndexMap (String Global) ℕ S) (cells : List Shape) : Type 0 where
  pub found : (net : List ℕ) → counted counts net ≡ count_by (by_net net) cells

-- a net's count isn't 1
abbrev pub is_uncounted : {S : Type 0} → IndexMap (String Global) ℕ S → Net → Bool
is_uncounted counts net = not (eqb (counted counts net.name) 1)

-- a map has the numbers of nets, of cells, of resources or of units by their names
abbrev pub AreNets : {S : Type 0} → IndexMap (String Global) ℕ S → List Net → Type 0
AreNets numbers nets = AreFirst numbers (by_name (λ (n : Net). n.name)) nets

abbrev pub AreCells : {S : Type 0} → IndexMap (String Global) ℕ S → List Cell → Type 0
AreCells numbers cells = AreFirst numbers (by_name (λ (c : Cell). c.name)) cells

abbrev pub AreResources : {S : Type 0} → IndexMap (String Global) ℕ S → List Resource → Type 0
AreResources numbers resources = AreFirst numbers (by_name (λ (r : Resource). r.name)) resources

abbrev pub AreUnits : {S : Type 0} → IndexMap (String Global) ℕ S → List Unit → Type 0
AreUnits numbers units = AreFirst numbers (by_name (λ (u : Unit). u.name)) units

-- a cell has a pin on a net that isn't allowed for it
abbrev pub is_misjoined : List Net → ℕ → Cell → Bool
is_misjoined nets i c = not (is_joined nets c)

-- a cell has the same name as an earlier one
abbrev pub is_repeated : List Cell → ℕ → Cell → Bool
is_repeated cells i c = is_before (position_from (λ (d : Cell). bytes_eq d.name c.name) 0 cells) i

-- a cell has no name that is allowed for its form
abbrev pub is_unknown : Arch → ℕ → Cell → Bool
is_unknown A i c = not (is_known A c.name (form_said c))

-- a unit's cell has no number by its name
abbrev pub has_no_number : {S : Type 0} → IndexMap (String Global) ℕ S → Unit → Bool
has_no_number cells u = not (is_some (found_in cells (unit_instance u.name)))

-- E5 at its first place, and else E6
abbrev pub unknown_or_missing : Arch → NetGraph → Option GateFault
unknown_or_missing A N = option_or (option_map fault.UnknownInstance (unknown_instance A N)) (option_map fault.MissingUnit (missing_unit A N))

-- a netlist's nets have numbers of 32 bits, one of which is unused, and the nets and the cells that drive them are
-- found by name
pub record IsIndexed {S : Type 0} (N : NetGraph) (numbers drivers : IndexMap (String Global) ℕ S) : Type 0 where
  pub valid : IsNetGraph N
  pub few : length N.nets < 2 ^ 32
  pub named : AreNets numbers N.nets
  pub driven : AreFirst drivers by_net (shapes N)

-- a fault names a ring of muxes, except for out of memory
abbrev pub IsRingFault : NetGraph → GateFault → Type 0
IsRingFault N f = f ≢ fault.Memory → (loop : List ℕ) × IsMuxLoop N loop × (f ≡ fault.MuxLoop (names_of N loop))
