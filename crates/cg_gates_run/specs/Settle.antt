-- The words of one cycle by the numbers of nets, found one after the other.
use Rattle.std.specs.Prelude.{◌≡◌, ℕ, zero, suc, ◌+◌, ◌<◌, ◌≤◌, nat_lt, if◌then◌else◌, List, length, slice_index, Contains}
use Rattle.cg_config.specs.Known.{HasSelect}
use Rattle.cg_model.specs.Array.{Arch, IsArch}
use Rattle.cg_model.specs.Config.{Config, select}
use Rattle.cg_model.specs.Canonical.{IsCanonical}
use Rattle.cg_datapath.specs.Course.{Course, Keeps, result_ago}
use Rattle.cg_netlist.specs.declared.forms.Form.TheVariants.{Zero as ZeroForm}
use Rattle.cg_netlist.specs.Netlist.{NetGraph}
use Rattle.cg_netlist.specs.Graph.{IsNetGraph}
use Rattle.cg_gates.specs.declared.tables.SelectCell.{SelectCell}
use Rattle.cg_gates.specs.declared.tables.Choice.{Choice}
use Rattle.cg_gates.specs.declared.tables.Choices.{Choices}
use Rattle.cg_gates.specs.Shape.{Shape, shapes}
use Rattle.cg_gates.specs.Gates.{GateCycle, gates_ago}
use Rattle.cg_gates.specs.Accepts.{IsAccepted, net_name}
use Rattle.cg_gates.specs.Tables.{select_cell, choice, AreTerminals}

-- ---- contexts and preselects

-- the net of each cell has one of `size` words, and the configuration has a select of its resource in the slot
abbrev pub AreSelectable : Config → ℕ → List SelectCell → ℕ → Type 0
AreSelectable C slot es size = (j : ℕ) → j < length es →
    HasSelect C (select_cell es j).resource slot × ((select_cell es j).net < size)

-- the selects at the slot are the words f of their nets
abbrev pub GiveSelects : Config → ℕ → List SelectCell → (ℕ → ℕ) → Type 0
GiveSelects C slot es f = (j : ℕ) → j < length es → select C (select_cell es j).resource slot ≡ f (select_cell es j).net

-- the nets of the first i entries have their words
abbrev pub AreSelectsRight : List SelectCell → ℕ → List ℕ → (ℕ → ℕ) → Type 0
AreSelectsRight es i words f = (j : ℕ) → j < i → slice_index words (select_cell es j).net ≡ f (select_cell es j).net

-- ---- registers and muxes

-- the word that an entry chooses for that select: 0 for none, and past the last
abbrev pub chosen_by : List ℕ → List ℕ → Choice → ℕ → ℕ
chosen_by heard words e zero = 0
chosen_by heard words e (suc k) = if nat_lt k e.count then slice_index words (slice_index heard (e.first + k)) else 0

-- the word that entry j chooses
abbrev pub chosen : Choices → List ℕ → ℕ → ℕ
chosen t words j = chosen_by t.heard.items words (choice t.entries.items j) (slice_index words (choice t.entries.items j).select)

-- each net of an entry has one of `size` words
pub record IsReadable (heard : List ℕ) (size : ℕ) (e : Choice) : Type 0 where
  pub net : e.net < size
  pub select : e.select < size
  pub within : e.first + e.count ≤ length heard
  pub each : (k : ℕ) → k < e.count → slice_index heard (e.first + k) < size

abbrev pub AreReadable : Choices → ℕ → Type 0
AreReadable t size = (j : ℕ) → j < length t.entries.items → IsReadable t.heard.items size (choice t.entries.items j)

-- the words before determine those of the registers
abbrev pub GiveRegisters : Choices → List ℕ → (ℕ → ℕ) → Type 0
GiveRegisters t before f = (j : ℕ) → j < length t.entries.items → chosen t before j ≡ f (choice t.entries.items j).net

-- the nets of the first i entries have their words
abbrev pub AreRight : Choices → ℕ → List ℕ → (ℕ → ℕ) → Type 0
AreRight t i words f = (j : ℕ) → j < i → slice_index words (choice t.entries.items j).net ≡ f (choice t.entries.items j).net

-- each mux has the right word as soon as the muxes before it have theirs
abbrev pub GiveMuxes : Choices → List ℕ → (ℕ → ℕ) → Type 0
GiveMuxes t old f = (j : ℕ) → j < length t.entries.items → (words : List ℕ) → Keeps f old words → AreRight t j words f →
    chosen t words j ≡ f (choice t.entries.items j).net

-- ---- a cycle

-- net i is driven by a cell that gives 0
abbrev pub IsZero : NetGraph → ℕ → Type 0
IsZero N i = (c : Shape) × Contains (shapes N) c × (c.form ≡ ZeroForm) × (c.q ≡ net_name N i)

-- words by the numbers of nets, and one more that is 0; the nets of cells that give 0 have the word 0
pub record AreByNet (N : NetGraph) (words : List ℕ) : Type 0 where
  pub long : length words ≡ length N.nets + 1
  pub none : slice_index words (length N.nets) ≡ 0
  pub zeros : (i : ℕ) → i < length N.nets → IsZero N i → slice_index words i ≡ 0

-- an accepted netlist under a canonical configuration, and a course of its units
pub record IsFitted (A : Arch) (N : NetGraph) (C : Config) (k : Course) : Type 0 where
  pub valid : IsArch A
  pub graph : IsNetGraph N
  pub accepted : IsAccepted A N
  pub canonical : IsCanonical A C
  pub config : k.config ≡ C
  pub terminals : AreTerminals A N k.terminals

-- each net has the word of its name
abbrev pub HaveWords : NetGraph → List ℕ → (List ℕ → ℕ) → Type 0
HaveWords N words f = (i : ℕ) → i < length N.nets → slice_index words i ≡ f (net_name N i)

-- the words before and the results of the course are those of that past
pub record Precedes (A : Arch) (N : NetGraph) (past : List GateCycle) (k : Course) (before : List ℕ) : Type 0 where
  pub words : HaveWords N before (gates_ago past 1).nets
  pub results : (x d : ℕ) → x < length A.units → 0 < d → d ≤ 4 → result_ago k x d ≡ (gates_ago past d).results x

-- the words are the values of f at their nets
pub record IsSettled (N : NetGraph) (words : List ℕ) (f : List ℕ → ℕ) : Type 0 where
  pub by_net : AreByNet N words
  pub are : HaveWords N words f
